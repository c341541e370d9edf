-- What octets begin with after more were appended, and what holds of any error.
use Rattle.std.proofs.Common.{ap, sym, ◌∙◌, ℕ, ◌≡◌, List, ◌++◌, drop, length, take, Result, Ok, Err, IfErr}
use Rattle.std.proofs.Math.Seq.{take-append_seam}
use Rattle.std.proofs.lemmas.List.{append_assoc, take-append-drop}
use Rattle.krb_files.specs.FieldWritten.{Begins}

-- what begins with these octets and more begins with these
pub begins_longer : (old more middle new : List ℕ) → middle ≡ old ++ more → Begins middle new → Begins old new
begins_longer old more middle new is begins =
    let rest = drop (length middle) new in
    let whole = sym (take-append-drop (length middle) new) ∙ ap (λ l. l ++ rest) (begins ∙ is) ∙ append_assoc old more rest in
    ap (take (length old)) whole ∙ take-append_seam old (more ++ rest)

pub if_error_any : {T E : Type 0} {P : Type 0} (r : Result T E) → P → IfErr r (λ e. P)
if_error_any (Ok v) p = tt
if_error_any (Err e) p = p
