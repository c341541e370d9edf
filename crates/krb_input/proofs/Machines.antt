-- What is written of one more octet, and of all.
use Rattle.std.proofs.Common.{◌≡◌, ℕ, ◌+◌, ◌<◌, ◌≤◌, add-one, ap, sym, ◌∙◌, List, ◌∷◌, ◌++◌, drop, length, slice_index_or}
use Rattle.std.proofs.lemmas.List.{append_assoc, drop_all}
use Rattle.std.proofs.Math.Seq.{drop-cons}
use Rattle.krb_input.specs.Machines.{written_from}

pub written_more : {S : Type 0} (writes : S → ℕ → List ℕ) (next : S → ℕ → S) (left : S → List ℕ) (state : S) (text written : List ℕ) (i : ℕ) → i < length text
    → (written ++ writes state (slice_index_or text i 0)) ++ written_from writes next left (next state (slice_index_or text i 0)) (drop (i + 1) text)
    ≡ written ++ written_from writes next left state (drop i text)
written_more writes next left state text written i small =
    let octet = slice_index_or text i 0 in
    let more = drop (i + 1) text in
    let here : drop i text ≡ octet ∷ more = rw add-one (drop-cons text i 0 small) in
    append_assoc written (writes state octet) (written_from writes next left (next state octet) more)
    ∙ ap (λ l. written ++ written_from writes next left state l) (sym here)

pub written_all : {S : Type 0} (writes : S → ℕ → List ℕ) (next : S → ℕ → S) (left : S → List ℕ) (state : S) (text written : List ℕ) (i : ℕ) → length text ≤ i
    → written ++ left state ≡ written ++ written_from writes next left state (drop i text)
written_all writes next left state text written i all = ap (λ l. written ++ written_from writes next left state l) (sym (drop_all i text all))
