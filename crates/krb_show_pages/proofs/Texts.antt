-- Lists whose items are seen as others, and readings that cannot be two.
use Rattle.std.proofs.Common.{◌≡◌, ℕ, List, [], ◌∷◌, map, sym, subst, Result, Ok, Err}
use Rattle.std.proofs.lemmas.List.{length-map}
use Rattle.std.specs.Fmt.{decimal}
use Rattle.krb_show.specs.declared.token.Form.TheVariants as form
use Rattle.krb_show.specs.Tokens.{Label, Token, adds, item_of, leaf}
use Rattle.krb_show.specs.Pages.{each_of, list_of}

module _ {A B : Type 0} (see : A → B) where
  pub each_mapped : (shows : B → List Token → List Token → Type 0) (items : List A) (old new : List Token) → each_of (λ v. shows (see v)) items old new
      → each_of shows (map see items) old new
  each_mapped shows [] old new e = e
  each_mapped shows (v ∷ vs) old new (between, p, q) = (between, p, each_mapped shows vs between new q)

  -- a list of items is that of what they are seen as
  pub list_mapped : (shows : Label → B → List Token → List Token → Type 0) (label : Label) (items : List A) (old new : List Token)
      → list_of (λ l v. shows l (see v)) label items old new → list_of shows label (map see items) old new
  list_mapped shows label items old new (first, p, (second, q, r)) = (
    first,
    subst (λ (n : ℕ). adds (leaf form.List label (decimal n)) old first) (sym (length-map items see)) p,
    (second, each_mapped (shows (item_of label)) items first second q, r),
  )

-- what is read is no error
pub read_apart : {A E : Type 0} (x : A) (e : E) → (let o : Result A E = Ok x in o ≡ Err e) → ⊥
read_apart x e h = absurd cc
