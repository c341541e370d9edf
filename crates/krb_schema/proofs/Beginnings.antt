-- Octets that begin as an element.
use Rattle.std.proofs.Common.{◌≡◌, ℕ, ◌<◌, refl, sym, ap, ◌∙◌, subst, List, [], ◌∷◌, ◌++◌, length, true, false, arith, slice_index_or, Option}
use Rattle.krb_der_core.specs.Tlv.{tlv, len}
use Rattle.krb_der_core.specs.ErrorLaws.{clash}
use Rattle.krb_schema.specs.Shapes.{Begins, is_first}

pub begins : (tag : Option ℕ) (octets : List ℕ) → (length octets ≡ 0 → ⊥) → is_first tag (slice_index_or octets 0 0) ≡ true → Begins tag octets
begins tag [] some e = absurd (some refl)
begins tag (x ∷ xs) some e = (x, xs, refl, e)

pub begins_not : (tag : Option ℕ) (octets : List ℕ) → is_first tag (slice_index_or octets 0 0) ≡ false → Begins tag octets → ⊥
begins_not tag octets e b = clash (is_first tag b.0) b.3 (subst (λ (o : List ℕ). is_first tag (slice_index_or o 0 0) ≡ false) b.2 e)

pub empty_begins_not : (tag : Option ℕ) (octets : List ℕ) → length octets ≡ 0 → Begins tag octets → ⊥
empty_begins_not tag octets e b = absurd (omega (arith, e, ap (λ (l : List ℕ). length l) b.2))

-- what begins so, where some of it stands before a rest
pub begins_before : (tag : Option ℕ) (octets front rest : List ℕ) → octets ≡ front ++ rest → Begins tag octets → 0 < length front → Begins tag front
begins_before tag octets [] rest e b some = absurd (omega (arith, some))
begins_before tag octets (x ∷ xs) rest e b some = (x, xs, refl, subst (λ (n : ℕ). is_first tag n ≡ true) (ap (λ (o : List ℕ). slice_index_or o 0 0) (sym b.2 ∙ e)) b.3)

pub begins_behind : (tag : Option ℕ) (octets front rest : List ℕ) → octets ≡ front ++ rest → Begins tag front → Begins tag octets
begins_behind tag octets front rest e b = (b.0, b.1 ++ rest, e ∙ ap (λ (o : List ℕ). o ++ rest) b.2, b.3)

pub tlv_begins : (tag : Option ℕ) (t : ℕ) (octets content rest : List ℕ) → is_first tag t ≡ true → octets ≡ tlv t content ++ rest → Begins tag octets
unfolding tlv
tlv_begins tag t octets content rest first e = (t, (len (length content) ++ content) ++ rest, e, first)

pub first_of_tlv : (tag : Option ℕ) (t : ℕ) (octets content rest : List ℕ) → octets ≡ tlv t content ++ rest → Begins tag octets → is_first tag t ≡ true
unfolding tlv
first_of_tlv tag t octets content rest e b = subst (λ (n : ℕ). is_first tag n ≡ true) (ap (λ (l : List ℕ). slice_index_or l 0 0) (sym b.2 ∙ e)) b.3
