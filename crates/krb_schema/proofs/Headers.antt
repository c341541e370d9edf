-- Faults of the tag and the length of an element.
use Rattle.std.proofs.Common.{◌≡◌, ℕ, refl, sym, ap, ◌∙◌, subst, List, [], ◌∷◌, length, true, false, slice_index_or, Option, arith}
use Rattle.std.specs.Prelude.{◌==◌}
use Rattle.std.proofs.lemmas.Bool.{eqb-true, eq-eqb}
use Rattle.krb_der_core.specs.declared.error.Asn1DerError.{Asn1DerError}
use Rattle.krb_der_core.specs.declared.error.Asn1DerError.TheVariants as errors
use Rattle.krb_der_core.specs.Errors.{HeaderError, PrefixError, no_tag, wrong_tag, wrong_length, cut_content, wrong_content}
use Rattle.krb_der_core.specs.ErrorLaws.{clash}
use Rattle.krb_schema.specs.declared.item.Fault.TheVariants as faults
use Rattle.krb_schema.specs.Shapes.{is_first}
use Rattle.krb_schema.specs.Faults.{IsHeaderFault}

nothing : (octets : List ℕ) → length octets ≡ 0 → octets ≡ []
nothing [] e = refl
nothing (x ∷ xs) e = absurd (omega (arith, e))

something : (octets : List ℕ) → (length octets ≡ 0 → ⊥) → (rest : List ℕ) × (octets ≡ slice_index_or octets 0 0 ∷ rest)
something [] some = absurd (some refl)
something (x ∷ xs) some = (xs, refl)

pub empty_fault : (tag : Option ℕ) (at : ℕ) (octets : List ℕ) → length octets ≡ 0 → IsHeaderFault tag at octets (faults.Refused errors.TruncatedData at)
empty_fault tag at octets e = (errors.TruncatedData, no_tag (nothing octets e), refl)

pub other_fault : (tag : Option ℕ) (at : ℕ) (octets : List ℕ) → (length octets ≡ 0 → ⊥) → is_first tag (slice_index_or octets 0 0) ≡ false
    → IsHeaderFault tag at octets (faults.Refused errors.InvalidData at)
other_fault tag at octets some e =
    let r = something octets some in
    (errors.InvalidData, wrong_tag (slice_index_or octets 0 0) r.0 r.1 e, refl)

header_as : (tag : Option ℕ) (t : ℕ) (octets rest : List ℕ) (why : Asn1DerError) → is_first tag t ≡ true → octets ≡ t ∷ rest → HeaderError t octets why
    → PrefixError (is_first tag) (λ u content e. ⊥) octets why
header_as tag t octets rest why first e (no_tag p) = no_tag p
header_as tag t octets rest why first e (wrong_tag u a p w) = absurd (clash (u == t) (eq-eqb u t (ap (λ (o : List ℕ). slice_index_or o 0 0) (sym p ∙ e))) w)
header_as tag t octets rest why first e (wrong_length u a d p w f) = wrong_length u a d p (subst (λ (n : ℕ). is_first tag n ≡ true) (sym (eqb-true u t w)) first) f
header_as tag t octets rest why first e (cut_content u n a p w less short) =
    cut_content u n a p (subst (λ (m : ℕ). is_first tag m ≡ true) (sym (eqb-true u t w)) first) less short
header_as tag t octets rest why first e (wrong_content u c a d p w less f) = absurd f

pub same_fault : (tag : Option ℕ) (at : ℕ) (octets : List ℕ) (why : Asn1DerError) → (length octets ≡ 0 → ⊥) → is_first tag (slice_index_or octets 0 0) ≡ true
    → HeaderError (slice_index_or octets 0 0) octets why → IsHeaderFault tag at octets (faults.Refused why at)
same_fault tag at octets why some first h =
    let r = something octets some in
    (why, header_as tag (slice_index_or octets 0 0) octets r.0 why first r.1 h, refl)
