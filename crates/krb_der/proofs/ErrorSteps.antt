-- How the first error of a part becomes that of the whole.
use Rattle.std.proofs.Common.{◌≡◌, ℕ, ◌-◌, ◌<◌, List, length, take, drop, ap, subst, arith, inr, length-append}
use Rattle.std.proofs.lemmas.List.{take_rest}
use Rattle.krb_der_core.specs.declared.error.Asn1DerError.{Asn1DerError}
use Rattle.krb_der_core.specs.declared.error.Asn1DerError.TheVariants as errors
use Rattle.krb_der_core.specs.Reading.{TakesPrefix}
use Rattle.krb_der_core.specs.Errors.{at_start, left_over}
use Rattle.krb_der_core.specs.Errors.{OrMemory, WholeError}
use Rattle.krb_der_core.proofs.FirstErrors.{or_memory}
use Rattle.krb_der.specs.FieldErrors.{in_left, in_right}
use Rattle.krb_der.specs.FieldErrors.{PairError}

module _ {A : Type 0} (is_value : A → Type 0) (octets_of : A → List ℕ) (ends : A → List ℕ → Type 0) (error : List ℕ → Asn1DerError → Type 0) where
  pub prefix_wrong : (octets : List ℕ) (e : Asn1DerError) → OrMemory (error octets) e → OrMemory (WholeError is_value octets_of ends error octets) e
  prefix_wrong octets e h = or_memory (error octets) (WholeError is_value octets_of ends error octets) e (at_start e) h

  pub too_many : (v : A) (n : ℕ) (octets : List ℕ) → is_value v → TakesPrefix (octets_of v) n octets → ends v (drop n octets) → (n ≡ length octets → ⊥) → OrMemory (WholeError is_value octets_of ends error octets) errors.InvalidData
  too_many v n octets hv f hends more =
      let some : 0 < length (drop n octets) = omega (arith, f.count, ap length f.prefix, length-append (octets_of v) (drop n octets), more) in
      inr (left_over v (drop n octets) hv f.prefix hends some)

module _ {L : Type 0} (are_values : L → Type 0) (octets_of : L → List ℕ) (ends : L → List ℕ → Type 0) (left right : List ℕ → Asn1DerError → Type 0) where
  pub left_wrong : (octets : List ℕ) (e : Asn1DerError) → OrMemory (left octets) e → OrMemory (PairError are_values octets_of ends left right octets) e
  left_wrong octets e h = or_memory (left octets) (PairError are_values octets_of ends left right octets) e (in_left e) h

  pub right_wrong : (v : L) (n : ℕ) (octets : List ℕ) (e : Asn1DerError) → are_values v → TakesPrefix (octets_of v) n octets → ends v (drop n octets) → OrMemory (right (take (length octets - n) (drop n octets))) e → OrMemory (PairError are_values octets_of ends left right octets) e
  right_wrong v n octets e hv f hends h =
      let trailing : OrMemory (right (drop n octets)) e = subst (λ (l : List ℕ). OrMemory (right l) e) (take_rest octets n) h in
      or_memory (right (drop n octets)) (PairError are_values octets_of ends left right octets) e (in_right v (drop n octets) e hv f.prefix hends) trailing
