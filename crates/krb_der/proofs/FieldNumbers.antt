-- A number that two sums name.
use Rattle.std.proofs.Common.{◌≡◌, ◌↔◌, ◌==◌, ℕ, ◌+◌, List, subst}
use Rattle.krb_der_core.specs.declared.error.Asn1DerError.{Asn1DerError}
use Rattle.krb_der_core.specs.Errors.{PrefixError, TaggedError}

-- the first error of a mandatory field under the tag of one number is that under the tag of the other
pub same_number : (m n : ℕ) → m ≡ n → (error : List ℕ → Asn1DerError → Type 0) (octets : List ℕ) (e : Asn1DerError)
    → PrefixError (λ t. t == 160 + m) (TaggedError (160 + m) error) octets e ↔ PrefixError (λ t. t == 160 + n) (TaggedError (160 + n) error) octets e
same_number m n same error octets e =
    subst (λ (k : ℕ). PrefixError (λ t. t == 160 + m) (TaggedError (160 + m) error) octets e ↔ PrefixError (λ t. t == 160 + k) (TaggedError (160 + k) error) octets e) same (λ f. f, λ f. f)
