-- What is told of octets.
use Rattle.std.specs.Prelude.{◌≡◌, ℕ, Bool, List, [], Result, MatchResult, IfErr}
use Rattle.krb_der_core.specs.Errors.{OrMemory, ValueError}
use Rattle.krb_der_core.specs.declared.error.Asn1DerError.{Asn1DerError}
use Rattle.krb_der_core.specs.declared.error.Asn1DerError.TheVariants as errors
use Rattle.krb_der.specs.Whole.{NoDevice}
use Rattle.krb_der_core.specs.declared.der.DerEncode.{Ghosts as EncodingOf}
use Rattle.krb_show.specs.declared.show.Show.{Ghosts as ShowingOf}
use Rattle.krb_show.specs.Tokens.{Label, Token}

-- the octets are the encoding of a value, and this is its page
abbrev pub IsPageOf : {A : Type 0} → (A → Type 0) → (A → List ℕ) → (A → List Token → List Token → Type 0) → List ℕ → List Token → Type 0
IsPageOf {A} is_value enc shows octets page = (v : A) × is_value v × (octets ≡ enc v) × shows v [] page

-- Where a page is answered it is that of the value whose encoding the octets are; where they are an encoding it is answered, but for want of
-- memory; and else the octets are refused with their first error, as by `from_bytes`.
pub record IsTold {A P : Type 0} (is_value : A → Type 0) (enc : A → List ℕ) (first : ℕ → Bool) (error : ℕ → List ℕ → Asn1DerError → Type 0)
    (shows : A → List Token → List Token → Type 0) (tokens : P → List Token) (octets : List ℕ) (result : Result P Asn1DerError) : Type 0 where
  pub found : MatchResult result (λ p. IsPageOf is_value enc shows octets (tokens p)) (λ e. Unit {0})
  pub reads : (v : A) → is_value v → octets ≡ enc v → MatchResult result (λ p. Unit {0}) (λ e. e ≡ errors.OutOfMemory)
  pub first_error : IfErr result (OrMemory (ValueError is_value enc first error octets))
  pub no_device : IfErr result NoDevice

-- the same of octets of a type, and of a way of showing it
abbrev pub IsToldBy : {K A P : Type 0} → EncodingOf A → ShowingOf A K → Label → (P → List Token) → List ℕ → Result P Asn1DerError → Type 0
IsToldBy encoding showing label tokens octets result = IsTold encoding.is_value encoding.enc encoding.first encoding.error (showing.shows label) tokens octets result
