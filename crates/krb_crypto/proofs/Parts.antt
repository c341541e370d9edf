-- What opened octets say of the value at their prefix.
use Rattle.std.proofs.Common.{◌≡◌, inl, inr, ℕ, ◌≤◌, ◌-◌, Bool, List, ◌++◌, length, take, drop, replicate, ap, sym, ◌∙◌, refl, arith, append_assoc, length-append}
use Rattle.std.proofs.Math.Seq.{take-append_seam}
use Rattle.std.proofs.lemmas.List.{take-replicate, length-replicate, take_rest}
use Rattle.krb_crypto_hash.specs.CryptoError.{IsMemoryOr}
use Rattle.krb_crypto_hash.specs.declared.error.KerberosCryptoError.{KerberosCryptoError}
use Rattle.krb_crypto_hash.specs.declared.error.KerberosCryptoError.TheVariants.{OutOfMemory}
use Rattle.krb_der_core.specs.Encoding.{IsElement, OneValue}
use Rattle.krb_der_core.specs.Reading.{TakesPrefix}
use Rattle.krb_der_core.specs.TlvLaws.{field_apart}
use Rattle.krb_crypto_message.specs.Sealing.{Opens, IsOfNone}
use Rattle.krb_crypto.specs.Padded.{IsFewZeros}

module _ {A : Type 0} (is_value : A → Type 0) (enc : A → List ℕ) (first : ℕ → Bool) (element : (v : A) → is_value v → IsElement first (enc v)) (one : OneValue is_value enc) where
  -- the value that was read is the one whose encoding stands before, and the octets after it are the same
  pub prefix_is : (a v : A) (n : ℕ) (input rest : List ℕ) → is_value a → is_value v → TakesPrefix (enc a) n input → input ≡ enc v ++ rest → (a ≡ v) × (take (length input - n) (drop n input) ≡ rest)
  prefix_is a v n input rest ha hv f q =
      let s = field_apart enc is_value first element one a v (drop n input) rest ha hv (sym f.prefix ∙ q) in
      (s.0, take_rest input n ∙ s.1)

-- what was read, and the octets after it
pub prefix_and_rest : (prefix input : List ℕ) (n : ℕ) → TakesPrefix prefix n input → input ≡ prefix ++ take (length input - n) (drop n input)
prefix_and_rest prefix input n f = f.prefix ∙ ap (λ rest. prefix ++ rest) (sym (take_rest input n))

-- fewer zeros after a list were fewer zeros in it
few_prefix : (size zeros : ℕ) (rest : List ℕ) → IsFewZeros size (rest ++ replicate zeros 0) → IsFewZeros size rest
few_prefix size zeros rest few =
    let short : length rest ≤ few.0 = omega (arith, simp (length-append, length-replicate) at (ap length few.2)) in (
      length rest,
      omega (arith, short, few.1),
      sym (take-append_seam rest (replicate zeros 0)) ∙ ap (take (length rest)) few.2 ∙ take-replicate (length rest) few.0 0 short,
    )

-- a prefix with few zeros after it was given
pub given_from_prefix : (size : ℕ) (given : List ℕ → Type 0) (padded prefix rest : List ℕ) → Opens size given padded → padded ≡ prefix ++ rest → IsFewZeros size rest → given prefix
given_from_prefix size given padded prefix rest opens e few =
    (opens.exactly prefix).1 (record { zeros = few.0; fewer = few.1; concatenated = e ∙ ap (λ r. prefix ++ r) few.2; whole = opens.whole.whole })

-- what was given is a prefix, with few zeros after it
pub prefix_from_given : (size : ℕ) (given : List ℕ → Type 0) (padded prefix : List ℕ) → Opens size given padded → given prefix → (rest : List ℕ) × (padded ≡ prefix ++ rest) × IsFewZeros size rest
prefix_from_given size given padded prefix opens h =
    let padding = (opens.exactly prefix).0 h in
    (replicate padding.zeros 0, padding.concatenated, (padding.zeros, padding.fewer, refl))

-- where a prefix with more after it was given, more is after it
pub trailing_from_given : (size : ℕ) (given : List ℕ → Type 0) (padded prefix rest : List ℕ) → Opens size given padded → given (prefix ++ rest) → ¬ IsFewZeros size rest → (more : List ℕ) × (padded ≡ prefix ++ more) × ¬ IsFewZeros size more
trailing_from_given size given padded prefix rest opens h not_few =
    let padding = (opens.exactly (prefix ++ rest)).0 h in
    (rest ++ replicate padding.zeros 0, padding.concatenated ∙ append_assoc prefix rest (replicate padding.zeros 0), λ few. not_few (few_prefix size padding.zeros rest few))

-- octets that are given for some payload are rejected for an allocation failure alone
pub memory_alone : (e : KerberosCryptoError) (given : List ℕ → Type 0) (payload : List ℕ) → IsMemoryOr e (IsOfNone given) → given payload → e ≡ OutOfMemory
memory_alone e given payload why h = elim why [ inl memory ↦ memory | inr none ↦ absurd (none payload h) ]
