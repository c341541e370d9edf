-- Reading values in a row.
use Rattle.std.proofs.Common.{◌≡◌, ℕ, zero, suc, eqb, false, ◌<◌, ◌^◌, Bool, List, [], ◌∷◌, ◌++◌, length, refl, sym, ap, ◌∙◌, append_assoc, arith}
use Rattle.std.proofs.lemmas.List.{append-nil, length-append}
use Rattle.std.specs.List.{flat_map, AllByRecursion}
use Rattle.krb_der_core.specs.declared.error.Asn1DerError.{Asn1DerError}
use Rattle.krb_der_core.specs.declared.error.Asn1DerError.TheVariants as errors
use Rattle.krb_der_core.specs.Reading.{TakesPrefix, NoPrefix, RejectsPrefix, RejectsAll, Encodings}
use Rattle.krb_der_core.specs.Encoding.{IsElement, OneValue}
use Rattle.krb_der.specs.ListLaws.{peel, row_long}

pub record ReadSoFar {A : Type 0} (enc : A → List ℕ) (is_value : A → Type 0) (items : List A) (rest input : List ℕ) : Type 0 where
  pub values : AllByRecursion is_value items
  pub parts : input ≡ flat_map enc items ++ rest

pub All-push : {A : Type 0} (P : A → Type 0) (xs : List A) (y : A) → AllByRecursion P xs → P y → AllByRecursion P (xs ++ y ∷ [])
All-push P [] y h p = (p, tt)
All-push P (x ∷ xs) y h p = (h.0, All-push P xs y h.1 p)

pub flat_map-push : {A : Type 0} (f : A → List ℕ) (xs : List A) (y : A) → flat_map f (xs ++ y ∷ []) ≡ flat_map f xs ++ f y
flat_map-push f [] y = append-nil (f y)
flat_map-push f (x ∷ xs) y = ap (λ (l : List ℕ). f x ++ l) (flat_map-push f xs y) ∙ sym (append_assoc (f x) (flat_map f xs) (f y))

module _ {A : Type 0} (enc : A → List ℕ) (is_value : A → Type 0) where
  pub read_all : (items : List A) (rest input : List ℕ) → length rest ≡ 0 → ReadSoFar enc is_value items rest input → input ≡ flat_map enc items
  read_all items [] input e r = r.parts ∙ append-nil (flat_map enc items)
  read_all items (i ∷ is) input e r = absurd (omega arith)

  module _ (first : ℕ → Bool) (element : (v : A) → is_value v → IsElement first (enc v)) (one : OneValue is_value enc) where
    pub takes_some : (x : A) (n : ℕ) (rest : List ℕ) → is_value x → TakesPrefix (enc x) n rest → 0 < n
    takes_some x n rest hx f = omega (arith, row_long enc is_value first element x [] hx, length-append (enc x) [], f.count)

    no_row : (zs : List A) (rest : List ℕ) → 0 < length rest → length rest < 2 ^ 64 → NoPrefix (Encodings is_value enc) rest → AllByRecursion is_value zs → rest ≡ flat_map enc zs → ⊥
    no_row [] rest some lt none hz q = omega (arith, ap length q)
    no_row (z ∷ zs) rest some lt none hz q = none (enc z) (flat_map enc zs) (z, hz.0, omega (arith, ap length q, length-append (enc z) (flat_map enc zs)), refl) q

    stuck : (items : List A) (rest input : List ℕ) → 0 < length rest → length rest < 2 ^ 64 → ReadSoFar enc is_value items rest input → NoPrefix (Encodings is_value enc) rest → (v : List A) → AllByRecursion is_value v → input ≡ flat_map enc v → ⊥
    stuck items rest input some lt r none v hv q =
        let z = peel enc is_value first element one items v rest r.values hv (sym r.parts ∙ q) in
        no_row z.0 rest some lt none z.1 z.2

    pub row_rejected : (items : List A) (rest input : List ℕ) (e : Asn1DerError) → 0 < length rest → length rest < 2 ^ 64 → ReadSoFar enc is_value items rest input → RejectsPrefix (Encodings is_value enc) rest e → RejectsAll (AllByRecursion is_value) (flat_map enc) input e
    row_rejected items rest input errors.OutOfMemory some lt r f = tt
    row_rejected items rest input errors.TruncatedData some lt r f = stuck items rest input some lt r f
    row_rejected items rest input errors.InvalidData some lt r f = stuck items rest input some lt r f.0
    row_rejected items rest input errors.UnsupportedValue some lt r f = stuck items rest input some lt r f.0
    row_rejected items rest input (errors.Io io) some lt r f = f

pub positive : (n : ℕ) → eqb n 0 ≡ false → 0 < n
positive zero e = absurd cc
positive (suc n) e = omega arith
