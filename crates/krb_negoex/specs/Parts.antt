-- What the fixed parts say in a message, and how values are laid (MS-NEGOEX 2.2.5): numbers are little-endian, offsets count from
-- the first octet of the message.
use Rattle.std.specs.Prelude.{◌≡◌, ℕ, ◌+◌, ◌*◌, ◌^◌, ◌<◌, ◌≤◌, List, [], ◌∷◌, ◌++◌, length, drop}
use Rattle.byteorder.specs.Endian.{little_number, little_bytes}

-- these are the values whose fixed parts are one after the other in m, from k on
abbrev pub Elements : {A : Type 0} → (List ℕ → List ℕ → A → Type 0) → ℕ → List ℕ → ℕ → List A → Type 0
Elements part width m k [] = Unit {0}
Elements part width m k (v ∷ vs) = part (drop k m) m v × Elements part width m (k + width) vs

-- octets that begin with an offset, which lies in m, and a count of the values there (MS-NEGOEX 2.2.5.2)
pub record VectorPart {A : Type 0} (part : List ℕ → List ℕ → A → Type 0) (width : ℕ) (f m : List ℕ) (vs : List A) : Type 0 where
  pub room : 8 ≤ length f
  pub count : little_number 4 (drop 4 f) ≡ length vs
  pub inside : little_number 4 f ≤ length m
  pub elements : Elements part width m (little_number 4 f) vs

-- the values in both lists are the same, one by one
abbrev pub SameAll : {A : Type 0} → (A → A → Type 0) → List A → List A → Type 0
SameAll same [] [] = Unit {0}
SameAll same [] (w ∷ ws) = ⊥
SameAll same (v ∷ vs) [] = ⊥
SameAll same (v ∷ vs) (w ∷ ws) = same v w × SameAll same vs ws

-- each value has the property
abbrev pub AllOf : {A : Type 0} → (A → Type 0) → List A → Type 0
AllOf P [] = Unit {0}
AllOf P (v ∷ vs) = P v × AllOf P vs

-- the sizes, added
abbrev pub total : {A : Type 0} → (A → ℕ) → List A → ℕ
total size [] = 0
total size (v ∷ vs) = size v + total size vs

-- the fixed parts of the values, the first payload standing at o
abbrev pub fixeds : {A : Type 0} → (ℕ → A → List ℕ) → (A → ℕ) → ℕ → List A → List ℕ
fixeds fixed size o [] = []
fixeds fixed size o (v ∷ vs) = fixed o v ++ fixeds fixed size (o + size v) vs

-- each value has a place, the first payload standing at o
abbrev pub AllLaid : {A : Type 0} → (ℕ → A → Type 0) → (A → ℕ) → ℕ → List A → Type 0
AllLaid laid size o [] = Unit {0}
AllLaid laid size o (v ∷ vs) = laid o v × AllLaid laid size (o + size v) vs

-- an offset and a count; zeros for an empty vector
abbrev pub vector_fixed : {A : Type 0} → ℕ → List A → List ℕ
vector_fixed o [] = 0 ∷ 0 ∷ 0 ∷ 0 ∷ 0 ∷ 0 ∷ 0 ∷ 0 ∷ []
vector_fixed o (v ∷ vs) = little_bytes 4 o ++ little_bytes 4 (length (v ∷ vs))

-- the fixed parts, and then the payloads
abbrev pub vector_payload : {A : Type 0} → (ℕ → A → List ℕ) → (ℕ → A → List ℕ) → (A → ℕ) → ℕ → ℕ → List A → List ℕ
vector_payload fixed payload size width o vs =
    fixeds fixed size (o + width * length vs) vs ++ fixeds payload size (o + width * length vs) vs

-- offsets and counts fit their 32 bits
abbrev pub VectorLaid : {A : Type 0} → (ℕ → A → Type 0) → (A → ℕ) → ℕ → ℕ → List A → Type 0
VectorLaid laid size width o [] = Unit {0}
VectorLaid laid size width o (v ∷ vs) = (o < 2 ^ 32) × (length (v ∷ vs) < 2 ^ 32) × AllLaid laid size (o + width * length (v ∷ vs)) (v ∷ vs)
