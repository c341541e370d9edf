-- What the encodings of a type keep, whatever the type.
use Rattle.std.specs.Prelude.{◌≡◌, ℕ, ◌<◌, Bool, true, false, List, [], ◌∷◌, Option, Some, None, slice_index}
use Rattle.krb_der_core.specs.Tlv.{tlv}

-- b is one element, whose tag is among the first octets
pub record IsElement (first : ℕ → Bool) (b : List ℕ) : Type 0 where
  pub tag : ℕ
  pub content : List ℕ
  pub whole : b ≡ tlv tag content
  pub begins : first tag ≡ true

-- b is a SEQUENCE of some content
abbrev pub IsSequence : List ℕ → Type 0
IsSequence b = (content : List ℕ) × (b ≡ tlv 48 content)

-- equal encodings are of equal values
abbrev pub OneValue : {A : Type 0} → (A → Type 0) → (A → List ℕ) → Type 0
OneValue {A} is_value enc = (v w : A) → is_value v → is_value w → enc v ≡ enc w → v ≡ w

-- the octets are none, or the first is one of these
abbrev pub BeginsWith : (ℕ → Bool) → List ℕ → Type 0
BeginsWith begins [] = Unit {0}
BeginsWith begins (b ∷ bs) = begins b ≡ true

-- no octet is one of both
abbrev pub Apart : (ℕ → Bool) → (ℕ → Bool) → Type 0
Apart f g = (t : ℕ) → f t ≡ true → g t ≡ false

-- the encoding of a value that may be absent: then it is nothing
abbrev pub optional : {A : Type 0} → (A → List ℕ) → Option A → List ℕ
optional enc None = []
optional enc (Some v) = enc v

-- each of these numbers is an octet
abbrev pub IsOctets : List ℕ → Type 0
IsOctets bs = (i : ℕ) → slice_index bs i < 256
