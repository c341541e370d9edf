-- Elements without elements, by the types of X.690 and of RFC 4120, 5.2.
use Rattle.std.specs.Prelude.{◌≡◌, ℕ, ◌<◌, ◌^◌, ℤ, pos, Bool, List}
use Rattle.std.specs.Str.{IsAscii}
use Rattle.krb_der_core.specs.Tlv.{tlv}
use Rattle.krb_der_core.specs.Integer.{shortest}
use Rattle.krb_der_core.specs.Primitive.{bool_content}
use Rattle.krb_der_core.specs.BitString.{IsBits, bits_content}
use Rattle.krb_der_core.specs.GeneralizedTime.{IsRealTime, time_content}
use Rattle.krb_der_x509.specs.ObjectIdentifier.{IsArcs, arcs_content}
use Rattle.krb_schema.specs.declared.shape.Leaf.{Leaf}
use Rattle.krb_schema.specs.declared.shape.Leaf.TheVariants as leaves

-- the element of this tag and content is that of a value
abbrev pub IsOf : {A : Type 0} → (A → Type 0) → (A → List ℕ) → ℕ → List ℕ → Type 0
IsOf {A} is_value octets_of tag content = (v : A) × is_value v × (tlv tag content ≡ octets_of v)

-- the content is that of a leaf, whatever its tag
abbrev pub IsLeaf : Leaf → List ℕ → Type 0
IsLeaf leaves.Integer content = IsOf {A = ℤ} (λ v. Unit {0}) (λ v. tlv 2 (shortest v)) 2 content
IsLeaf (leaves.Number n) content = IsOf {A = ℤ} (λ v. Unit {0}) (λ v. tlv 2 (shortest v)) 2 content
IsLeaf leaves.Microseconds content = IsOf {A = ℤ} (λ v. Unit {0}) (λ v. tlv 2 (shortest v)) 2 content
IsLeaf leaves.Unsigned content = IsOf {A = ℕ} (λ v. v < 2 ^ 32) (λ v. tlv 2 (shortest (pos v))) 2 content
IsLeaf leaves.Flags content = IsOf IsBits (λ v. tlv 3 (bits_content v)) 3 content
IsLeaf leaves.Bits content = IsOf IsBits (λ v. tlv 3 (bits_content v)) 3 content
IsLeaf leaves.Text content = IsOf IsAscii (λ v. tlv 27 v) 27 content
IsLeaf leaves.Component content = IsOf IsAscii (λ v. tlv 27 v) 27 content
IsLeaf leaves.Time content = IsOf IsRealTime (λ v. tlv 24 (time_content v)) 24 content
IsLeaf leaves.Octets content = Unit {0}
IsLeaf leaves.Secret content = Unit {0}
IsLeaf leaves.Cipher content = Unit {0}
IsLeaf leaves.Truth content = IsOf {A = Bool} (λ v. Unit {0}) (λ v. tlv 1 (bool_content v)) 1 content
IsLeaf leaves.Identifier content = IsOf IsArcs (λ v. tlv 6 (arcs_content v)) 6 content
IsLeaf leaves.Any content = Unit {0}
