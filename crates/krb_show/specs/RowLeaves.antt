-- The tokens of elements without elements.
use Rattle.std.specs.Prelude.{◌≡◌, ◌⊎◌, ◌<◌, ◌^◌, ℕ, ℤ, pos, Bool, List, [], ◌∷◌, Option, None, Some}
use Rattle.krb_der_core.specs.BitString.{IsBits, bits_content}
use Rattle.krb_der_core.specs.GeneralizedTime.{IsRealTime, time_content}
use Rattle.krb_der_core.specs.Integer.{shortest}
use Rattle.krb_der_core.specs.Primitive.{bool_content}
use Rattle.krb_der_core.specs.Tlv.{tlv}
use Rattle.krb_der_x509.specs.ObjectIdentifier.{IsArcs, arcs_content, dotted}
use Rattle.krb_registry.specs.declared.kind.Kind.{Kind}
use Rattle.krb_schema.specs.declared.shape.Leaf.{Leaf}
use Rattle.krb_schema.specs.declared.shape.Leaf.TheVariants as leaves
use Rattle.krb_show.specs.Leaves.{cipher_of, flags_of, identifier_of, number_of, octets_of, secret_octets_of, text_of, time_of, truth_of}
use Rattle.krb_show.specs.Opened.{opened_or}
use Rattle.krb_show.specs.Tokens.{Label, Token}

-- the value whose element has this tag and content, and octets where they are of none
abbrev pub leaf_as : {A : Type 0} → (A → Type 0) → (A → List ℕ) → (Label → A → List Token → List Token → Type 0) → ℕ → Label → List ℕ
    → List Token → List Token → Type 0
leaf_as is_value enc shows tag label content = opened_or is_value enc (shows label) (octets_of label content) (tlv tag content)

-- the element is an ENUMERATED of one octet below 128 (X.690, 8.4), whose numbers have names
abbrev pub IsNamed : Option Kind → ℕ → List ℕ → ℕ → Type 0
IsNamed None tag content number = ⊥
IsNamed (Some kind) tag content number = (tag ≡ 10) × (number < 128) × (content ≡ number ∷ [])

-- any element: such a number, or all its octets
abbrev pub any_of : ℕ → Label → List ℕ → List Token → List Token → Type 0
any_of tag label content old new =
    ((number : ℕ) × IsNamed label.kind tag content number × number_of label (pos number) old new)
    ⊎ (((number : ℕ) → IsNamed label.kind tag content number → ⊥) × octets_of label (tlv tag content) old new)

-- a leaf with this tag and content, as the value that its content is of (X.690, 8; RFC 4120, 5.2)
abbrev pub leaf_of : Leaf → ℕ → Label → List ℕ → List Token → List Token → Type 0
leaf_of leaves.Integer tag = leaf_as {A = ℤ} (λ v. Unit {0}) (λ v. tlv 2 (shortest v)) number_of 2
leaf_of (leaves.Number n) tag = leaf_as {A = ℤ} (λ v. Unit {0}) (λ v. tlv 2 (shortest v)) number_of 2
leaf_of leaves.Microseconds tag = leaf_as {A = ℤ} (λ v. Unit {0}) (λ v. tlv 2 (shortest v)) number_of 2
leaf_of leaves.Unsigned tag = leaf_as {A = ℕ} (λ v. v < 2 ^ 32) (λ v. tlv 2 (shortest (pos v))) (λ label v. number_of label (pos v)) 2
leaf_of leaves.Flags tag = leaf_as IsBits (λ v. tlv 3 (bits_content v)) flags_of 3
leaf_of leaves.Bits tag = leaf_as IsBits (λ v. tlv 3 (bits_content v)) flags_of 3
leaf_of leaves.Text tag = text_of
leaf_of leaves.Component tag = text_of
leaf_of leaves.Time tag = leaf_as IsRealTime (λ v. tlv 24 (time_content v)) time_of 24
leaf_of leaves.Octets tag = octets_of
leaf_of leaves.Secret tag = secret_octets_of
leaf_of leaves.Cipher tag = cipher_of
leaf_of leaves.Truth tag = leaf_as {A = Bool} (λ v. Unit {0}) (λ v. tlv 1 (bool_content v)) truth_of 1
leaf_of leaves.Identifier tag = leaf_as IsArcs (λ v. tlv 6 (arcs_content v)) (λ label v. identifier_of label (dotted v)) 6
leaf_of leaves.Any tag = any_of tag
