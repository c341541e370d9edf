-- Rules of standards that values may break which are legal DER.
use Rattle.std.specs.Prelude.{◌≡◌, ℕ, ◌+◌, ◌*◌, ◌<◌, nat_lt, if◌then◌else◌, List, [], ◌∷◌, take, drop}
use Rattle.krb_schema.specs.declared.item.Form.{Form}
use Rattle.krb_schema.specs.declared.item.Form.TheVariants as form
use Rattle.krb_schema.specs.declared.item.Item.{Item}
use Rattle.krb_schema.specs.declared.item.Node.{Node}
use Rattle.krb_schema.specs.declared.item.Node.TheVariants as nodes
use Rattle.krb_schema.specs.declared.shape.Leaf.{Leaf}
use Rattle.krb_schema.specs.declared.shape.Leaf.TheVariants as leaves

-- what stands in octets at the place of an item
abbrev pub content_of : List ℕ → Item → List ℕ
content_of octets i = take i.size (drop i.offset octets)

-- the content of the INTEGER of a number below 256 (X.690, 8.3)
abbrev pub number_content : ℕ → List ℕ
number_content n = if nat_lt n 128 then n ∷ [] else 0 ∷ n ∷ []

-- the content of an INTEGER from 0 to 999999, in the fewest octets: at most three, the first below 128 (X.690, 8.3; RFC 4120, 5.2.4)
abbrev pub IsMicroseconds : List ℕ → Type 0
IsMicroseconds (a ∷ []) = a < 128
IsMicroseconds (a ∷ b ∷ []) = a < 128
IsMicroseconds (a ∷ b ∷ c ∷ []) = (a * 256 + b) * 256 + c < 1000000
IsMicroseconds content = ⊥

abbrev pub LeafObeys : Leaf → List ℕ → Type 0
LeafObeys (leaves.Number n) content = content ≡ number_content n
LeafObeys leaves.Microseconds content = IsMicroseconds content
LeafObeys leaf content = Unit {0}

abbrev pub NodeObeys : Node → ℕ → Type 0
NodeObeys nodes.FilledList size = 0 < size
NodeObeys node size = Unit {0}

-- an item of these octets obeys the rule of its standard, if there is one
abbrev pub FormObeys : Form → List ℕ → Item → Type 0
FormObeys (form.Leaf kind) octets i = LeafObeys kind (content_of octets i)
FormObeys (form.Begin kind) octets i = NodeObeys kind i.size
FormObeys (form.End kind) octets i = Unit {0}

abbrev pub Obeys : List ℕ → Item → Type 0
Obeys octets i = FormObeys i.form octets i

-- those of the items that do not, in order
pub data AreBroken (octets : List ℕ) : List Item → List Item → Type 0 where
  all_told : AreBroken octets [] []
  obedient : (i : Item) (items broken : List Item) → Obeys octets i → AreBroken octets items broken → AreBroken octets (i ∷ items) broken
  offending : (i : Item) (items broken : List Item) → (Obeys octets i → ⊥) → AreBroken octets items broken → AreBroken octets (i ∷ items) (i ∷ broken)
