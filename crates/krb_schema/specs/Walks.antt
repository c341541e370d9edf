-- What a walk answers.
use Rattle.std.specs.Prelude.{◌≡◌, ◌+◌, ◌<◌, ◌^◌, ℕ, List, ◌++◌, length}
use Rattle.krb_der_core.specs.Tlv.{header}
use Rattle.krb_schema.specs.declared.item.Item.{Item}
use Rattle.krb_schema.specs.declared.walk.Head.{Head}
use Rattle.krb_schema.specs.Forests.{Forest, enc, items_at}

-- The octets are those of right elements, and the items of these are appended.
abbrev pub Walked : (Forest → Type 0) → List ℕ → ℕ → ℕ → List Item → List Item → Type 0
Walked IsRight octets depth at old new = (forest : Forest) × IsRight forest × (octets ≡ enc forest) × (new ≡ old ++ items_at depth at forest)

-- those of the octets before the rest
abbrev pub WalkedFront : (Forest → Type 0) → List ℕ → List ℕ → ℕ → ℕ → List Item → List Item → Type 0
WalkedFront IsRight octets rest depth at old new = (front : List ℕ) × (octets ≡ front ++ rest) × Walked IsRight front depth at old new

-- it is what stands before this content
pub record IsHead (head : Head) (content : List ℕ) : Type 0 where
  pub header : head.header ≡ length (header head.tag (length content))
  pub size : head.size ≡ length content
  pub room : head.at + head.header + length content < 2 ^ 64

-- the octets begin with no right elements
abbrev pub NoFront : (Forest → Type 0) → List ℕ → Type 0
NoFront IsRight octets = (forest : Forest) (rest : List ℕ) → IsRight forest → octets ≡ enc forest ++ rest → ⊥
