-- Elements in a row (X.690, 8.1.1): the first that has a tag, and the one before which so many others stand.
use Rattle.std.specs.Prelude.{◌≡◌, ◌≢◌, ◌+◌, ℕ, List, ◌++◌, length}
use Rattle.std.specs.List.{flat_map, AllByRecursion}
use Rattle.krb_der_core.specs.Tlv.{header, tlv}

-- an element, by its tag and its content
pub record Element : Type 0 where
  pub tag : ℕ
  pub content : List ℕ

abbrev pub octets_of : Element → List ℕ
octets_of element = tlv element.tag element.content

-- elements, one after another
abbrev pub row : List Element → List ℕ
row elements = flat_map octets_of elements

-- none of them has this tag
abbrev pub NoneHas : ℕ → List Element → Type 0
NoneHas tag elements = AllByRecursion (λ (element : Element). element.tag ≢ tag) elements

-- The first element with this tag has this content, which begins after so many octets.
pub record IsField (tag : ℕ) (octets : List ℕ) (start : ℕ) (content : List ℕ) : Type 0 where
  pub before : List Element
  pub after : List ℕ
  pub others : NoneHas tag before
  pub whole : octets ≡ row before ++ tlv tag content ++ after
  pub begins : start ≡ length (row before) + length (header tag (length content))

-- These octets are an element, before which so many others stand, and so many octets.
pub record IsItem (index : ℕ) (octets : List ℕ) (start : ℕ) (item : List ℕ) : Type 0 where
  pub before : List Element
  pub element : Element
  pub after : List ℕ
  pub counted : length before ≡ index
  pub is_element : item ≡ octets_of element
  pub whole : octets ≡ row before ++ item ++ after
  pub begins : start ≡ length (row before)

-- there is no such
abbrev pub NoField : ℕ → List ℕ → Type 0
NoField tag octets = (start : ℕ) (content : List ℕ) → IsField tag octets start content → ⊥

abbrev pub NoItem : ℕ → List ℕ → Type 0
NoItem index octets = (start : ℕ) (item : List ℕ) → IsItem index octets start item → ⊥

-- no element is at the front
abbrev pub NoFront : List ℕ → Type 0
NoFront octets = (element : Element) (after : List ℕ) → octets ≡ octets_of element ++ after → ⊥
