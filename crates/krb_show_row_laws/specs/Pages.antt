-- What elements add to a page, secrets shown, by recursion over the elements.
use Rattle.std.specs.Prelude.{◌≡◌, ℕ, suc, Bool, true, false, List, [], ◌∷◌}
use Rattle.std.specs.Fmt.{decimal}
use Rattle.krb_schema.specs.declared.item.Form.TheVariants as form
use Rattle.krb_schema.specs.declared.item.Node.TheVariants as nodes
use Rattle.krb_schema.specs.declared.shape.Leaf.{Leaf}
use Rattle.krb_schema.specs.declared.shape.Leaf.TheVariants as leaves
use Rattle.krb_schema.specs.declared.shape.Name.{Name}
use Rattle.krb_schema.specs.declared.shape.Role.{Role}
use Rattle.krb_schema.specs.Forests.{Forest, none, leaf, node}
use Rattle.krb_show.specs.Leaves.{name_of}
use Rattle.krb_show.specs.Pages.{◌then◌, ends_list, struct_of}
use Rattle.krb_show.specs.Tokens.{Label, Token, adds, leaf as token_leaf}
use Rattle.krb_show.specs.declared.token.Form.TheVariants as tokens
use Rattle.krb_show.specs.Items.{is_component, octets_as}
use Rattle.krb_show.specs.RowLeaves.{leaf_of}

-- the content of the INTEGER that stands last before what follows a leaf, and before what follows elements
abbrev pub behind_leaf : Leaf → List ℕ → List ℕ → List ℕ
behind_leaf leaves.Integer content number = content
behind_leaf kind content number = number

abbrev pub behind : Forest → List ℕ → List ℕ
behind none number = number
behind (leaf kind name tag content rest) number = behind rest (behind_leaf kind content number)
behind (node kind name tag inside rest) number = behind rest (behind inside number)

abbrev pub label_in : Bool → Name → Label
label_in in_list name = record { text = name.text.now; kind = name.registry; role = name.role; is_item = in_list }

-- how many there are, and the contents of leaves
abbrev pub count : Forest → ℕ
count none = 0
count (leaf kind name tag content rest) = suc (count rest)
count (node kind name tag inside rest) = suc (count rest)

abbrev pub components : Forest → List (List ℕ)
components none = []
components (leaf kind name tag content rest) = content ∷ components rest
components (node kind name tag inside rest) = components rest

-- the first is a component of a name
abbrev pub is_of_name : Forest → Bool
is_of_name none = false
is_of_name (leaf kind name tag content rest) = is_component (form.Leaf kind)
is_of_name (node kind name tag inside rest) = false

-- a list: one text of the components of a name, or its number of elements and these
abbrev pub list_shown : Bool → Label → Forest → (List Token → List Token → Type 0) → List Token → List Token → Type 0
list_shown true label inside shows = name_of label (components inside)
list_shown false label inside shows = adds (token_leaf tokens.List label (decimal (count inside))) then (shows then ends_list label)

module _ (tells : Role → List ℕ → Label → List ℕ → List Token → List Token → Type 0) where
  -- an element without elements
  abbrev pub leaf_shown : Leaf → Name → ℕ → List ℕ → Bool → List ℕ → List Token → List Token → Type 0
  leaf_shown leaves.Octets name tag content in_list number = octets_as tells name.role number (label_in in_list name) content
  leaf_shown kind name tag content in_list number = leaf_of kind tag (label_in in_list name) content

  -- elements in a row, in a list or not, behind an INTEGER of this content
  abbrev pub forest_shown : Bool → List ℕ → Forest → List Token → List Token → Type 0
  forest_shown in_list number none old new = new ≡ old
  forest_shown in_list number (leaf kind name tag content rest) old new =
      (leaf_shown kind name tag content in_list number then forest_shown in_list (behind_leaf kind content number) rest) old new
  forest_shown in_list number (node nodes.Wrap name tag inside rest) old new =
      (forest_shown in_list number inside then forest_shown in_list (behind inside number) rest) old new
  forest_shown in_list number (node nodes.Struct name tag inside rest) old new =
      (struct_of (label_in in_list name) (forest_shown false number inside) then forest_shown in_list (behind inside number) rest) old new
  forest_shown in_list number (node nodes.List name tag inside rest) old new =
      (list_shown (is_of_name inside) (label_in in_list name) inside (forest_shown true number inside) then forest_shown in_list (behind inside number) rest)
      old new
  forest_shown in_list number (node nodes.FilledList name tag inside rest) old new =
      (list_shown (is_of_name inside) (label_in in_list name) inside (forest_shown true number inside) then forest_shown in_list (behind inside number) rest)
      old new
