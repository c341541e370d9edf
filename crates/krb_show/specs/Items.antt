-- The tokens of items: a struct of fields for a SEQUENCE, a list for a SEQUENCE OF, one text for the components of a name, a leaf for an element
-- without elements; explicit tags, and OCTET STRINGs that hold an element, add nothing.
use Rattle.std.specs.Prelude.{◌≡◌, ℕ, suc, ◌-◌, nat_eq, nat_lt, if◌then◌else◌, ◌&&◌, Bool, true, false, List, [], ◌∷◌, ◌++◌, Option, None, Some, length, take, codes}
use Rattle.std.specs.Fmt.{decimal}
use Rattle.std.specs.List.{slice_get}
use Rattle.krb_schema.specs.declared.item.Form.{Form}
use Rattle.krb_schema.specs.declared.item.Form.TheVariants as form
use Rattle.krb_schema.specs.declared.item.Item.{Item}
use Rattle.krb_schema.specs.declared.item.Node.{Node}
use Rattle.krb_schema.specs.declared.item.Node.TheVariants as nodes
use Rattle.krb_schema.specs.declared.shape.Leaf.{Leaf}
use Rattle.krb_schema.specs.declared.shape.Leaf.TheVariants as leaves
use Rattle.krb_schema.specs.declared.shape.Name.{Name}
use Rattle.krb_schema.specs.declared.shape.Role.{Role}
use Rattle.krb_schema.specs.declared.shape.Role.TheVariants as roles
use Rattle.krb_schema.specs.Rules.{content_of}
use Rattle.krb_show.specs.Leaves.{name_of, octets_of, secret_octets_of, word_of}
use Rattle.krb_show.specs.Tokens.{Label, Token, adds, leaf, mark}
use Rattle.krb_show.specs.declared.token.Form.TheVariants as tokens
use Rattle.krb_show.specs.RowLeaves.{leaf_of}
use Rattle.krb_show.specs.declared.rows.stand.Inside.{Inside}
use Rattle.krb_show.specs.declared.rows.stand.Inside.TheVariants as inside
use Rattle.krb_show.specs.declared.rows.stand.Secrets.{Secrets}
use Rattle.krb_show.specs.declared.rows.stand.Secrets.TheVariants as secrets

-- ---- where an item stands

-- in what, the innermost last; the components of a name before it; the content of the INTEGER that stands last before it; and whether secrets
-- are shown
pub record Stand : Type 0 where
  pub inside : List Inside
  pub names : List (List ℕ)
  pub number : List ℕ
  pub secrets : Secrets

abbrev pub start : Secrets → Stand
start secrets = record { inside = []; names = []; number = []; secrets = secrets }

abbrev pub is_same : Inside → Inside → Bool
is_same inside.Struct inside.Struct = true
is_same inside.List inside.List = true
is_same inside.Names inside.Names = true
is_same one other = false

abbrev pub is_this : Inside → Option Inside → Bool
is_this wanted None = false
is_this wanted (Some found) = is_same found wanted

-- what it stands in, innermost, is this
abbrev pub is_in : Inside → List Inside → Bool
is_in wanted all = is_this wanted (slice_get all (length all - 1))

abbrev pub is_in_list : List Inside → Bool
is_in_list all = is_in inside.List all

-- it is a component of a name
abbrev pub is_in_name : List Inside → Bool
is_in_name all = is_in inside.Names all

abbrev pub label_of : List Inside → Name → Label
label_of all name = record { text = name.text.now; kind = name.registry; role = name.role; is_item = is_in_list all }

abbrev pub pushed : Inside → Stand → Stand
pushed into s = record s { inside = s.inside ++ into ∷ [] }

abbrev pub popped : Stand → Stand
popped s = record s { inside = take (length s.inside - 1) s.inside }

abbrev pub named : List ℕ → Stand → Stand
named component s = record s { names = s.names ++ component ∷ [] }

abbrev pub nameless : Stand → Stand
nameless s = record s { names = [] }

abbrev pub numbered : List ℕ → Stand → Stand
numbered content s = record s { number = content }

-- ---- what stands in a list

abbrev pub is_begun : Form → Bool
is_begun (form.Leaf kind) = true
is_begun (form.Begin kind) = true
is_begun (form.End kind) = false

-- how many elements stand so deep among the items, up to the first that is less deep
abbrev pub elements : ℕ → List Item → ℕ
elements depth [] = 0
elements depth (i ∷ items) =
    if nat_lt i.depth depth then 0 else if nat_eq i.depth depth && is_begun i.form then suc (elements depth items) else elements depth items

abbrev pub is_component : Form → Bool
is_component (form.Leaf leaves.Component) = true
is_component other = false

-- whether the first item is a component of a name
abbrev pub begins_name : List Item → Bool
begins_name [] = false
begins_name (i ∷ items) = is_component i.form

-- ---- an item

-- octets that are more than that to a program, as such octets are told; others as leaves
abbrev pub octets_as : (Role → List ℕ → Label → List ℕ → List Token → List Token → Type 0) → Role → List ℕ → Label → List ℕ → List Token → List Token → Type 0
octets_as tells roles.None number label content = octets_of label content
octets_as tells role number label content = tells role number label content

-- the octets of a key or of a password, or a word in their place
abbrev pub secret_of : Secrets → Label → List ℕ → List Token → List Token → Type 0
secret_of secrets.Shown label content = secret_octets_of label content
secret_of secrets.Hidden label content = word_of label (codes "hidden")

-- where the next item stands behind a leaf
abbrev pub behind_leaf : Leaf → List ℕ → Stand → Stand
behind_leaf leaves.Integer content s = numbered content s
behind_leaf other content s = s

module _ (tells : Role → List ℕ → Label → List ℕ → List Token → List Token → Type 0) where
  -- a leaf
  abbrev pub plain_leaf : Leaf → Item → List ℕ → Stand → List Token → List Token → Type 0
  plain_leaf leaves.Octets i content s = octets_as tells i.name.role s.number (label_of s.inside i.name) content
  plain_leaf leaves.Secret i content s = secret_of s.secrets (label_of s.inside i.name) content
  plain_leaf kind i content s = leaf_of kind i.tag (label_of s.inside i.name) content

  -- a component of a name adds nothing yet; another leaf stands by itself
  abbrev pub leaf_step : Bool → Leaf → Item → List ℕ → Stand → List Token → Stand → List Token → Type 0
  leaf_step true kind i content s old next new = (next ≡ named content s) × (new ≡ old)
  leaf_step false kind i content s old next new = (next ≡ behind_leaf kind content s) × plain_leaf kind i content s old new

  -- a list begins: with its number of elements, or as a name
  abbrev pub list_step : Bool → Item → List Item → Stand → List Token → Stand → List Token → Type 0
  list_step true i rest s old next new = (next ≡ pushed inside.Names s) × (new ≡ old)
  list_step false i rest s old next new = (next ≡ pushed inside.List s)
      × adds (leaf tokens.List (label_of s.inside i.name) (decimal (elements (suc i.depth) rest))) old new

  abbrev pub begin_step : Node → Item → List Item → Stand → List Token → Stand → List Token → Type 0
  begin_step nodes.Wrap i rest s old next new = (next ≡ s) × (new ≡ old)
  begin_step nodes.Struct i rest s old next new = (next ≡ pushed inside.Struct s) × adds (mark tokens.Struct (label_of s.inside i.name)) old new
  begin_step nodes.List i rest s old next new = list_step (begins_name rest) i rest s old next new
  begin_step nodes.FilledList i rest s old next new = list_step (begins_name rest) i rest s old next new

  -- a list ends; as a name it is one text
  abbrev pub list_end : Bool → Item → Stand → List Token → Stand → List Token → Type 0
  list_end true i s old next new = (next ≡ nameless (popped s)) × name_of (label_of (popped s).inside i.name) s.names old new
  list_end false i s old next new = (next ≡ popped s) × adds (mark tokens.ListEnd (label_of (popped s).inside i.name)) old new

  abbrev pub end_step : Node → Item → Stand → List Token → Stand → List Token → Type 0
  end_step nodes.Wrap i s old next new = (next ≡ s) × (new ≡ old)
  end_step nodes.Struct i s old next new = (next ≡ popped s) × adds (mark tokens.StructEnd (label_of (popped s).inside i.name)) old new
  end_step nodes.List i s old next new = list_end (is_in inside.Names s.inside) i s old next new
  end_step nodes.FilledList i s old next new = list_end (is_in inside.Names s.inside) i s old next new

  abbrev pub form_step : Form → List ℕ → Item → List Item → Stand → List Token → Stand → List Token → Type 0
  form_step (form.Leaf kind) octets i rest s old next new =
      leaf_step (is_in inside.Names s.inside) kind i (content_of octets i) s old next new
  form_step (form.Begin kind) octets i rest s old next new = begin_step kind i rest s old next new
  form_step (form.End kind) octets i rest s old next new = end_step kind i s old next new

  -- what an item of these octets adds, before which items stand so, and where the next stands
  abbrev pub step : List ℕ → Item → List Item → Stand → List Token → Stand → List Token → Type 0
  step octets i rest s old next new = form_step i.form octets i rest s old next new

  -- the tokens of items
  abbrev pub shown : List ℕ → List Item → Stand → List Token → List Token → Type 0
  shown octets [] s old new = new ≡ old
  shown octets (i ∷ rest) s old new =
      (next : Stand) × (between : List Token) × step octets i rest s old next between × shown octets rest next between new
