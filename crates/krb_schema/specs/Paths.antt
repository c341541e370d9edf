-- Which item a path leads to: `req-body.sname.name-string[1]`, `tickets[0].enc-part.cipher`.
use Rattle.std.specs.Prelude.{◌≡◌, ◌==◌, ◌&&◌, ℕ, zero, suc, ◌+◌, ◌-◌, ◌*◌, ◌^◌, nat_le, nat_lt, Bool, true, false, not, if◌then◌else◌, List, [], ◌∷◌, Option, None, Some, take, drop, option_and_then, option_map, min}
use Rattle.std.specs.List.{fold, prefix_len}
use Rattle.std.specs.Cmp.Lexicographic.{pointwise}
use Rattle.krb_schema.specs.declared.item.Form.{Form}
use Rattle.krb_schema.specs.declared.item.Form.TheVariants as form
use Rattle.krb_schema.specs.declared.item.Item.{Item}
use Rattle.krb_schema.specs.declared.item.Node.TheVariants as nodes
use Rattle.krb_schema.specs.declared.path.PathError.{PathError}
use Rattle.krb_schema.specs.declared.path.PathError.TheVariants as why

-- what holds one element alone begins: it is passed through
abbrev pub is_wrap : Form → Bool
is_wrap (form.Begin nodes.Wrap) = true
is_wrap (form.Begin nodes.Struct) = false
is_wrap (form.Begin nodes.List) = false
is_wrap (form.Begin nodes.FilledList) = false
is_wrap (form.Leaf kind) = false
is_wrap (form.End kind) = false

abbrev pub is_end : Form → Bool
is_end (form.End kind) = true
is_end (form.Begin kind) = false
is_end (form.Leaf kind) = false

-- Of the items of an element: those from the one that has its elements on, past explicit tags and OCTET STRINGs that hold one element.
abbrev pub own : List Item → List Item
own [] = []
own (i ∷ items) = if is_wrap i.form then own items else i ∷ items

-- those from the first that is no explicit tag on; an OCTET STRING is itself, whether or not it holds an element
abbrev pub is_tag : Item → Bool
is_tag i = is_wrap i.form && not (i.tag == 4)

abbrev pub untagged : List Item → List Item
untagged [] = []
untagged (i ∷ items) = if is_tag i then untagged items else i ∷ items

-- an element begins one deeper than this
abbrev pub is_child : ℕ → Item → Bool
is_child depth i = i.depth - depth == 1 && not (is_end i.form)

-- The items behind that of a node at this depth, from its first field of this name on; none where the node ends before.
abbrev pub named : ℕ → List ℕ → List Item → List Item
named depth name [] = []
named depth name (i ∷ items) =
    if nat_le i.depth depth then [] else if is_child depth i && pointwise ◌==◌ i.name.text.now name then i ∷ items else named depth name items

-- likewise from its n-th element on, counted from 0
abbrev pub nth : ℕ → ℕ → List Item → List Item
nth depth n [] = []
nth depth n (i ∷ items) =
    if nat_le i.depth depth then [] else if is_child depth i then (if n == 0 then i ∷ items else nth depth (n - 1) items) else nth depth n items

abbrev pub behind_named : List ℕ → List Item → List Item
behind_named name [] = []
behind_named name (i ∷ items) = named i.depth name items

abbrev pub behind_nth : ℕ → List Item → List Item
behind_nth n [] = []
behind_nth n (i ∷ items) = nth i.depth n items

-- of elements, those from a field, or from an element of a list, on
abbrev pub field_of : List ℕ → List Item → List Item
field_of name items = behind_named name (own items)

abbrev pub element_of : ℕ → List Item → List Item
element_of n items = behind_nth n (own items)

-- An octet of a name: none of `.`, `[` and `]`.
abbrev pub is_of_name : ℕ → Bool
is_of_name o = not (o == 46) && not (o == 91) && not (o == 93)

abbrev pub is_digit : ℕ → Bool
is_digit o = nat_le 48 o && nat_le o 57

-- how many octets at the front of a text are a name, and how many are decimal digits
abbrev pub name_size : List ℕ → ℕ
name_size text = prefix_len is_of_name text

abbrev pub digits_size : List ℕ → ℕ
digits_size text = prefix_len is_digit text

-- the number that decimal digits are; past 2^64 - 1 it is that
abbrev pub with_digit : ℕ → ℕ → ℕ
with_digit n o = min (min (n * 10) (2 ^ 64 - 1) + (o - 48)) (2 ^ 64 - 1)

abbrev pub number_of : List ℕ → ℕ
number_of digits = fold with_digit 0 digits

-- A step of a path: behind `.` a name, and behind `[` a number and `]`. How many octets stand behind the first; None where it is no step.
abbrev pub closed_size : ℕ → List ℕ → Option ℕ
closed_size digits [] = None
closed_size digits (o ∷ text) = if o == 93 && nat_lt 0 digits then Some (digits + 1) else None

abbrev pub step_size : ℕ → List ℕ → Option ℕ
step_size mark text =
    if mark == 46 then (if nat_lt 0 (name_size text) then Some (name_size text) else None)
    else if mark == 91 then closed_size (digits_size text) (drop (digits_size text) text) else None

-- where it leads from elements: to a field, or to an element of a list
abbrev pub step_into : ℕ → List ℕ → List Item → List Item
step_into mark text items =
    if mark == 46 then field_of (take (name_size text) text) items else element_of (number_of (take (digits_size text) text)) items

-- The items from those on to which so many steps at most lead; None where the text is no such steps.
abbrev pub led : ℕ → List ℕ → List Item → Option (List Item)
led levels [] items = Some items
led zero (mark ∷ text) items = None
led (suc levels) (mark ∷ text) items = option_and_then (λ size. led levels (drop size text) (step_into mark text items)) (step_size mark text)

-- A path has a name at its front without `.`.
abbrev pub dotted : List ℕ → List ℕ
dotted [] = []
dotted (o ∷ path) = if o == 91 then o ∷ path else 46 ∷ o ∷ path

-- Where a path of at most 64 steps leads from the items of octets; None where it is no path.
abbrev pub leads : List ℕ → List Item → Option (List Item)
leads path items = led 64 (dotted path) items

-- the item that stands there; None where there is none
abbrev pub first_of : List Item → Option Item
first_of [] = None
first_of (i ∷ items) = Some i

abbrev pub item_of : List Item → Option Item
item_of items = first_of (untagged items)

-- The path leads to this item; or it is no path, or leads nowhere.
abbrev pub IsFound : List ℕ → List Item → Item → Type 0
IsFound path items i = option_map item_of (leads path items) ≡ Some (Some i)

abbrev pub RefusesPath : List ℕ → List Item → PathError → Type 0
RefusesPath path items why.NoPath = option_map item_of (leads path items) ≡ None
RefusesPath path items why.Absent = option_map item_of (leads path items) ≡ Some None
