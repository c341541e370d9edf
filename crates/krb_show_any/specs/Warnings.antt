-- Warnings: what in the octets of a page is legal DER and breaks a rule of its standard.
use Rattle.std.specs.Prelude.{ℕ, List, [], ◌∷◌, ◌++◌, codes, length, map}
use Rattle.std.specs.Fmt.{decimal}
use Rattle.krb_schema.specs.declared.item.Form.{Form}
use Rattle.krb_schema.specs.declared.item.Form.TheVariants as form
use Rattle.krb_schema.specs.declared.item.Item.{Item}
use Rattle.krb_schema.specs.declared.item.Node.TheVariants as nodes
use Rattle.krb_schema.specs.declared.shape.Leaf.TheVariants as leaves
use Rattle.krb_show.specs.Tokens.{Token, item_of, leaf, mark, plain}
use Rattle.krb_show.specs.declared.token.Form.TheVariants as tokens

-- the standard fixes this number
abbrev pub fixed_number : ℕ → List ℕ
fixed_number n = codes " is not " ++ decimal n ++ codes ", the number that the standard fixes"

-- the rule that an item of this form breaks: of a number that its standard fixes (RFC 4120, 5.4.1: pvno is 5, msg-type 10 of an AS-REQ; and so on), of
-- microseconds (5.2.4), and of a list that has to have an element
abbrev pub broken_rule : Form → List ℕ
broken_rule (form.Leaf (leaves.Number n)) = fixed_number n
broken_rule (form.Leaf leaves.Microseconds) = codes " is not from 0 to 999999"
broken_rule (form.Begin nodes.FilledList) = codes " is empty, and the standard wants an element"
broken_rule other = []

-- what an item is called, and how many octets stand before its content
abbrev pub named_at : List ℕ → ℕ → List ℕ
named_at name at = name ++ codes " at octet " ++ decimal at

-- NAME at octet PLACE RULE
abbrev pub warning_text : Item → List ℕ
warning_text i = named_at i.name.text.now i.offset ++ broken_rule i.form

-- ---- on a page

-- a text for an item, in a list
abbrev pub warning_token : Item → Token
warning_token i = leaf tokens.Text (item_of (plain (codes "warning"))) (warning_text i)

-- a list of these, with their number
abbrev pub whole_list : List Item → List Token
whole_list broken =
    leaf tokens.List (plain (codes "warnings")) (decimal (length broken))
    ∷ (map warning_token broken ++ mark tokens.ListEnd (plain (codes "warnings")) ∷ [])

-- what stands behind a page whose octets have these items that break a rule: nothing where there are none
abbrev pub warning_list : List Item → List Token
warning_list [] = []
warning_list (i ∷ is) = whole_list (i ∷ is)
