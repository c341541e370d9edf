-- What the text of a page by a row of a table tells of the octets that the page is of.
use Rattle.std.specs.Prelude.{◌≡◌, ℕ, Bool, true, false, List, [], Option, Some, map, slice_get}
use Rattle.krb_der_core.specs.Encoding.{IsOctets}
use Rattle.krb_der_core.specs.Tlv.{tlv}
use Rattle.krb_schema.specs.declared.item.Item.{Item}
use Rattle.krb_schema.specs.declared.shape.Name.{Name}
use Rattle.krb_schema.specs.declared.shape.Role.{Role}
use Rattle.krb_schema.specs.declared.shape.Schema.{Schema}
use Rattle.krb_schema.specs.declared.shape.Shape.{Shape}
use Rattle.krb_schema.specs.declared.shape.Shape.TheVariants as shape
use Rattle.krb_schema.specs.Named.{case_row, field_row, row_in}
use Rattle.krb_schema.specs.Shapes.{IsElement}
use Rattle.krb_schema.specs.Types.{shapes, types}
use Rattle.krb_schema.specs.Walks.{Walked}
use Rattle.krb_show_text.specs.Text.{AreLines, page_lines, page_text}
use Rattle.krb_show.specs.Tokens.{Label, Token}
use Rattle.krb_show_messages.specs.Shown.{IsElementBy}
use Rattle.krb_show_pages.specs.Choices.{is_pack, reply_of}
use Rattle.krb_show.specs.Items.{shown, start}
use Rattle.krb_show.specs.RowWalk.{IsShownByRow}
use Rattle.krb_show.specs.declared.rows.stand.Secrets.TheVariants as secrets
use Rattle.krb_show_row_laws.specs.Telling.{is_name}
use Rattle.krb_show_row_laws.specs.Firsts.{Kinds}
use Rattle.krb_show_row_laws.specs.Tests.{fits, is_told}

-- Two inputs of one row, under one name, whose pages by that row have one text, secrets shown, are the same octets.
abbrev pub TextTellsOctets : (Role → List ℕ → Label → List ℕ → List Token → List Token → Type 0) → Schema → ℕ → Name → Type 0
TextTellsOctets tells schema is name = (octets other : List ℕ) (items others : List Item) (page another : List Token)
    → IsOctets octets → IsOctets other
    → Walked (IsElement 64 schema is name []) octets 0 0 [] items → Walked (IsElement 64 schema is name []) other 0 0 [] others
    → shown tells octets items (start secrets.Shown) [] page → shown tells other others (start secrets.Shown) [] another
    → AreLines (page_lines 0 page) → AreLines (page_lines 0 another) → page_text page ≡ page_text another → octets ≡ other

-- the lines of the fields of each SEQUENCE among these rows are told apart
abbrev pub IsTold : Kinds → (ℕ → Bool) → Schema → Type 0
IsTold kinds covers schema = is_told kinds covers 64 schema.shapes.now (map field_row schema.fields.now) (map case_row schema.cases.now) ≡ true

-- and this row is one of them, whose elements are told apart under this name
abbrev pub IsToldAt : Kinds → (ℕ → Bool) → Schema → ℕ → Name → Type 0
IsToldAt kinds covers schema is name =
    fits kinds covers 64 schema.shapes.now (map field_row schema.fields.now) (map case_row schema.cases.now) 64 true is name.text.now name.role ≡ true

-- ---- by the names of rows

-- elements of this shape have no elements, and their lines may be those of octets
abbrev pub is_leaf_shape : Option Shape → Bool
is_leaf_shape (Some (shape.Leaf tag kind)) = true
is_leaf_shape (Some shape.Any) = true
is_leaf_shape other = false

-- the row of this name, if there is one, is none of these
abbrev pub IsNoLeafRow : List ℕ → Type 0
IsNoLeafRow row_name = (is : ℕ) → row_in types row_name ≡ Some is → is_leaf_shape (slice_get shapes is) ≡ false

-- Two inputs whose pages by the row of this name, called alike, have one text are the same octets: they may be no elements of the row, and shown as octets.
abbrev pub NamedTextTells : (Role → List ℕ → Label → List ℕ → List Token → List Token → Type 0) → List ℕ → List ℕ → Type 0
NamedTextTells tells row_name text = (octets other : List ℕ) (page another : List Token) → IsOctets octets → IsOctets other
    → IsShownByRow tells row_name text octets [] page → IsShownByRow tells row_name text other [] another
    → AreLines (page_lines 0 page) → AreLines (page_lines 0 another) → page_text page ≡ page_text another → octets ≡ other

-- The same of a row of any kind, for inputs that are elements of it.
abbrev pub NamedElementsTell : (Role → List ℕ → Label → List ℕ → List Token → List Token → Type 0) → List ℕ → List ℕ → Type 0
NamedElementsTell tells row_name text = (octets other : List ℕ) (page another : List Token) → IsOctets octets → IsOctets other
    → IsElementBy row_name text octets → IsElementBy row_name text other
    → IsShownByRow tells row_name text octets [] page → IsShownByRow tells row_name text other [] another
    → AreLines (page_lines 0 page) → AreLines (page_lines 0 another) → page_text page ≡ page_text another → octets ≡ other

-- ---- PA-PK-AS-REP (RFC 4556, 3.2.3)

-- octets that begin as an encKeyPack are one: an OCTET STRING under an implicit tag
abbrev pub IsReply : List ℕ → Type 0
IsReply octets = is_pack octets ≡ true → (content : List ℕ) × (octets ≡ tlv 129 content)

-- Two such inputs whose pages in the place of a PA-PK-AS-REP have one text are the same octets.
abbrev pub ReplyTextTells : Type 0
ReplyTextTells = (label : Label) → is_name label.text ≡ true → (octets other : List ℕ) (page another : List Token)
    → IsOctets octets → IsOctets other → IsReply octets → IsReply other
    → reply_of label octets [] page → reply_of label other [] another
    → AreLines (page_lines 0 page) → AreLines (page_lines 0 another) → page_text page ≡ page_text another → octets ≡ other
