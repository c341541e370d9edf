-- What octets are as text and as JSON, by the types of the standards.
use Rattle.std.specs.Prelude.{◌≡◌, ◌⊎◌, ℕ, Bool, true, false, List, [], ◌∷◌, ◌++◌}
use Rattle.krb_schema.specs.declared.item.Item.{Item}
use Rattle.krb_show_text.specs.Json.{json_line}
use Rattle.krb_show.specs.Leaves.{octets_of}
use Rattle.krb_show_text.specs.Text.{AreLines, ArePrintable as AreTextPrintable, page_lines, page_text}
use Rattle.krb_show.specs.Tokens.{Token}
use Rattle.krb_show.specs.Items.{shown, start}
use Rattle.krb_show.specs.declared.rows.stand.Secrets.{Secrets}
use Rattle.krb_show.specs.declared.rows.stand.Secrets.TheVariants as secrets
use Rattle.krb_c_calls.specs.Items.{AreItems, RefusesItems}

-- whether the octets of keys and of passwords are shown
abbrev pub secrets_of : Bool → Secrets
secrets_of true = secrets.Shown
secrets_of false = secrets.Hidden

-- a page as JSON with a line feed behind it, or as text
abbrev pub written_of : Bool → List Token → List ℕ
written_of true page = json_line page ++ 10 ∷ []
written_of false page = page_text page

-- the line of JSON, or each line of text, is of printable ASCII
abbrev pub ArePrintable : Bool → List Token → Type 0
ArePrintable true page = AreTextPrintable (json_line page)
ArePrintable false page = AreLines (page_lines 0 page)

-- the tokens of items, where octets that are no DER stay octets
abbrev pub AreTokensOf : Secrets → List ℕ → List Item → List Token → Type 0
AreTokensOf secrets octets items page = shown (λ role number label content. octets_of label content) octets items (start secrets) [] page

-- items of the octets are this text
abbrev pub IsShownAs : Bool → Secrets → List ℕ → List Item → List ℕ → Type 0
IsShownAs is_json secrets octets items text =
    (page : List Token) × AreTokensOf secrets octets items page × (text ≡ written_of is_json page) × ArePrintable is_json page

-- octets that are an element of the type of this name are this text
abbrev pub IsShown : Bool → Secrets → List ℕ → List ℕ → List ℕ → Type 0
IsShown is_json secrets type_name octets text =
    (items : List Item) × AreItems type_name octets items × IsShownAs is_json secrets octets items text

-- why they have none: an allocation failed (2), or they have no items
abbrev pub RefusesShowing : List ℕ → List ℕ → ℕ → Type 0
RefusesShowing type_name octets status = (status ≡ 2) ⊎ ((offset : ℕ) × RefusesItems type_name octets status offset)
