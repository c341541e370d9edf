-- The text of a page by a row tells the octets.
use Rattle.std.proofs.Common.{◌≡◌, ℕ, Bool, true, false, refl, sym, ap, subst, ◌∙◌, List, [], ◌++◌, arith}
use Rattle.std.proofs.lemmas.List.{append-nil}
use Rattle.krb_der_core.specs.Encoding.{IsOctets}
use Rattle.krb_schema.specs.declared.item.Item.{Item}
use Rattle.krb_schema.specs.declared.shape.Name.{Name}
use Rattle.krb_schema.specs.declared.shape.Role.{Role}
use Rattle.krb_schema.specs.declared.shape.Schema.{Schema}
use Rattle.krb_schema.specs.Forests.{enc, items_at}
use Rattle.krb_schema.specs.Shapes.{IsElement}
use Rattle.krb_schema.specs.Walks.{Walked}
use Rattle.krb_show.specs.Leaves.{octets_of}
use Rattle.krb_show_text.specs.Text.{page_lines}
use Rattle.krb_show.specs.Tokens.{Label, Token}
use Rattle.krb_show.specs.Items.{shown, start}
use Rattle.krb_show.specs.declared.rows.stand.Secrets.TheVariants as secrets
use Rattle.krb_show_row_laws.specs.Telling.{is_name}
use Rattle.krb_show_row_laws.specs.Firsts.{Kinds}
use Rattle.krb_show_row_laws.specs.Formats.{FormatsTell}
use Rattle.krb_show_row_laws.specs.Kerberos.{as_octets}
use Rattle.krb_show_row_laws.specs.Laws.{IsTold, IsToldAt, TextTellsOctets}
use Rattle.krb_show_row_laws.specs.Pages.{forest_shown}
use Rattle.krb_show_row_laws.proofs.LineLaws.{one_lines}
use Rattle.krb_show_row_laws.proofs.FieldLaws.{tells_so}
use Rattle.krb_show_row_laws.proofs.LeafLaws.{tells_octets}
use Rattle.krb_show_row_laws.proofs.FirstLaws.{one_first}
use Rattle.krb_show_row_laws.proofs.ForestLaws.{are_small}
use Rattle.krb_show_row_laws.proofs.Told.{links_first}
use Rattle.krb_show_row_laws.proofs.Rows.{rows_told}
use Rattle.krb_show_row_laws.proofs.PlainRows.{plain_element}
use Rattle.krb_show_row_laws.proofs.Bridge.{bridge}

-- what the items of the elements of a row add
pub row_shown : (tells : Role → List ℕ → Label → List ℕ → List Token → List Token → Type 0) (schema : Schema) (is : ℕ) (name : Name) (octets : List ℕ)
    (items : List Item)
    → (w : Walked (IsElement 64 schema is name []) octets 0 0 [] items) → (old new : List Token) → shown tells octets items (start secrets.Shown) old new
    → forest_shown tells false [] w.0 old new
row_shown tells schema is name octets items w old new h =
    let whole : octets ≡ [] ++ (enc w.0 ++ []) = w.2 ∙ sym (append-nil (enc w.0)) in
    let all : items ≡ items_at 0 0 w.0 ++ [] = w.3 ∙ sym (append-nil (items_at 0 0 w.0)) in
    let a = bridge tells w.0 (plain_element 64 schema is name [] w.0 w.1) 0 0 octets (record { before = []; after = []; whole = whole; place = refl }) []
    (start secrets.Shown) old new
    (record { apart = refl; nameless = refl; shows = refl })
    (subst (λ (l : List Item). shown tells octets l (start secrets.Shown) old new) all h) in
    subst (λ (p : List Token). forest_shown tells false [] w.0 old p) (sym a.rest) a.here

pub text_tells : (tells : Role → List ℕ → Label → List ℕ → List Token → List Token → Type 0) (kinds : Kinds) (covers : ℕ → Bool) (schema : Schema) (is : ℕ)
    (name : Name)
    → FormatsTell kinds tells → IsTold kinds covers schema → IsToldAt kinds covers schema is name → is_name name.text.now ≡ true
    → TextTellsOctets tells schema is name
text_tells tells kinds covers schema is name formats told fitting named octets other items others page another small little w v h k lines more same =
    let f = w.0 in
    let g = v.0 in
    let row = rows_told tells kinds formats covers 64 schema told 64 (omega arith) 64 (omega arith) 64 (omega arith) true is name fitting named in
    let t = row.told [] [] f g w.1 v.1 (are_small f (subst IsOctets w.2 small)) (are_small g (subst IsOctets v.2 little)) false [] [] (links_first true [])
    (links_first true []) in
    let all = one_lines (page_lines 0 page) (page_lines 0 another) lines more same in
    let one = t.tells [] [] page another (row_shown tells schema is name octets items w [] page h) (row_shown tells schema is name other others v [] another k)
    (refl, refl) [] 0 [] [] refl tt tt
    (append-nil (page_lines 0 page) ∙ all ∙ sym (append-nil (page_lines 0 another))) in
    w.2 ∙ ap enc one.0 ∙ sym v.2

-- ---- octets of formats as octets

abbrev pub octets_alone : Role → List ℕ → Label → List ℕ → List Token → List Token → Type 0
octets_alone role number label octets = octets_of label octets

pub octets_tell : FormatsTell as_octets octets_alone
octets_tell = record {
  first = λ role number label octets name small. one_first name (tells_octets.heads label octets name small);
  behind = λ role number label octets name small. one_first name (tells_octets.heads label octets name small);
  told = λ role number another label octets others name small little. tells_so (λ e. tt) (λ e. e) (tells_octets.tells label octets others name small little);
}
