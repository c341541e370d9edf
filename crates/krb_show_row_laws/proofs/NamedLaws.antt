-- Pages by the rows of the table of Kerberos, with the formats of `krb_show_messages`, and by the names of rows.
use Rattle.std.proofs.Common.{◌≡◌, ◌⊎◌, ℕ, nat_eq, Bool, true, false, ◌||◌, inl, inr, sym, subst, List, [], ◌∷◌}
use Rattle.std.specs.Prelude.{Some, slice_get}
use Rattle.krb_schema.specs.declared.shape.Name.{Name}
use Rattle.krb_schema.specs.declared.shape.Role.{Role}
use Rattle.krb_schema.specs.declared.shape.Role.TheVariants as roles
use Rattle.krb_schema.specs.declared.shape.Schema.{Schema}
use Rattle.krb_schema.specs.Named.{IsKerberos, row_in}
use Rattle.krb_schema.specs.Types.{cases, fields, shapes, types}
use Rattle.krb_show_text.specs.Text.{page_lines}
use Rattle.krb_show_messages.specs.Formats.{formats_of}
use Rattle.krb_show_row_laws.specs.Telling.{is_name}
use Rattle.krb_show_row_laws.specs.Firsts.{apart_firsts, of_leaf, openings}
use Rattle.krb_show_row_laws.specs.Kerberos.{each_below, every_row}
use Rattle.krb_show_row_laws.specs.KerberosFormats.{kerberos_kinds}
use Rattle.krb_show_row_laws.specs.Laws.{IsNoLeafRow, NamedElementsTell, NamedTextTells, TextTellsOctets, is_leaf_shape}
use Rattle.krb_show_row_laws.specs.Tests.{firsts, fits}
use Rattle.krb_show_row_laws.proofs.LineLaws.{one_lines}
use Rattle.krb_show_row_laws.proofs.FirstLaws.{or_true}
use Rattle.krb_show_row_laws.proofs.Kerberos.{formats_fits, formats_told, types_apart, types_fit}
use Rattle.krb_show_row_laws.proofs.TableLaws.{each_row}
use Rattle.krb_show_row_laws.proofs.ShownLaws.{by_type, items_alone, named_text_tells, page_of_items}
use Rattle.krb_show_row_laws.proofs.FormatLaws.{kerberos_formats}

pub formats_text_tells : (schema : Schema) (is : ℕ) (name : Name) → IsKerberos schema → is_name name.text.now ≡ true → name.role ≡ roles.None
    → TextTellsOctets formats_of schema is name
formats_text_tells schema is name kerberos named none =
    each_row formats_of kerberos_kinds kerberos_formats formats_told schema kerberos name named
    (subst (λ (r : Role). each_below (λ i. nat_eq i 32 || fits kerberos_kinds every_row 64 shapes fields cases 64 true i name.text.now r) 150 ≡ true) (sym none)
    (formats_fits name.text.now)) is

pub row_fits : (row_name text : List ℕ) (is : ℕ) → row_in types row_name ≡ Some is
    → fits kerberos_kinds every_row 64 shapes fields cases 64 true is text roles.None ≡ true
row_fits row_name text is row = by_type (λ k. fits kerberos_kinds every_row 64 shapes fields cases 64 true k text roles.None) types row_name is (types_fit text)
    row

row_apart : (row_name text : List ℕ) → IsNoLeafRow row_name → (is : ℕ) → row_in types row_name ≡ Some is
    → apart_firsts (firsts kerberos_kinds every_row 64 shapes fields cases 64 is text roles.None) (openings (of_leaf ∷ []) text) ≡ true
row_apart row_name text no_leaf is row =
    by_test (or_true (is_leaf_shape (slice_get shapes is)) (apart_firsts (firsts kerberos_kinds every_row 64 shapes fields cases 64 is text roles.None)
    (openings (of_leaf ∷ []) text))
    (by_type (λ k. is_leaf_shape (slice_get shapes k) || apart_firsts (firsts kerberos_kinds every_row 64 shapes fields cases 64 k text roles.None)
    (openings (of_leaf ∷ []) text))
    types row_name is (types_apart text) row))
  where
    by_test : (is_leaf_shape (slice_get shapes is) ≡ true) ⊎ (apart_firsts (firsts kerberos_kinds every_row 64 shapes fields cases 64 is text roles.None)
        (openings (of_leaf ∷ []) text) ≡ true)
        → apart_firsts (firsts kerberos_kinds every_row 64 shapes fields cases 64 is text roles.None) (openings (of_leaf ∷ []) text) ≡ true
    by_test (inl t) = absurd (both (is_leaf_shape (slice_get shapes is)) t (no_leaf is row))
      where
        both : (b : Bool) → b ≡ true → b ≡ false → ⊥
        both b e f = cc
    by_test (inr t) = t

pub named_rows_tell : (row_name text : List ℕ) → IsNoLeafRow row_name → is_name text ≡ true → NamedTextTells formats_of row_name text
named_rows_tell row_name text no_leaf named =
    named_text_tells formats_of kerberos_kinds kerberos_formats formats_told row_name text named (row_fits row_name text) (row_apart row_name text no_leaf)

pub named_elements_tell : (row_name text : List ℕ) → is_name text ≡ true → NamedElementsTell formats_of row_name text
named_elements_tell row_name text named octets other page another small little e f h k some more same =
    page_of_items formats_of kerberos_kinds kerberos_formats formats_told row_name text named (row_fits row_name text) octets other page another small little
    (one_lines (page_lines 0 page) (page_lines 0 another) some more same)
    (items_alone formats_of row_name text octets [] page e h) (items_alone formats_of row_name text other [] another f k)
