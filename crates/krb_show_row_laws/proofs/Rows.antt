-- Elements of each row are told by their lines, where the table passes the test.
use Rattle.std.proofs.Common.{◌≡◌, ◌⊎◌, ℕ, zero, suc, ◌+◌, ◌≤◌, Bool, true, false, ◌||◌, inl, inr, refl, sym, ap, subst, ◌∙◌, ℤ, List, [], ◌∷◌, take, drop, arith}
use Rattle.std.specs.Prelude.{Option, None, Some, map, option_map, unwrap_or}
use Rattle.std.specs.List.{drop-map, slice_get, take-map}
use Rattle.krb_der_core.specs.Integer.{shortest}
use Rattle.krb_der_core.specs.Tlv.{tlv}
use Rattle.krb_schema.specs.declared.item.Node.TheVariants as nodes
use Rattle.krb_schema.specs.declared.shape.Field.{Field}
use Rattle.krb_schema.specs.declared.shape.Leaf.TheVariants as leaves
use Rattle.krb_schema.specs.declared.shape.Name.{Name}
use Rattle.krb_schema.specs.declared.shape.Role.{Role}
use Rattle.krb_schema.specs.declared.shape.Schema.{Schema}
use Rattle.krb_schema.specs.declared.shape.Shape.{Shape}
use Rattle.krb_schema.specs.declared.shape.Shape.TheVariants as shape
use Rattle.krb_schema.specs.Forests.{Forest, none, leaf, node, enc}
use Rattle.krb_schema.specs.Named.{case_row, field_row, name_row}
use Rattle.krb_schema.specs.Shapes.{AreFields, IsElement, IsShaped, called, list_node, part}
use Rattle.krb_show.specs.Leaves.{number_of}
use Rattle.krb_show.specs.Pages.{struct_of}
use Rattle.krb_show.specs.Tokens.{Label, Token}
use Rattle.krb_show.specs.RowLeaves.{leaf_as}
use Rattle.krb_show_row_laws.specs.Telling.{is_name, other_than}
use Rattle.krb_show_row_laws.specs.Firsts.{First, Kinds}
use Rattle.krb_show_row_laws.specs.Formats.{FormatsTell}
use Rattle.krb_show_row_laws.specs.Pages.{behind, forest_shown, is_of_name, label_in, leaf_shown, list_shown}
use Rattle.krb_show_row_laws.specs.Tests.{CaseRow, FieldRow, held_firsts, held_fits, all_fit, apart_fields, apart_sequences, fields_fit, firsts, fit, fits, is_integer, is_number, is_own, is_told, own_role, own_text, option_firsts, option_fits, rows_fit, sequence, sequence_by, shape_firsts, shape_fits}
use Rattle.krb_show_row_laws.proofs.SplitLaws.{and_left, and_right}
use Rattle.krb_show_row_laws.proofs.WordLaws.{of_other}
use Rattle.krb_show_row_laws.proofs.FieldLaws.{tells_so}
use Rattle.krb_show_row_laws.proofs.StructLaws.{struct_heads, tells_struct}
use Rattle.krb_show_row_laws.proofs.LeafLaws.{Lines, OneLine, number_line, octets_line}
use Rattle.krb_show_row_laws.proofs.FirstLaws.{Never, firsts_so, never_so, one_first, or_true, tells_via}
use Rattle.krb_show_row_laws.proofs.ForestLaws.{AreSmall, then_nothing}
use Rattle.krb_show_row_laws.proofs.LeafRows.{any_heads, any_told, leaf_first, leaf_told, line_so}
use Rattle.krb_show_row_laws.proofs.Told.{Links, Told, links_first, links_integer, told_so}
use Rattle.krb_show_row_laws.proofs.FieldRows.{AreTold, fields_blocks, fields_told}
use Rattle.krb_show_row_laws.proofs.ApartRows.{AreNumbers, structs_never}
use Rattle.krb_show_row_laws.proofs.HeldRows.{Naming, held_first, held_told, holds}
use Rattle.krb_show_row_laws.proofs.ListRows.{either_told, list_first}

-- ---- tables

pub part_map : {A B : Type 0} (f : A → B) (start count : ℕ) (xs : List A) → part start count (map f xs) ≡ map f (part start count xs)
part_map {A} {B} f start count xs = ap (λ (l : List B). take count l) (drop-map f start xs) ∙ take-map f count (drop start xs)

abbrev given : Option Shape → Shape → Shape
given None other = other
given (Some s) other = s

pub same_shape : (s t : Shape) → Some s ≡ Some t → s ≡ t
same_shape s t e = ap (λ (o : Option Shape). given o s) e

no_test : false ≡ true → ⊥
no_test e = cc

no_shape : {A : Type 0} (a : A) → None ≡ Some a → ⊥
no_shape a e = cc

as_is : (tells : Role → List ℕ → Label → List ℕ → List Token → List Token → Type 0) (in_list : Bool) (number : List ℕ) (f g : Forest) → f ≡ g
    → (old new : List Token)
    → forest_shown tells in_list number f old new → forest_shown tells in_list number g old new
as_is tells in_list number f g e old new h = subst (λ (x : Forest). forest_shown tells in_list number x old new) e h

-- the name of a case's element, by the one that is of its own
own_text_of : (o : Option Name) (name : Name) → (unwrap_or o name).text.now ≡ own_text (option_map name_row o) name.text.now
own_text_of None name = refl
own_text_of (Some own) name = refl

own_role_of : (o : Option Name) (name : Name) → (unwrap_or o name).role ≡ own_role (option_map name_row o) name.role
own_role_of None name = refl
own_role_of (Some own) name = refl

not_own : (o : Option Name) (name : Name) → other_than (is_own (option_map name_row o)) ≡ true → unwrap_or o name ≡ name
not_own None name e = refl
not_own (Some own) name e = absurd (no_test e)

module _ (tells : Role → List ℕ → Label → List ℕ → List Token → List Token → Type 0) (kinds : Kinds) (formats : FormatsTell kinds tells) (covers : ℕ → Bool)
    (deep : ℕ)
    (schema : Schema) where
  abbrev shapes_in : List Shape
  shapes_in = schema.shapes.now

  abbrev table : List FieldRow
  table = map field_row schema.fields.now

  abbrev cases_in : List CaseRow
  cases_in = map case_row schema.cases.now

  abbrev fit_rows : ℕ → List Shape → Bool
  fit_rows = rows_fit kinds covers deep shapes_in table cases_in

  abbrev fit_fields : Shape → Bool
  fit_fields = fields_fit kinds covers deep shapes_in table cases_in

  abbrev pub fits_at : ℕ → Bool → ℕ → Name → Bool
  fits_at n linked is name = fits kinds covers deep shapes_in table cases_in n linked is name.text.now name.role

  abbrev pub firsts_at : ℕ → ℕ → Name → List First
  firsts_at n is name = firsts kinds covers deep shapes_in table cases_in n is name.text.now name.role

  abbrev sequence_at : ℕ → ℕ → Option (List FieldRow)
  sequence_at = sequence kinds covers deep shapes_in table cases_in

  -- the test of a row
  row_fits : (i k : ℕ) (rows : List Shape) (s : Shape) → fit_rows i rows ≡ true → slice_get rows k ≡ Some s → covers (i + k) ≡ true → fit_fields s ≡ true
  row_fits i k [] s h e covered = absurd (no_shape s e)
  row_fits i zero (r ∷ rows) s h e covered =
      by_test (or_true (other_than (covers i)) (fit_fields r) (and_left (other_than (covers i) || fit_fields r) (fit_rows (suc i) rows) h))
    where
      here : covers i ≡ true
      here = subst (λ (n : ℕ). covers n ≡ true) (omega arith) covered

      by_test : (other_than (covers i) ≡ true) ⊎ (fit_fields r ≡ true) → fit_fields s ≡ true
      by_test (inl t) = absurd (no_test (sym (of_other (covers i) t) ∙ here))
      by_test (inr t) = subst (λ (x : Shape). fit_fields x ≡ true) (same_shape r s e) t
  row_fits i (suc k) (r ∷ rows) s h e covered =
      row_fits (suc i) k rows s (and_right (other_than (covers i) || fit_fields r) (fit_rows (suc i) rows) h) e
      (subst (λ (n : ℕ). covers n ≡ true) (omega arith) covered)

  -- ---- numbers are one line

  value_line : (label : Label) (content : List ℕ) → Lines label.text (λ s. Unit {0})
      (leaf_as {A = ℤ} (λ v. Unit {0}) (λ v. tlv 2 (shortest v)) number_of 2 label content)
  value_line label content = record { line_of = line_of }
    where
      line_of : (old new : List Token) → leaf_as {A = ℤ} (λ v. Unit {0}) (λ v. tlv 2 (shortest v)) number_of 2 label content old new
          → OneLine label.text (λ s. Unit {0}) old new
      line_of old new (inl (v, i, f, s)) = line_so (λ t h. tt) ((number_line label v tt).line_of old new s)
      line_of old new (inr (lacks, s)) = line_so (λ t h. tt) ((octets_line label content).line_of old new s)

  leaf_line : (name : Name) (kind : _) (tag : ℕ) (content : List ℕ) (f : Forest) → f ≡ leaf kind name tag content none → (in_list : Bool) (number : List ℕ)
      → Lines name.text.now (λ s. Unit {0}) (leaf_shown tells kind name tag content in_list number)
      → Lines name.text.now (λ s. Unit {0}) (forest_shown tells in_list number f)
  leaf_line name kind tag content f e in_list number l = record {
    line_of = λ old new h. l.line_of old new (then_nothing (leaf_shown tells kind name tag content in_list number) old new
        (as_is tells in_list number f (leaf kind name tag content none) e old new h));
  }

  shape_line : (levels : ℕ) (s : Shape) (name : Name) (before : List ℕ) (f : Forest) → is_number (Some s) ≡ true
      → IsShaped (IsElement levels schema) schema s name before f → (in_list : Bool)
      (number : List ℕ) → Lines name.text.now (λ t. Unit {0}) (forest_shown tells in_list number f)
  shape_line levels (shape.Leaf tag leaves.Integer) name before f e v in_list number =
      leaf_line name leaves.Integer tag v.0 f v.2 in_list number (value_line (label_in in_list name) v.0)
  shape_line levels (shape.Leaf tag (leaves.Number n)) name before f e v in_list number =
      leaf_line name (leaves.Number n) tag v.0 f v.2 in_list number (value_line (label_in in_list name) v.0)
  shape_line levels (shape.Leaf tag leaves.Microseconds) name before f e v in_list number =
      leaf_line name leaves.Microseconds tag v.0 f v.2 in_list number (value_line (label_in in_list name) v.0)
  shape_line levels other name before f e v in_list number = absurd (no_test e)

  number_lines : (levels : ℕ) → AreNumbers tells kinds covers deep shapes_in table cases_in (IsElement levels schema)
  number_lines zero is name before f e v in_list number = absurd v
  number_lines (suc levels) is name before f e v in_list number =
      shape_line levels v.0 name before f (subst (λ (o : Option Shape). is_number o ≡ true) v.1 e) v.2 in_list number

  -- ---- an INTEGER is the number behind it

  integer_leaf : (name : Name) (tag : ℕ) (content : List ℕ) (f : Forest) → f ≡ leaf leaves.Integer name tag content none → (number : List ℕ)
      → Links true (enc f) (behind f number)
  integer_leaf name tag content f e number = subst (λ (x : Forest). Links true (enc x) (behind x number)) (sym e) (links_integer name tag content)

  shape_links : (levels : ℕ) (s : Shape) (name : Name) (before : List ℕ) (f : Forest) → is_integer (Some s) ≡ true
      → IsShaped (IsElement levels schema) schema s name before f
      → (number : List ℕ) → Links true (enc f) (behind f number)
  shape_links levels (shape.Leaf tag leaves.Integer) name before f e v number = integer_leaf name tag v.0 f v.2 number
  shape_links levels other name before f e v number = absurd (no_test e)

  integer_links : (levels is : ℕ) (name : Name) (before : List ℕ) (f : Forest) → is_integer (slice_get shapes_in is) ≡ true
      → IsElement levels schema is name before f
      → (number : List ℕ) → Links true (enc f) (behind f number)
  integer_links zero is name before f e v number = absurd v
  integer_links (suc levels) is name before f e v number = shape_links levels v.0 name before f (subst (λ (o : Option Shape). is_integer o ≡ true) v.1 e) v.2
      number

  -- ---- elements of rows of SEQUENCEs

  record Struct (name : Name) (xs : List FieldRow) (bound : ℕ) (f : Forest) : Type 0 where
    levels : ℕ
    less : levels ≤ bound
    fields : List Field
    rows : map field_row fields ≡ xs
    all : all_fit kinds covers deep shapes_in table cases_in true (map field_row fields) ≡ true
    inside : Forest
    right : AreFields (IsElement levels schema) fields [] inside
    small : AreSmall inside
    shown : (in_list : Bool) (number : List ℕ) (old new : List Token) → forest_shown tells in_list number f old new
        → struct_of (label_in in_list name) (forest_shown tells false number inside) old new

  in_tag : {name : Name} {xs : List FieldRow} {bound : ℕ} (tag : ℕ) (inside f : Forest) → f ≡ node nodes.Wrap name tag inside none → Struct name xs bound inside
      → Struct name xs (suc bound) f
  in_tag {name} tag inside f e s = record {
    levels = s.levels;
    less = omega (arith, s.less);
    fields = s.fields;
    rows = s.rows;
    all = s.all;
    inside = s.inside;
    right = s.right;
    small = s.small;
    shown = λ in_list number old new h.
        s.shown in_list number old new (then_nothing (forest_shown tells in_list number inside) old new
        (as_is tells in_list number f (node nodes.Wrap name tag inside none) e old new h));
  }

  shape_struct : (levels n : ℕ) (linked : Bool) (s : Shape) (name : Name) (xs : List FieldRow) (before : List ℕ) (f : Forest)
      → sequence_by kinds covers deep shapes_in table cases_in (sequence_at n) (Some s) ≡ Some xs
      → shape_fits kinds covers deep shapes_in table cases_in (fits kinds covers deep shapes_in table cases_in n) n linked s name.text.now name.role ≡ true
      → fit_fields s ≡ true
      → IsShaped (IsElement levels schema) schema s name before f → AreSmall f
      → ((is : ℕ) (inside : Forest) → sequence_at n is ≡ Some xs → fits_at n linked is name ≡ true → IsElement levels schema is name before inside
      → AreSmall inside → Struct name xs levels inside)
      → Struct name xs (suc levels) f
  shape_struct levels n linked (shape.Leaf tag kind) name xs before f e fitting fields v small again = absurd (no_shape xs e)
  shape_struct levels n linked (shape.Tagged tag is) name xs before f e fitting fields v small again =
      in_tag tag v.0 f v.2 (again is v.0 e fitting v.1 (subst AreSmall v.2 small).0)
  shape_struct levels n linked (shape.Sequence tag start size) name xs before f e fitting fields v small again =
      let rows = part_map field_row start size schema.fields.now in
      record {
        levels = levels;
        less = omega arith;
        fields = part start size schema.fields.now;
        rows = sym rows ∙ same_rows (part start size table) xs e;
        all = subst (λ (r : List FieldRow). all_fit kinds covers deep shapes_in table cases_in true r ≡ true) rows
            (and_left (all_fit kinds covers deep shapes_in table cases_in true (part start size table))
            (fit kinds covers deep shapes_in table cases_in (part start size table) []) fields);
        inside = v.0;
        right = v.2;
        small = (subst AreSmall v.3 small).0;
        shown = λ in_list number old new h. then_nothing (struct_of (label_in in_list name) (forest_shown tells false number v.0)) old new
            (as_is tells in_list number f (node nodes.Struct name tag v.0 none) v.3 old new h);
      }
    where
      same_rows : (r s : List FieldRow) → Some r ≡ Some s → r ≡ s
      same_rows r s q = cc
  shape_struct levels n linked (shape.SequenceOf tag is filled) name xs before f e fitting fields v small again = absurd (no_shape xs e)
  shape_struct levels n linked (shape.Holding start size) name xs before f e fitting fields v small again = absurd (no_shape xs e)
  shape_struct levels n linked shape.Any name xs before f e fitting fields v small again = absurd (no_shape xs e)

  module _ (told : is_told kinds covers deep shapes_in table cases_in ≡ true) where
    struct_at : (levels n : ℕ) (linked : Bool) (is : ℕ) (name : Name) (xs : List FieldRow) (before : List ℕ) (f : Forest) → sequence_at n is ≡ Some xs
        → fits_at n linked is name ≡ true
        → IsElement levels schema is name before f → AreSmall f → Struct name xs levels f
    struct_at zero n linked is name xs before f e fitting v small = absurd v
    struct_at (suc levels) zero linked is name xs before f e fitting v small = absurd (no_shape xs e)
    struct_at (suc levels) (suc n) linked is name xs before f e fitting v small =
        shape_struct levels n linked v.0 name xs before f (subst (λ (o : Option Shape). sequence_by kinds covers deep shapes_in table cases_in (sequence_at n)
        o ≡ Some xs) v.1 e)
        (subst (λ (o : Option Shape). option_fits kinds covers deep shapes_in table cases_in (fits kinds covers deep shapes_in table cases_in n) n linked o
        name.text.now name.role ≡ true) v.1
        (and_right (covers is) (option_fits kinds covers deep shapes_in table cases_in (fits kinds covers deep shapes_in table cases_in n) n linked
        (slice_get shapes_in is) name.text.now name.role) fitting))
        (row_fits 0 is shapes_in v.0 told v.1 (subst (λ (k : ℕ). covers k ≡ true) (omega arith)
        (and_left (covers is) (option_fits kinds covers deep shapes_in table cases_in (fits kinds covers deep shapes_in table cases_in n) n linked
        (slice_get shapes_in is) name.text.now name.role) fitting)))
        v.2 small (λ are inside p q r t. struct_at levels n linked are name xs before inside p q r t)

    -- ---- rows

    -- elements of so many levels are told
    abbrev RowsTold : ℕ → Type 0
    RowsTold bound = (levels : ℕ) → levels ≤ bound → (n : ℕ) → levels ≤ n → (linked : Bool) (is : ℕ) (name : Name) → fits_at n linked is name ≡ true
        → is_name name.text.now ≡ true
        → Told tells linked (firsts_at n is name) (IsElement levels schema is name)

    module _ (levels n : ℕ) (few : levels ≤ deep) (less : levels ≤ n) (rows : RowsTold levels) (name : Name) (named : is_name name.text.now ≡ true)
        (linked : Bool) where
      abbrev R : ℕ → Name → List ℕ → Forest → Type 0
      R = IsElement levels schema

      all_rows : (k : ℕ) → k ≤ levels → AreTold tells kinds covers deep shapes_in table cases_in (IsElement k schema)
      all_rows k le = record {
        rows = λ linked is other fitting well. rows k le deep (omega (arith, few, le)) linked is other fitting well;
        links = integer_links k;
      }

      row_at : (linked : Bool) (is : ℕ) → fits_at n linked is name ≡ true → Told tells linked (firsts_at n is name) (R is name)
      row_at linked is fitting = rows levels (omega arith) n less linked is name fitting named

      any_row : (is : ℕ) (other : Name) → fits_at n true is other ≡ true → is_name other.text.now ≡ true → Told tells true (firsts_at n is other) (R is other)
      any_row is other fitting well = rows levels (omega arith) n less true is other fitting well

      sequences_never : (is are : ℕ) (o p : Option (List FieldRow)) → sequence_at n is ≡ o → sequence_at n are ≡ p → fits_at n true is name ≡ true
          → fits_at n true are name ≡ true
          → apart_sequences kinds covers deep shapes_in table cases_in o p ≡ true → (f g : Forest) → R is name [] f → R are name [] g → AreSmall f → AreSmall g
          → (in_list : Bool) (number another : List ℕ) → Never (forest_shown tells in_list number f) (forest_shown tells in_list another g)
      sequences_never is are None p e h fitting fitting_too t f g r w small little in_list number another = absurd (no_test t)
      sequences_never is are (Some xs) None e h fitting fitting_too t f g r w small little in_list number another = absurd (no_test t)
      sequences_never is are (Some xs) (Some ys) e h fitting fitting_too t f g r w small little in_list number another =
          let a = struct_at levels n true is name xs [] f e fitting r small in
          let b = struct_at levels n true are name ys [] g h fitting_too w little in
          let apart = subst (λ (x : List FieldRow). apart_fields kinds covers deep shapes_in table cases_in x (map field_row b.fields) ≡ true) (sym a.rows)
          (subst (λ (y : List FieldRow). apart_fields kinds covers deep shapes_in table cases_in xs y ≡ true) (sym b.rows) t) in
          never_so (a.shown in_list number) (b.shown in_list another)
          (structs_never tells kinds covers deep shapes_in table cases_in (IsElement a.levels schema) (IsElement b.levels schema) (all_rows a.levels a.less)
          (all_rows b.levels b.less)
          (number_lines a.levels) (number_lines b.levels) (label_in in_list name) named a.fields b.fields a.inside b.inside a.right b.right a.small b.small
          a.all b.all apart number another)

      -- ---- each shape

      abbrev ShapeTold : Shape → Type 0
      ShapeTold s = Told tells linked (shape_firsts kinds covers deep shapes_in table cases_in (firsts kinds covers deep shapes_in table cases_in n) s
          name.text.now name.role)
          (IsShaped R schema s name)

      leaf_shape : (tag : ℕ) (kind : _) → ShapeTold (shape.Leaf tag kind)
      leaf_shape tag kind = record {
        first = λ before f v small in_list number l. firsts_so (λ old new h. then_nothing (leaf_shown tells kind name tag v.0 in_list number) old new
            (as_is tells in_list number f _ v.2 old new h))
            (leaf_first tells kinds formats kind name tag v.0 named v.1 (subst AreSmall v.2 small).0 in_list number);
        told = λ before other f g v w small little in_list number another l k.
            tells_via (λ old new h. then_nothing (leaf_shown tells kind name tag v.0 in_list number) old new (as_is tells in_list number f _ v.2 old new h))
            (λ old new h. then_nothing (leaf_shown tells kind name tag w.0 in_list another) old new (as_is tells in_list another g _ w.2 old new h))
            (tells_so (λ u. u.1) (λ e. v.2 ∙ ap (λ (c : List ℕ). leaf kind name tag c none) e ∙ sym w.2)
            (leaf_told tells kinds formats kind name tag v.0 w.0 named v.1 w.1 (subst AreSmall v.2 small).0 (subst AreSmall w.2 little).0 in_list number
            another));
      }

      any_shape : ShapeTold shape.Any
      any_shape = record {
        first = λ before f v small in_list number l. firsts_so (λ old new h. then_nothing (leaf_shown tells leaves.Any name v.0 v.1 in_list number) old new
            (as_is tells in_list number f _ v.3 old new h))
            (one_first named (any_heads (label_in in_list name) v.0 v.1));
        told = λ before other f g v w small little in_list number another l k.
            tells_via (λ old new h. then_nothing (leaf_shown tells leaves.Any name v.0 v.1 in_list number) old new
            (as_is tells in_list number f _ v.3 old new h))
            (λ old new h. then_nothing (leaf_shown tells leaves.Any name w.0 w.1 in_list another) old new (as_is tells in_list another g _ w.3 old new h))
            (tells_so (λ u. tt)
            (λ e. v.3 ∙ ap (λ (t : ℕ). leaf leaves.Any name t v.1 none) e.0 ∙ ap (λ (c : List ℕ). leaf leaves.Any name w.0 c none) e.1 ∙ sym w.3)
            (any_told (label_in in_list name) v.0 w.0 v.1 w.1 named (subst AreSmall v.3 small).0 (subst AreSmall w.3 little).0));
      }

      tagged_shape : (tag is : ℕ) → fits_at n linked is name ≡ true → ShapeTold (shape.Tagged tag is)
      tagged_shape tag is fitting = record {
        first = λ before f v small in_list number l.
            firsts_so (λ old new h. then_nothing (forest_shown tells in_list number v.0) old new
            (as_is tells in_list number f (node nodes.Wrap name tag v.0 none) v.2 old new h))
            ((row_at linked is fitting).first before v.0 v.1 (subst AreSmall v.2 small).0 in_list number l);
        told = λ before other f g v w small little in_list number another l k.
            tells_via (λ old new h. then_nothing (forest_shown tells in_list number v.0) old new
            (as_is tells in_list number f (node nodes.Wrap name tag v.0 none) v.2 old new h))
            (λ old new h. then_nothing (forest_shown tells in_list another w.0) old new
            (as_is tells in_list another g (node nodes.Wrap name tag w.0 none) w.2 old new h))
            (tells_so (λ u. u) (λ e. v.2 ∙ ap (λ (x : Forest). node nodes.Wrap name tag x none) e ∙ sym w.2)
            ((row_at linked is fitting).told before other v.0 w.0 v.1 w.1 (subst AreSmall v.2 small).0 (subst AreSmall w.2 little).0 in_list number another l
            k));
      }

      sequence_shape : (tag start size : ℕ) → fit_fields (shape.Sequence tag start size) ≡ true → ShapeTold (shape.Sequence tag start size)
      sequence_shape tag start size tested = record {
        first = λ before f v small in_list number l.
            firsts_so (λ old new h. then_nothing (struct_of (label_in in_list name) (forest_shown tells false number v.0)) old new
            (as_is tells in_list number f (node nodes.Struct name tag v.0 none) v.3 old new h))
            (one_first named (struct_heads (label_in in_list name)
            (fields_blocks tells kinds covers deep shapes_in table cases_in R (all_rows levels (omega arith)) true these [] v.0 v.2 (subst AreSmall v.3 small).0
            all number (links_first true number))));
        told = λ before other f g v w small little in_list number another l k.
            tells_via (λ old new h. then_nothing (struct_of (label_in in_list name) (forest_shown tells false number v.0)) old new
            (as_is tells in_list number f (node nodes.Struct name tag v.0 none) v.3 old new h))
            (λ old new h. then_nothing (struct_of (label_in in_list name) (forest_shown tells false another w.0)) old new
            (as_is tells in_list another g (node nodes.Struct name tag w.0 none) w.3 old new h))
            (tells_so (λ u. (refl, u.1)) (λ e. v.3 ∙ ap (λ (x : Forest). node nodes.Struct name tag x none) e ∙ sym w.3)
            (tells_struct (label_in in_list name) named
            (fields_told tells kinds covers deep shapes_in table cases_in R (all_rows levels (omega arith)) true these all [] [] v.0 w.0 v.2 w.2
            (subst AreSmall v.3 small).0 (subst AreSmall w.3 little).0 number another
            (links_first true number) (links_first true another))
            fitting));
      }
        where
          these : List Field
          these = part start size schema.fields.now

          rows_are : part start size table ≡ map field_row these
          rows_are = part_map field_row start size schema.fields.now

          all : all_fit kinds covers deep shapes_in table cases_in true (map field_row these) ≡ true
          all = subst (λ (r : List FieldRow). all_fit kinds covers deep shapes_in table cases_in true r ≡ true) rows_are
              (and_left (all_fit kinds covers deep shapes_in table cases_in true (part start size table))
              (fit kinds covers deep shapes_in table cases_in (part start size table) []) tested)

          fitting : fit kinds covers deep shapes_in table cases_in (map field_row these) [] ≡ true
          fitting = subst (λ (r : List FieldRow). fit kinds covers deep shapes_in table cases_in r [] ≡ true) rows_are
              (and_right (all_fit kinds covers deep shapes_in table cases_in true (part start size table))
              (fit kinds covers deep shapes_in table cases_in (part start size table) []) tested)

      as_a_list : (filled : Bool) (tag : ℕ) (inside : Forest) (in_list : Bool) (number : List ℕ) (f : Forest) → f ≡ node (list_node filled) name tag inside none
          → (old new : List Token)
          → forest_shown tells in_list number f old new → list_shown (is_of_name inside) (label_in in_list name) inside (forest_shown tells true number inside)
          old new
      as_a_list true tag inside in_list number f e old new h =
          then_nothing (list_shown (is_of_name inside) (label_in in_list name) inside (forest_shown tells true number inside)) old new
          (as_is tells in_list number f (node nodes.FilledList name tag inside none) e old new h)
      as_a_list false tag inside in_list number f e old new h =
          then_nothing (list_shown (is_of_name inside) (label_in in_list name) inside (forest_shown tells true number inside)) old new
          (as_is tells in_list number f (node nodes.List name tag inside none) e old new h)

      list_shape : (tag is : ℕ) (filled : Bool) → fits_at n true is name ≡ true → ShapeTold (shape.SequenceOf tag is filled)
      list_shape tag is filled fitting = record {
        first = λ before f v small in_list number l.
            firsts_so (as_a_list filled tag v.0 in_list number f v.2) (list_first tells levels schema is name named (row_at true is fitting) v.0 v.1
            (subst AreSmall v.2 small).0 in_list number);
        told = λ before other f g v w small little in_list number another l k.
            tells_via (as_a_list filled tag v.0 in_list number f v.2) (as_a_list filled tag w.0 in_list another g w.2)
            (tells_so (λ u. u.1) (λ e. v.2 ∙ ap (λ (x : Forest). node (list_node filled) name tag x none) e ∙ sym w.2)
            (either_told tells levels schema is name named (row_at true is fitting) v.0 w.0 v.1 w.1 (subst AreSmall v.2 small).0 (subst AreSmall w.2 little).0
            in_list number another));
      }

      differ : (is are : ℕ) → fits_at n true is name ≡ true → fits_at n true are name ≡ true
          → apart_sequences kinds covers deep shapes_in table cases_in (sequence_at n is) (sequence_at n are) ≡ true
          → (f g : Forest) → R is name [] f → R are name [] g → AreSmall f → AreSmall g
          → (in_list : Bool) (number another : List ℕ) → Never (forest_shown tells in_list number f) (forest_shown tells in_list another g)
      differ is are = sequences_never is are (sequence_at n is) (sequence_at n are) refl refl

      -- each case's element is called as the case says
      naming : Naming (λ c. option_map name_row c.name) (λ c. called c name) name
      naming = record { text = λ c. own_text_of c.name name; role = λ c. own_role_of c.name name; shared = λ c e. not_own c.name name e }

      held_rows : (start size : ℕ) → held_fits kinds covers deep shapes_in table cases_in (fits kinds covers deep shapes_in table cases_in n true) n linked
          (map case_row (part start size schema.cases.now))
          name.text.now name.role ≡ true
          → Told tells linked (held_firsts kinds covers deep shapes_in table cases_in (firsts kinds covers deep shapes_in table cases_in n)
          (map case_row (part start size schema.cases.now))
          name.text.now name.role) (IsShaped R schema (shape.Holding start size) name)
      held_rows start size fitting = record {
        first = λ before f v small in_list number l.
            held_first tells kinds formats covers deep shapes_in table cases_in n R (λ c. option_map name_row c.name) (λ c. called c name) name naming named
            linked any_row differ before v.0 (part start size schema.cases.now) f
            (holds R name before v.0 (part start size schema.cases.now) f v.2) small fitting in_list number;
        told = λ before other f g v w small little in_list number another l k.
            held_told tells kinds formats covers deep shapes_in table cases_in n R (λ c. option_map name_row c.name) (λ c. called c name) name naming named
            linked any_row differ before other v.0 w.0
            (part start size schema.cases.now) f g (holds R name before v.0 (part start size schema.cases.now) f v.2)
            (holds R name other w.0 (part start size schema.cases.now) g w.2)
            small little fitting in_list number another l k;
      }

      held_shape : (start size : ℕ)
          → shape_fits kinds covers deep shapes_in table cases_in (fits kinds covers deep shapes_in table cases_in n) n linked (shape.Holding start size)
          name.text.now name.role ≡ true
          → ShapeTold (shape.Holding start size)
      held_shape start size fitting =
          let rows_are = part_map case_row start size schema.cases.now in
          subst (λ (cs : List CaseRow). Told tells linked (held_firsts kinds covers deep shapes_in table cases_in
          (firsts kinds covers deep shapes_in table cases_in n) cs name.text.now name.role)
          (IsShaped R schema (shape.Holding start size) name)) (sym rows_are)
          (held_rows start size
          (subst (λ (cs : List CaseRow). held_fits kinds covers deep shapes_in table cases_in (fits kinds covers deep shapes_in table cases_in n true) n linked
          cs name.text.now name.role ≡ true)
          rows_are fitting))

      shape_told : (s : Shape) → shape_fits kinds covers deep shapes_in table cases_in (fits kinds covers deep shapes_in table cases_in n) n linked s
          name.text.now name.role ≡ true → fit_fields s ≡ true
          → ShapeTold s
      shape_told (shape.Leaf tag kind) fitting tested = leaf_shape tag kind
      shape_told (shape.Tagged tag is) fitting tested = tagged_shape tag is fitting
      shape_told (shape.Sequence tag start size) fitting tested = sequence_shape tag start size tested
      shape_told (shape.SequenceOf tag is filled) fitting tested = list_shape tag is filled fitting
      shape_told (shape.Holding start size) fitting tested = held_shape start size fitting
      shape_told shape.Any fitting tested = any_shape

      option_told : (is : ℕ) (o : Option Shape) → slice_get shapes_in is ≡ o → covers is ≡ true
          → option_fits kinds covers deep shapes_in table cases_in (fits kinds covers deep shapes_in table cases_in n) n linked o name.text.now name.role ≡ true
          → Told tells linked (option_firsts kinds covers deep shapes_in table cases_in (firsts kinds covers deep shapes_in table cases_in n) o name.text.now
          name.role) (IsElement (suc levels) schema is name)
      option_told is None e covered fitting = record {
        first = λ before f v small in_list number l. absurd (no_shape v.0 (sym e ∙ v.1));
        told = λ before other f g v w small little in_list number another l k. absurd (no_shape v.0 (sym e ∙ v.1));
      }
      option_told is (Some s) e covered fitting =
          told_so tells (λ before f v. subst (λ (t : Shape). IsShaped R schema t name before f) (same_shape v.0 s (sym v.1 ∙ e)) v.2)
          (shape_told s fitting (row_fits 0 is shapes_in s told e (subst (λ (k : ℕ). covers k ≡ true) (omega arith) covered)))

      next_told : (is : ℕ) → fits_at (suc n) linked is name ≡ true → Told tells linked (firsts_at (suc n) is name) (IsElement (suc levels) schema is name)
      next_told is fitting =
          option_told is (slice_get shapes_in is) refl
          (and_left (covers is) (option_fits kinds covers deep shapes_in table cases_in (fits kinds covers deep shapes_in table cases_in n) n linked
          (slice_get shapes_in is) name.text.now name.role) fitting)
          (and_right (covers is) (option_fits kinds covers deep shapes_in table cases_in (fits kinds covers deep shapes_in table cases_in n) n linked
          (slice_get shapes_in is) name.text.now name.role) fitting)

    fewer : (levels bound : ℕ) → levels ≤ bound → RowsTold bound → RowsTold levels
    fewer levels bound le rows k less = rows k (omega (arith, le, less))

    pub rows_told : (bound : ℕ) → bound ≤ deep → RowsTold bound
    rows_told bound few zero le n less linked is name fitting named = record {
      first = λ before f v small in_list number l. absurd v;
      told = λ before other f g v w small little in_list number another l k. absurd v;
    }
    rows_told zero few (suc levels) le n less linked is name fitting named = absurd (omega (arith, le))
    rows_told (suc bound) few (suc levels) le zero less linked is name fitting named = absurd (omega (arith, less))
    rows_told (suc bound) few (suc levels) le (suc n) less linked is name fitting named =
        next_told levels n (omega (arith, le, few)) (omega (arith, less)) (fewer levels bound (omega (arith, le)) (rows_told bound (omega (arith, few)))) name
        named linked is fitting
