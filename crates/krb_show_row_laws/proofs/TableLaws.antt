-- Rows of the table of Kerberos.
use Rattle.std.proofs.Common.{◌≡◌, ◌⊎◌, ℕ, zero, suc, ◌<◌, ◌≤◌, nat_eq, nat_lt, Bool, true, false, ◌&&◌, ◌||◌, inl, inr, refl, sym, ap, subst, ◌∙◌, List, [], ◌∷◌, length, arith}
use Rattle.std.specs.Prelude.{Option, None, Some, map, slice_get}
use Rattle.std.proofs.lemmas.Grind.{common_steps}
use Rattle.std.proofs.lemmas.Option.{slice_get_past}
use Rattle.krb_schema.specs.declared.shape.Case.{Case}
use Rattle.krb_schema.specs.declared.shape.Leaf.TheVariants as leaves
use Rattle.krb_schema.specs.declared.shape.Name.{Name}
use Rattle.krb_schema.specs.declared.shape.Role.{Role}
use Rattle.krb_schema.specs.declared.shape.Schema.{Schema}
use Rattle.krb_schema.specs.declared.shape.Shape.{Shape}
use Rattle.krb_schema.specs.declared.shape.Shape.TheVariants as shape
use Rattle.krb_schema.specs.Forests.{Forest, none, leaf}
use Rattle.krb_schema.specs.Named.{IsKerberos, case_row, field_row}
use Rattle.krb_schema.specs.Shapes.{IsBehind, IsElement, IsHeld, IsShaped, part, here, later, plain}
use Rattle.krb_schema.specs.Types.{cases, fields, shapes}
use Rattle.krb_show.specs.Tokens.{Label, Token}
use Rattle.krb_show_row_laws.specs.Telling.{is_name}
use Rattle.krb_show_row_laws.specs.Firsts.{Kinds}
use Rattle.krb_show_row_laws.specs.Formats.{FormatsTell}
use Rattle.krb_show_row_laws.specs.Kerberos.{as_octets, each_below, every_row}
use Rattle.krb_show_row_laws.specs.Laws.{TextTellsOctets}
use Rattle.krb_show_row_laws.specs.Tests.{CaseRow, FieldRow, fits, is_told, option_fits}
use Rattle.krb_show_row_laws.proofs.SplitLaws.{and_both, and_left, and_right}
use Rattle.krb_show_row_laws.proofs.Told.{no_octets}
use Rattle.krb_show_row_laws.proofs.Rows.{part_map, same_shape}
use Rattle.krb_show_row_laws.proofs.FirstLaws.{or_true}
use Rattle.krb_show_row_laws.proofs.TextLaws.{octets_alone, octets_tell, text_tells}
use Rattle.krb_show_row_laws.proofs.Kerberos.{kerberos_fits, kerberos_told}

at_each : (test : ℕ → Bool) (n k : ℕ) → each_below test n ≡ true → k < n → test k ≡ true
at_each test zero k h less = absurd (omega (arith, less))
at_each test (suc n) k h less = by_place (nat_eq k n) refl (at_each test n k (and_right (test n) (each_below test n) h))
  where
    by_place : (b : Bool) → nat_eq k n ≡ b → (k < n → test k ≡ true) → test k ≡ true
    by_place true e before =
        let same : k ≡ n = grind (arith, common_steps) in
        subst (λ (i : ℕ). test i ≡ true) (sym same) (and_left (test n) (each_below test n) h)
    by_place false e before = before (grind (arith, common_steps))

pub by_table : (schema : Schema) → IsKerberos schema → (P : List Shape → List FieldRow → List CaseRow → Type 0) → P shapes fields cases
    → P schema.shapes.now (map field_row schema.fields.now) (map case_row schema.cases.now)
by_table schema k P h =
    subst (λ (s : List Shape). P s (map field_row schema.fields.now) (map case_row schema.cases.now)) (sym k.rows)
    (subst (λ (f : List FieldRow). P shapes f (map case_row schema.cases.now)) (sym k.parts) (subst (λ (c : List CaseRow). P shapes fields c) (sym k.held) h))

-- ---- the test of each row

so_many : length shapes ≡ 150
unfolding shapes
so_many = refl

-- the rows that pass under this name, which are those of the table but for the row of a padata-value
module _ (kinds : Kinds) (name : List ℕ) (role : Role)
    (each : each_below (λ is. nat_eq is 32 || fits kinds every_row 64 shapes fields cases 64 true is name role) 150 ≡ true) where
  fits_within : (is : ℕ) → is < 150 → nat_eq is 32 ≡ false → fits kinds every_row 64 shapes fields cases 64 true is name role ≡ true
  fits_within is less other =
      by_test (or_true (nat_eq is 32) (fits kinds every_row 64 shapes fields cases 64 true is name role)
      (at_each (λ i. nat_eq i 32 || fits kinds every_row 64 shapes fields cases 64 true i name role) 150 is each less))
    where
      by_test : (nat_eq is 32 ≡ true) ⊎ (fits kinds every_row 64 shapes fields cases 64 true is name role ≡ true)
          → fits kinds every_row 64 shapes fields cases 64 true is name role ≡ true
      by_test (inl t) = absurd (cc)
      by_test (inr t) = t

  -- no row is behind the last
  fits_past : (is : ℕ) → 150 ≤ is → fits kinds every_row 64 shapes fields cases 64 true is name role ≡ true
  fits_past is past =
      let many = so_many in
      let none = slice_get_past shapes is (omega (arith, past, many)) in
      let inner = fits kinds every_row 64 shapes fields cases 63 in
      and_both (every_row is) (option_fits kinds every_row 64 shapes fields cases inner 63 true (slice_get shapes is) name role) refl
      (subst (λ (o : Option Shape). option_fits kinds every_row 64 shapes fields cases inner 63 true o name role ≡ true) (sym none) refl)

  pub fits_at : (is : ℕ) → nat_eq is 32 ≡ false → fits kinds every_row 64 shapes fields cases 64 true is name role ≡ true
  fits_at is other = by_place (nat_lt is 150) refl
    where
      by_place : (b : Bool) → nat_lt is 150 ≡ b → fits kinds every_row 64 shapes fields cases 64 true is name role ≡ true
      by_place true e = let less : is < 150 = grind (arith, common_steps) in fits_within is less other
      by_place false e = let past : 150 ≤ is = grind (arith, common_steps) in fits_past is past

-- ---- a padata-value behind no field is plain octets: each of its cases stands behind a number

abbrev is_behind : Option ℕ → Bool
is_behind None = false
is_behind (Some n) = true

abbrev all_behind : List CaseRow → Bool
all_behind [] = true
all_behind (c ∷ cs) = is_behind c.0 && all_behind cs

not_first : (o : Option ℕ) → is_behind o ≡ true → IsBehind o [] → ⊥
not_first None e h = cc
not_first (Some n) e h = no_octets (nat_lt n 128) n h

only_octets : (R : ℕ → Name → List ℕ → Forest → Type 0) (name : Name) (content : List ℕ) (cs : List Case) (f : Forest) → all_behind (map case_row cs) ≡ true
    → IsHeld R name [] content cs f
    → f ≡ leaf leaves.Octets name 4 content none
only_octets R name content cs f e (here c ds inside applies r q) = absurd
    (not_first c.behind (and_left (is_behind c.behind) (all_behind (map case_row ds)) e) applies)
only_octets R name content cs f e (later c ds element lacks r) = only_octets R name content ds element
    (and_right (is_behind c.behind) (all_behind (map case_row ds)) e) r
only_octets R name content cs f e plain = refl

row_32 : slice_get shapes 32 ≡ Some (shape.Holding 5 10)
unfolding shapes
row_32 = refl

row_6 : slice_get shapes 6 ≡ Some (shape.Leaf 4 leaves.Octets)
unfolding shapes
row_6 = refl

cases_32 : all_behind (part 5 10 cases) ≡ true
unfolding cases
cases_32 = refl

as_octet_string : (levels : ℕ) (schema : Schema) → IsKerberos schema → (name : Name) (f : Forest) → IsElement (suc levels) schema 32 name [] f
    → IsElement (suc levels) schema 6 name [] f
as_octet_string levels schema k name f v =
    let same : v.0 ≡ shape.Holding 5 10 = same_shape v.0 (shape.Holding 5 10) (sym v.1 ∙ ap (λ (l : List Shape). slice_get l 32) k.rows ∙ row_32) in
    let held = subst (λ (s : Shape). IsShaped (IsElement levels schema) schema s name [] f) same v.2 in
    let all : all_behind (map case_row (part 5 10 schema.cases.now)) ≡ true =
    ap all_behind (sym (part_map case_row 5 10 schema.cases.now) ∙ ap (λ (l : List CaseRow). part 5 10 l) k.held) ∙ cases_32 in (
      shape.Leaf 4 leaves.Octets,
      ap (λ (l : List Shape). slice_get l 6) k.rows ∙ row_6,
      (held.0, tt, only_octets (IsElement levels schema) name held.0 (part 5 10 schema.cases.now) f all held.2),
    )

by_octet_string : (tells : Role → List ℕ → Label → List ℕ → List Token → List Token → Type 0) (schema : Schema) → IsKerberos schema → (name : Name)
    → TextTellsOctets tells schema 6 name → TextTellsOctets tells schema 32 name
by_octet_string tells schema k name law octets other items others page another small little w v =
    law octets other items others page another small little (w.0, as_octet_string 63 schema k name w.0 w.1, w.2, w.3)
    (v.0, as_octet_string 63 schema k name v.0 v.1, v.2, v.3)

-- ---- each row

pub each_row : (tells : Role → List ℕ → Label → List ℕ → List Token → List Token → Type 0) (kinds : Kinds) → FormatsTell kinds tells
    → is_told kinds every_row 64 shapes fields cases ≡ true
    → (schema : Schema) → IsKerberos schema → (name : Name) → is_name name.text.now ≡ true
    → each_below (λ is. nat_eq is 32 || fits kinds every_row 64 shapes fields cases 64 true is name.text.now name.role) 150 ≡ true → (is : ℕ)
    → TextTellsOctets tells schema is name
each_row tells kinds formats told schema kerberos name named each is = by_row (nat_eq is 32) refl
  where
    at_row : (k : ℕ) → nat_eq k 32 ≡ false → TextTellsOctets tells schema k name
    at_row k e =
        text_tells tells kinds every_row schema k name formats (by_table schema kerberos (λ s f c. is_told kinds every_row 64 s f c ≡ true) told)
        (by_table schema kerberos (λ s f c. fits kinds every_row 64 s f c 64 true k name.text.now name.role ≡ true)
        (fits_at kinds name.text.now name.role each k e)) named

    by_row : (b : Bool) → nat_eq is 32 ≡ b → TextTellsOctets tells schema is name
    by_row false e = at_row is e
    by_row true e =
        let same : is ≡ 32 = grind (arith, common_steps) in
        subst (λ (k : ℕ). TextTellsOctets tells schema k name) (sym same) (by_octet_string tells schema kerberos name (at_row 6 refl))

pub kerberos_text_tells : (schema : Schema) (is : ℕ) (name : Name) → IsKerberos schema → is_name name.text.now ≡ true
    → TextTellsOctets octets_alone schema is name
kerberos_text_tells schema is name kerberos named =
    each_row octets_alone as_octets octets_tell kerberos_told schema kerberos name named (kerberos_fits name.text.now name.role) is
