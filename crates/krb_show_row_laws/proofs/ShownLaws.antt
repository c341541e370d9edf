-- Octets by the row of a name are told by their lines.
use Rattle.std.proofs.Common.{◌≡◌, ◌⊎◌, ℕ, Bool, true, false, if◌then◌else◌, inl, inr, refl, sym, ap, subst, ◌∙◌, List, [], ◌∷◌, ◌++◌, arith}
use Rattle.std.specs.Prelude.{◌==◌, None, Some, map}
use Rattle.std.specs.Cmp.Lexicographic.{pointwise}
use Rattle.std.proofs.lemmas.List.{append-nil}
use Rattle.krb_der_core.specs.Encoding.{IsOctets}
use Rattle.krb_schema.specs.declared.item.Item.{Item}
use Rattle.krb_schema.specs.declared.shape.Name.{Name}
use Rattle.krb_schema.specs.declared.shape.Role.{Role}
use Rattle.krb_schema.specs.declared.shape.Role.TheVariants as roles
use Rattle.krb_schema.specs.declared.shape.Schema.{Schema}
use Rattle.krb_schema.specs.Forests.{enc}
use Rattle.krb_schema.specs.Named.{case_row, field_row, row_in}
use Rattle.krb_schema.specs.Shapes.{IsElement}
use Rattle.krb_schema.specs.Types.{cases, fields, shapes, types}
use Rattle.krb_show.specs.Leaves.{octets_of}
use Rattle.krb_show_text.specs.Text.{page_lines}
use Rattle.krb_show.specs.Tokens.{Label, Token, plain}
use Rattle.krb_show.specs.Items.{shown, start}
use Rattle.krb_show.specs.RowWalk.{AreItemsOf, IsShownByRow, IsTable, IsWalkBy, walk_shown}
use Rattle.krb_show.specs.declared.rows.stand.Secrets.TheVariants as secrets
use Rattle.krb_show.specs.declared.rows.walk.Walk.{Walk}
use Rattle.krb_show.specs.declared.rows.walk.Walk.TheVariants as walks
use Rattle.krb_show_row_laws.specs.Telling.{is_name}
use Rattle.krb_show_row_laws.specs.Blocks.{Follow, HasHead, Heads, IsLeaf, IsStruct, Tells, TellsValues}
use Rattle.krb_show_row_laws.specs.Firsts.{BeginsAs, First, Firsts, Kinds, apart_firsts, names_of, of_leaf, of_struct, openings}
use Rattle.krb_show_row_laws.specs.Formats.{FormatsTell}
use Rattle.krb_show_row_laws.specs.Kerberos.{every_row, every_type}
use Rattle.krb_show_messages.specs.Shown.{IsElementBy}
use Rattle.krb_show_row_laws.specs.Laws.{NamedTextTells}
use Rattle.krb_show_row_laws.specs.Tests.{firsts, fits, is_told}
use Rattle.krb_show_row_laws.proofs.SplitLaws.{and_left, and_right}
use Rattle.krb_show_row_laws.proofs.LineLaws.{one_lines}
use Rattle.krb_show_row_laws.proofs.BlockLaws.{head_blocks}
use Rattle.krb_show_row_laws.proofs.FieldLaws.{one_head, tells_so}
use Rattle.krb_show_row_laws.proofs.LeafLaws.{tells_octets}
use Rattle.krb_show_row_laws.proofs.FirstLaws.{firsts_never, firsts_so, one_first, struct_no_leaf, tells_via}
use Rattle.krb_show_row_laws.proofs.EitherLaws.{IsEither, head_so}
use Rattle.krb_show_row_laws.proofs.ForestLaws.{are_small}
use Rattle.krb_show_row_laws.proofs.Told.{Told, links_first}
use Rattle.krb_show_row_laws.proofs.Rows.{rows_told}
use Rattle.krb_show_row_laws.proofs.Renamed.{SameName, SameTable, renamed, same_enc, same_shown}
use Rattle.krb_show_row_laws.proofs.TextLaws.{row_shown}
use Rattle.krb_show_row_laws.proofs.TableLaws.{by_table}

-- ---- rows of names

pub one_row : (m n : ℕ) → Some m ≡ Some n → m ≡ n
one_row m n e = cc

no_row : (n : ℕ) → None ≡ Some n → ⊥
no_row n e = cc

pub by_type : (test : ℕ → Bool) (rows : List (List ℕ × ℕ)) (name : List ℕ) (is : ℕ) → every_type test rows ≡ true → row_in rows name ≡ Some is → test is ≡ true
by_type test [] name is h e = absurd (no_row is e)
by_type test (r ∷ rows) name is h e = by_name (pointwise ◌==◌ r.0 name) (by_type test rows name is (and_right (test r.1) (every_type test rows) h)) e
  where
    by_name : (b : Bool) → (row_in rows name ≡ Some is → test is ≡ true) → (if b then Some r.1 else row_in rows name) ≡ Some is → test is ≡ true
    by_name true more f = subst (λ (k : ℕ). test k ≡ true) (one_row r.1 is f) (and_left (test r.1) (every_type test rows) h)
    by_name false more f = more f

-- two tables of Kerberos, and two names of one text
tables : {text other : List ℕ} (s t : Schema) (m n : Name) → IsTable text s m → IsTable other t n → SameTable s t
tables s t m n a b = record { rows = a.rows.rows ∙ sym b.rows.rows; parts = a.rows.parts ∙ sym b.rows.parts; held = a.rows.held ∙ sym b.rows.held }

names : {text : List ℕ} (s t : Schema) (m n : Name) → IsTable text s m → IsTable text t n → SameName m n
names s t m n a b = record { text = a.text_is ∙ sym b.text_is; registry = a.no_registry ∙ sym b.no_registry; role = a.no_role ∙ sym b.no_role }

-- ---- items, or octets

-- what is shown of octets that are an element of the row
pub record ByItems (tells : Role → List ℕ → Label → List ℕ → List Token → List Token → Type 0) (row_name text octets : List ℕ) (old new : List Token) : Type
    0 where
  pub is : ℕ
  pub row : row_in types row_name ≡ Some is
  pub items : List Item
  pub are : AreItemsOf text is octets items
  pub here : shown tells octets items (start secrets.Shown) old new

pub by_items : (tells : Role → List ℕ → Label → List ℕ → List Token → List Token → Type 0) (row_name text octets : List ℕ) (old new : List Token)
    → IsShownByRow tells row_name text octets old new → ByItems tells row_name text octets old new ⊎ octets_of (plain text) octets old new
by_items tells row_name text octets old new s = by_walk s.walk s.is_walk s.shown
  where
    by_walk : (w : Walk) → IsWalkBy row_name text octets w → walk_shown tells text octets w old new → ByItems tells row_name text octets old new
        ⊎ octets_of (plain text) octets old new
    by_walk walks.NoRow is h = inr h
    by_walk (walks.Items items) (is, row, are) h = inl (record { is = is; row = row; items = items.items; are = are; here = h })
    by_walk (walks.Fault fault) is h = inr h

-- octets that are an element of the row are shown by its items
pub items_alone : (tells : Role → List ℕ → Label → List ℕ → List Token → List Token → Type 0) (row_name text octets : List ℕ) (old new : List Token)
    → IsElementBy row_name text octets
    → IsShownByRow tells row_name text octets old new → ByItems tells row_name text octets old new
items_alone tells row_name text octets old new e s = by_walk s.walk s.is_walk s.shown
  where
    by_walk : (w : Walk) → IsWalkBy row_name text octets w → walk_shown tells text octets w old new → ByItems tells row_name text octets old new
    by_walk walks.NoRow none h = absurd (no_row e.is (sym none ∙ e.row))
    by_walk (walks.Items items) (is, row, are) h = record { is = is; row = row; items = items.items; are = are; here = h }
    by_walk (walks.Fault fault) (is, row, first) h =
        let same : e.is ≡ is = one_row e.is is (sym e.row ∙ row) in
        let a = subst (λ (k : ℕ). AreItemsOf text k octets e.items) same e.are in
        let r = renamed 64 a.schema first.schema (tables a.schema first.schema a.name first.name a.table first.table) is a.name first.name
        (names a.schema first.schema a.name first.name a.table first.table) [] a.walked.0 a.walked.1 in
        absurd (first.none r.0 r.1 (a.walked.2 ∙ same_enc a.walked.0 r.0 r.2))

struct_heads_of : {n : List ℕ} {shows : List Token → List Token → Type 0} → Firsts (openings (of_struct ∷ []) n) shows → Heads n IsStruct shows
struct_heads_of {n} {shows} f = record { head = λ old new s. only (f.first old new s) }
  where
    only : {old new : List Token} → BeginsAs (openings (of_struct ∷ []) n) old new → HasHead n IsStruct old new
    only (inl h) = h.head
    only (inr h) = absurd h

module _ (tells : Role → List ℕ → Label → List ℕ → List Token → List Token → Type 0) (kinds : Kinds) (formats : FormatsTell kinds tells)
    (told : is_told kinds every_row 64 shapes fields cases ≡ true) where
  -- the first lines of elements of a row, and its test
  abbrev pub first_lines : ℕ → List ℕ → List First
  first_lines is text = firsts kinds every_row 64 shapes fields cases 64 is text roles.None

  abbrev pub fits_by : ℕ → List ℕ → Bool
  fits_by is text = fits kinds every_row 64 shapes fields cases 64 true is text roles.None

  row_told : (text : List ℕ) → is_name text ≡ true → (schema : Schema) (name : Name) → IsTable text schema name → (is : ℕ) → fits_by is text ≡ true
      → Told tells true (first_lines is text) (IsElement 64 schema is name)
  row_told text named schema name table is fitting =
      subst (λ (fs : List First). Told tells true fs (IsElement 64 schema is name)) firsts_are
      (rows_told tells kinds formats every_row 64 schema all_told 64 (omega arith) 64 (omega arith) 64 (omega arith) true is name fitting_here
      (subst (λ (t : List ℕ). is_name t ≡ true) (sym table.text_is) named))
    where
      all_told : is_told kinds every_row 64 schema.shapes.now (map field_row schema.fields.now) (map case_row schema.cases.now) ≡ true
      all_told = by_table schema table.rows (λ s f c. is_told kinds every_row 64 s f c ≡ true) told

      fitting_here : fits kinds every_row 64 schema.shapes.now (map field_row schema.fields.now) (map case_row schema.cases.now) 64 true is name.text.now
          name.role ≡ true
      fitting_here =
          by_table schema table.rows (λ s f c. fits kinds every_row 64 s f c 64 true is name.text.now name.role ≡ true)
          (subst (λ (t : List ℕ). fits kinds every_row 64 shapes fields cases 64 true is t name.role ≡ true) (sym table.text_is)
          (subst (λ (r : Role). fits kinds every_row 64 shapes fields cases 64 true is text r ≡ true) (sym table.no_role) fitting))

      firsts_are : firsts kinds every_row 64 schema.shapes.now (map field_row schema.fields.now) (map case_row schema.cases.now) 64 is name.text.now
          name.role ≡ first_lines is text
      firsts_are =
          by_table schema table.rows (λ s f c. firsts kinds every_row 64 s f c 64 is name.text.now name.role ≡ first_lines is text)
          (ap (λ (t : List ℕ). firsts kinds every_row 64 shapes fields cases 64 is t name.role) table.text_is
          ∙ ap (λ (r : Role). firsts kinds every_row 64 shapes fields cases 64 is text r) table.no_role)

  -- items of one row begin so, and tell the octets
  pub items_first : (text : List ℕ) → is_name text ≡ true → (is : ℕ) → fits_by is text ≡ true → (octets : List ℕ) (items : List Item)
      → AreItemsOf text is octets items → IsOctets octets
      → Firsts (first_lines is text) (shown tells octets items (start secrets.Shown))
  items_first text named is fitting octets items a small =
      firsts_so (row_shown tells a.schema is a.name octets items a.walked)
      ((row_told text named a.schema a.name a.table is fitting).first [] a.walked.0 a.walked.1 (are_small a.walked.0 (subst IsOctets a.walked.2 small)) false []
      (links_first true []))

  pub items_told : (text : List ℕ) → is_name text ≡ true → (is : ℕ) → fits_by is text ≡ true → (octets other : List ℕ) (items others : List Item)
      → AreItemsOf text is octets items → AreItemsOf text is other others → IsOctets octets → IsOctets other
      → Tells (λ names. names_of (first_lines is text)) (λ names. true) (Unit {0}) (octets ≡ other) (shown tells octets items (start secrets.Shown))
      (shown tells other others (start secrets.Shown))
  items_told text named is fitting octets other items others a b small little =
      let r = renamed 64 b.schema a.schema (tables b.schema a.schema b.name a.name b.table a.table) is b.name a.name
      (names b.schema a.schema b.name a.name b.table a.table) [] b.walked.0 b.walked.1 in
      let whole : other ≡ enc r.0 = b.walked.2 ∙ same_enc b.walked.0 r.0 r.2 in
      tells_via (row_shown tells a.schema is a.name octets items a.walked)
      (λ old new h. same_shown tells b.walked.0 r.0 r.2 false [] old new (row_shown tells b.schema is b.name other others b.walked old new h))
      (tells_so (λ u. (refl, refl)) (λ e. a.walked.2 ∙ ap enc e ∙ sym whole)
      ((row_told text named a.schema a.name a.table is fitting).told [] [] a.walked.0 r.0 a.walked.1 r.1
      (are_small a.walked.0 (subst IsOctets a.walked.2 small))
      (are_small r.0 (subst IsOctets whole little)) false [] [] (links_first true []) (links_first true [])))

  -- ---- rows whose elements begin as structs

  pub record IsStructRow (row_name : List ℕ) : Type 0 where
    pub fitting : (is : ℕ) → row_in types row_name ≡ Some is → (text : List ℕ) → fits_by is text ≡ true
    pub lines : (is : ℕ) → row_in types row_name ≡ Some is → (text : List ℕ) → first_lines is text ≡ openings (of_struct ∷ []) text

  pub struct_row : (row_name : List ℕ) (k : ℕ) → row_in types row_name ≡ Some k → ((text : List ℕ) → fits_by k text ≡ true)
      → ((text : List ℕ) → first_lines k text ≡ openings (of_struct ∷ []) text) → IsStructRow row_name
  struct_row row_name k row fitting lines = record {
    fitting = λ is e text. subst (λ (i : ℕ). fits_by i text ≡ true) (one_row k is (sym row ∙ e)) (fitting text);
    lines = λ is e text. subst (λ (i : ℕ). first_lines i text ≡ openings (of_struct ∷ []) text) (one_row k is (sym row ∙ e)) (lines text);
  }

  -- items of such a row begin as a struct
  pub struct_first : (row_name : List ℕ) → IsStructRow row_name → (text : List ℕ) → is_name text ≡ true → (is : ℕ) → row_in types row_name ≡ Some is
      → (octets : List ℕ) (items : List Item)
      → AreItemsOf text is octets items → IsOctets octets → Firsts (openings (of_struct ∷ []) text) (shown tells octets items (start secrets.Shown))
  struct_first row_name s text named is row octets items a small =
      subst (λ (fs : List First). Firsts fs (shown tells octets items (start secrets.Shown))) (s.lines is row text)
      (items_first text named is (s.fitting is row text) octets items a small)

  pub struct_told : (row_name : List ℕ) → IsStructRow row_name → (text : List ℕ) → is_name text ≡ true → (is also : ℕ) → row_in types row_name ≡ Some is
      → row_in types row_name ≡ Some also
      → (octets other : List ℕ) (items others : List Item) → AreItemsOf text is octets items → AreItemsOf text also other others → IsOctets octets
      → IsOctets other
      → Tells (λ names. text ∷ []) (λ names. true) (Unit {0}) (octets ≡ other) (shown tells octets items (start secrets.Shown))
      (shown tells other others (start secrets.Shown))
  struct_told row_name s text named is also row same octets other items others a b small little =
      subst (λ (fs : List First). Tells (λ names. names_of fs) (λ names. true) (Unit {0}) (octets ≡ other) (shown tells octets items (start secrets.Shown))
      (shown tells other others (start secrets.Shown)))
      (s.lines is row text)
      (items_told text named is (s.fitting is row text) octets other items others a
      (subst (λ (k : ℕ). AreItemsOf text k other others) (one_row also is (sym same ∙ row)) b) small little)

  module _ (row_name : List ℕ) (s : IsStructRow row_name) where
    abbrev pub by_row : Label → List ℕ → List Token → List Token → Type 0
    by_row label octets = IsShownByRow tells row_name label.text octets

    row_heads : (label : Label) (octets : List ℕ) → is_name label.text ≡ true → IsOctets octets
        → Heads label.text (IsEither IsStruct IsLeaf) (by_row label octets)
    row_heads label octets named small = record { head = λ old new h. either old new (by_items tells row_name label.text octets old new h) }
      where
        either : (old new : List Token) → ByItems tells row_name label.text octets old new ⊎ octets_of (plain label.text) octets old new
            → HasHead label.text (IsEither IsStruct IsLeaf) old new
        either old new (inl i) = head_so (λ t v. inl v) ((struct_heads_of (struct_first row_name s label.text named i.is i.row octets i.items i.are small)).head
            old new i.here)
        either old new (inr h) = head_so (λ t v. inr v) ((tells_octets.heads (plain label.text) octets named small).head old new h)

    -- octets by the row of a struct, and octets that are none, tell themselves
    pub tells_by_row : TellsValues IsOctets (IsEither IsStruct IsLeaf) by_row
    tells_by_row = record {
      heads = row_heads;
      tells = λ label octets others named small little. record {
        left = head_blocks label.text (IsEither IsStruct IsLeaf) (by_row label octets) named (row_heads label octets named small);
        right = head_blocks label.text (IsEither IsStruct IsLeaf) (by_row label others) named (row_heads label others named little);
        tells = λ old before ts us a b known names d rest following fit m n same.
            both label octets others named small little old before ts us names d rest following m n same
            (by_items tells row_name label.text octets old (old ++ ts) a) (by_items tells row_name label.text others before (before ++ us) b);
      };
    }
      where
        both : (label : Label) (octets others : List ℕ) → is_name label.text ≡ true → IsOctets octets → IsOctets others → (old before ts us : List Token)
            → (names : List (List ℕ)) (d : ℕ) (rest following : List (List ℕ)) → Follow names d rest → Follow names d following
            → page_lines d ts ++ rest ≡ page_lines d us ++ following
            → ByItems tells row_name label.text octets old (old ++ ts) ⊎ octets_of (plain label.text) octets old (old ++ ts)
            → ByItems tells row_name label.text others before (before ++ us) ⊎ octets_of (plain label.text) others before (before ++ us) → (octets ≡ others)
            × (rest ≡ following)
        both label octets others named small little old before ts us names d rest following m n same (inl i) (inl j) =
            (struct_told row_name s label.text named i.is j.is i.row j.row octets others i.items j.items i.are j.are small little).tells old before ts us i.here
            j.here tt names d rest following
            refl m n same
        both label octets others named small little old before ts us names d rest following m n same (inl i) (inr k) =
            let one = one_head label.text IsStruct IsLeaf (shown tells octets i.items (start secrets.Shown)) (octets_of (plain label.text) others)
            (struct_heads_of (struct_first row_name s label.text named i.is i.row octets i.items i.are small))
            (tells_octets.heads (plain label.text) others named little)
            old before ts us i.here k d rest following same in absurd (struct_no_leaf one.0 one.1 one.2)
        both label octets others named small little old before ts us names d rest following m n same (inr h) (inl j) =
            let one = one_head label.text IsLeaf IsStruct (octets_of (plain label.text) octets) (shown tells others j.items (start secrets.Shown))
            (tells_octets.heads (plain label.text) octets named small) (struct_heads_of
            (struct_first row_name s label.text named j.is j.row others j.items j.are little))
            old before ts us h j.here d rest following same in absurd (struct_no_leaf one.0 one.2 one.1)
        both label octets others named small little old before ts us names d rest following m n same (inr h) (inr k) =
            (tells_octets.tells (plain label.text) octets others named small little).tells old before ts us h k tt names d rest following refl m n same

  -- ---- pages

  module _ (row_name text : List ℕ) (named : is_name text ≡ true) (fitting : (is : ℕ) → row_in types row_name ≡ Some is → fits_by is text ≡ true)
      (octets other : List ℕ)
      (page another : List Token) (small : IsOctets octets) (little : IsOctets other) (same : page_lines 0 page ≡ page_lines 0 another) where
    lines : page_lines 0 page ++ [] ≡ page_lines 0 another ++ []
    lines = append-nil (page_lines 0 page) ∙ same ∙ sym (append-nil (page_lines 0 another))

    -- two pages of items
    pub page_of_items : ByItems tells row_name text octets [] page → ByItems tells row_name text other [] another → octets ≡ other
    page_of_items i j =
        let b = subst (λ (k : ℕ). AreItemsOf text k other j.items) (one_row j.is i.is (sym j.row ∙ i.row)) j.are in
        ((items_told text named i.is (fitting i.is i.row) octets other i.items j.items i.are b small little).tells [] [] page another i.here j.here tt []
        0 [] [] refl tt tt lines).0

    -- two pages by the row, where its elements begin otherwise than octets
    pub page_by_row : ((is : ℕ) → row_in types row_name ≡ Some is → apart_firsts (first_lines is text) (openings (of_leaf ∷ []) text) ≡ true)
        → IsShownByRow tells row_name text octets [] page → IsShownByRow tells row_name text other [] another → octets ≡ other
    page_by_row apart h k = either (by_items tells row_name text octets [] page h) (by_items tells row_name text other [] another k)
      where
        either : ByItems tells row_name text octets [] page ⊎ octets_of (plain text) octets [] page → ByItems tells row_name text other [] another
            ⊎ octets_of (plain text) other [] another
            → octets ≡ other
        either (inl i) (inl j) = page_of_items i j
        either (inl i) (inr y) =
            absurd ((firsts_never (apart i.is i.row) (items_first text named i.is (fitting i.is i.row) octets i.items i.are small)
            (one_first named (tells_octets.heads (plain text) other named little))).never [] [] page another i.here y [] 0 [] [] tt tt lines)
        either (inr x) (inl j) =
            absurd ((firsts_never (apart j.is j.row) (items_first text named j.is (fitting j.is j.row) other j.items j.are little)
            (one_first named (tells_octets.heads (plain text) octets named small))).never [] [] another page j.here x [] 0 [] [] tt tt (sym lines))
        either (inr x) (inr y) = ((tells_octets.tells (plain text) octets other named small little).tells [] [] page another x y tt [] 0 [] [] refl tt tt
            lines).0

  pub named_text_tells : (row_name text : List ℕ) → is_name text ≡ true → ((is : ℕ) → row_in types row_name ≡ Some is → fits_by is text ≡ true)
      → ((is : ℕ) → row_in types row_name ≡ Some is → apart_firsts (first_lines is text) (openings (of_leaf ∷ []) text) ≡ true)
      → NamedTextTells tells row_name text
  named_text_tells row_name text named fitting apart octets other page another small little h k some more same =
      page_by_row row_name text named fitting octets other page another small little (one_lines (page_lines 0 page) (page_lines 0 another) some more same) apart
      h k
