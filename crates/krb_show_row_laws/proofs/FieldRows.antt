-- Fields are told by their lines.
use Rattle.std.proofs.Common.{◌≡◌, ◌⊎◌, ℕ, Bool, true, false, ◌&&◌, if◌then◌else◌, inl, inr, refl, sym, ap, subst, ◌∙◌, List, [], ◌∷◌, ◌++◌}
use Rattle.std.specs.Prelude.{Option, None, Some, map}
use Rattle.std.specs.List.{slice_get}
use Rattle.std.proofs.lemmas.Bool.{eqb-true}
use Rattle.krb_schema.specs.declared.item.Node.TheVariants as nodes
use Rattle.krb_schema.specs.declared.shape.Field.{Field}
use Rattle.krb_schema.specs.declared.shape.Name.{Name}
use Rattle.krb_schema.specs.declared.shape.Role.{Role}
use Rattle.krb_schema.specs.declared.shape.Shape.{Shape}
use Rattle.krb_schema.specs.Forests.{Forest, none, node, beside, enc}
use Rattle.krb_schema.specs.Named.{field_row}
use Rattle.krb_schema.specs.Shapes.{AreFields, is_first, no_fields, absent, wrapped, bare}
use Rattle.krb_show.specs.Pages.{◌then◌}
use Rattle.krb_show.specs.Tokens.{Label, Token}
use Rattle.krb_show_row_laws.specs.Telling.{is_name}
use Rattle.krb_show_row_laws.specs.Blocks.{Among, Blocks, Tells}
use Rattle.krb_show_row_laws.specs.Firsts.{First, Firsts, Kinds, are_apart}
use Rattle.krb_show_row_laws.specs.Pages.{behind, forest_shown}
use Rattle.krb_show_row_laws.specs.Tests.{CaseRow, FieldRow, all_fit, begins, field_fits, field_names, firsts, fit, fits, is_integer, is_tagged, linked_behind}
use Rattle.krb_show_row_laws.proofs.SplitLaws.{and_left, and_right}
use Rattle.krb_show_row_laws.proofs.FieldLaws.{both_blocks, tells_so, then_by}
use Rattle.krb_show_row_laws.proofs.FirstLaws.{among_left, among_right, firsts_block, firsts_so, tells_from, tells_via}
use Rattle.krb_show_row_laws.proofs.ForestLaws.{AreSmall, shown_beside, small_beside}
use Rattle.krb_show_row_laws.proofs.Blocked.{blocks_among, blocks_so, firsts_then, left_alone, nothing_blocks, nothing_tells, right_alone, tells_fit}
use Rattle.krb_show_row_laws.proofs.Told.{Known, Links, Told, both, one_behind}

-- ---- tests

pub among_if : (b : Bool) (n : List ℕ) (ms ns : List (List ℕ)) → b ≡ true → Among n ns → Among n (ms ++ (if b then ns else []))
among_if true n ms ns e h = among_right n ms ns h
among_if false n ms ns e h = absurd (cc)

pub if_true : (b c : Bool) → b ≡ true → (if b then c else true) ≡ true → c ≡ true
if_true true c e h = h
if_true false c e h = absurd (cc)

-- a tag that is asked for is one
pub one_tag : (w : Bool) (tag : Option ℕ) (t u : ℕ) → w ≡ true → is_tagged w tag ≡ true → is_first tag t ≡ true → is_first tag u ≡ true → t ≡ u
one_tag true None t u e f h k = absurd (cc)
one_tag true (Some tag) t u e f h k = eqb-true t tag h ∙ sym (eqb-true u tag k)
one_tag false tag t u e f h k = absurd (cc)

-- a number that is that of the field before
pub links_and : (a b : Bool) (before number : List ℕ) → (a ≡ true → Links true before number) → Links (a && b) before number
links_and true true before number h = h refl
links_and true false before number h = tt
links_and false b before number h = tt

pub links_may : (a o linked : Bool) (before number : List ℕ) → o ≡ true → Links linked before number → Links (a && (if o then linked else true)) before number
links_may true true linked before number e h = h
links_may true false linked before number e h = absurd (cc)
links_may false o linked before number e h = tt

module _ (tells : Role → List ℕ → Label → List ℕ → List Token → List Token → Type 0) (kinds : Kinds) (covers : ℕ → Bool) (deep : ℕ) (shapes : List Shape)
    (table : List FieldRow) (cases : List CaseRow) where
  abbrev pub rows_of : List Field → List FieldRow
  rows_of fields = map field_row fields

  abbrev pub begin_names : List Field → List (List ℕ) → List (List ℕ)
  begin_names fields = begins kinds covers deep shapes table cases (rows_of fields)

  abbrev pub names_at : Field → List (List ℕ)
  names_at field = field_names kinds covers deep shapes table cases (field_row field)

  abbrev pub are_fit : List Field → List (List ℕ) → Bool
  are_fit fields = fit kinds covers deep shapes table cases (rows_of fields)

  abbrev pub fit_all : Bool → List Field → Bool
  fit_all linked fields = all_fit kinds covers deep shapes table cases linked (rows_of fields)

  abbrev pub linked_at : Bool → Field → Bool
  linked_at linked field = linked_behind kinds covers deep shapes table cases linked (field_row field)

  abbrev pub fits_at : Bool → Field → Bool
  fits_at linked field = fits kinds covers deep shapes table cases deep linked field.is field.name.text.now field.name.role

  abbrev pub firsts_at : Field → List First
  firsts_at field = firsts kinds covers deep shapes table cases deep field.is field.name.text.now field.name.role

  -- each row's elements are told, and behind an INTEGER it is the number that stands last
  pub record AreTold (R : ℕ → Name → List ℕ → Forest → Type 0) : Type 0 where
    pub rows : (linked : Bool) (is : ℕ) (name : Name) → fits kinds covers deep shapes table cases deep linked is name.text.now name.role ≡ true
        → is_name name.text.now ≡ true
        → Told tells linked (firsts kinds covers deep shapes table cases deep is name.text.now name.role) (R is name)
    pub links : (is : ℕ) (name : Name) (before : List ℕ) (f : Forest) → is_integer (slice_get shapes is) ≡ true → R is name before f → (number : List ℕ)
        → Links true (enc f) (behind f number)

  -- what the test says of a field
  pub record IsFit (linked : Bool) (field : Field) (fields : List Field) : Type 0 where
    pub named : is_name field.name.text.now ≡ true
    pub tagged : is_tagged field.wrapped field.tag ≡ true
    pub row : fits_at linked field ≡ true
    pub others : fit_all (linked_at linked field) fields ≡ true

  pub is_fit : (linked : Bool) (field : Field) (fields : List Field) → fit_all linked (field ∷ fields) ≡ true → IsFit linked field fields
  is_fit linked field fields h =
      let here = and_left (field_fits kinds covers deep shapes table cases linked (field_row field)) (fit_all (linked_at linked field) fields) h in
      let more = and_right (is_name field.name.text.now) (is_tagged field.wrapped field.tag && fits_at linked field) here in
      record {
        named = and_left (is_name field.name.text.now) (is_tagged field.wrapped field.tag && fits_at linked field) here;
        tagged = and_left (is_tagged field.wrapped field.tag) (fits_at linked field) more;
        row = and_right (is_tagged field.wrapped field.tag) (fits_at linked field) more;
        others = and_right (field_fits kinds covers deep shapes table cases linked (field_row field)) (fit_all (linked_at linked field) fields) h;
      }

  -- ---- one field and those behind it

  module _ (R : ℕ → Name → List ℕ → Forest → Type 0) (rows : AreTold R) where
    row_at : (linked : Bool) (field : Field) (fields : List Field) → fit_all linked (field ∷ fields) ≡ true
        → Told tells linked (firsts_at field) (R field.is field.name)
    row_at linked field fields h = let i = is_fit linked field fields h in rows.rows linked field.is field.name i.row i.named

    -- behind a field that is there, and behind one that is not
    pub links_behind : (linked : Bool) (field : Field) (before : List ℕ) (element : Forest) → R field.is field.name before element → (number : List ℕ)
        → Links (linked_at linked field) (enc element) (behind element number)
    links_behind linked field before element r number =
        links_and (is_integer (slice_get shapes field.is)) (if field.optional then linked else true) (enc element) (behind element number)
        (λ e. rows.links field.is field.name before element e r number)

    links_absent : (linked : Bool) (field : Field) (before number : List ℕ) → field.optional ≡ true → Links linked before number
        → Links (linked_at linked field) before number
    links_absent linked field before number may l = links_may (is_integer (slice_get shapes field.is)) field.optional linked before number may l

    mutual_names : (field : Field) (fields : List Field) (names : List (List ℕ)) (n : List ℕ) → Among n (names_at field)
        → Among n (begin_names (field ∷ fields) names)
    mutual_names field fields names n a = among_left n (names_at field) (if field.optional then begin_names fields names else []) a

    absent_names : (field : Field) (fields : List Field) → field.optional ≡ true → (names : List (List ℕ)) (n : List ℕ) → Among n (begin_names fields names)
        → Among n (begin_names (field ∷ fields) names)
    absent_names field fields may names n a = among_if field.optional n (names_at field) (begin_names fields names) may a

    -- the parts of a field that is present: its element, and what stands behind it
    present_blocks : (field : Field) (fields : List Field) {a b c : List Token → List Token → Type 0} → Firsts (firsts_at field) a
        → Blocks (begin_names fields) b
        → ((old new : List Token) → c old new → (a then b) old new) → Blocks (begin_names (field ∷ fields)) c
    present_blocks field fields h k w =
        blocks_so w (blocks_among {f = λ names. names_at field} {g = begin_names (field ∷ fields)} (mutual_names field fields) (both_blocks (firsts_block h) k))

    pub fields_blocks : (linked : Bool) (fields : List Field) (before : List ℕ) (f : Forest) → AreFields R fields before f → AreSmall f
        → fit_all linked fields ≡ true
        → (number : List ℕ) → Links linked before number → Blocks (begin_names fields) (forest_shown tells false number f)
    fields_blocks linked fields before f (no_fields b) small all number l = nothing_blocks (λ names. names) (λ names n a. a)
    fields_blocks linked fields before f (absent fd fs b rest may other r) small all number l =
        blocks_among {f = begin_names fs} {g = begin_names (fd ∷ fs)} (absent_names fd fs may)
        (fields_blocks (linked_at linked fd) fs b rest r small (is_fit linked fd fs all).others number (links_absent linked fd b number may l))
    fields_blocks linked fields before f (wrapped fd fs b t inside rest w first r p) small all number l =
        present_blocks fd fs ((row_at linked fd fs all).first b inside r small.0 false number l)
        (fields_blocks (linked_at linked fd) fs (enc inside) rest p small.1 (is_fit linked fd fs all).others (behind inside number)
        (links_behind linked fd b inside r number)) (λ old new h. h)
    fields_blocks linked fields before f (bare fd fs b element rest w starts r p) small all number l =
        let s = small_beside element rest small in
        present_blocks fd fs ((row_at linked fd fs all).first b element r s.0 false number l)
        (fields_blocks (linked_at linked fd) fs (enc element) rest p s.1 (is_fit linked fd fs all).others (behind element number)
        (links_behind linked fd b element r number))
        (shown_beside tells false number element rest)

    -- a field that is there
    pub record Present (field : Field) (fields : List Field) (before : List ℕ) (f : Forest) : Type 0 where
      pub element : Forest
      pub rest : Forest
      pub tag : ℕ
      pub right : R field.is field.name before element
      pub others : AreFields R fields (enc element) rest
      pub small : AreSmall element
      pub smalls : AreSmall rest
      pub shown : (number : List ℕ) (old new : List Token) → forest_shown tells false number f old new
          → (forest_shown tells false number element then forest_shown tells false (behind element number) rest) old new
      pub whole : f ≡ (if field.wrapped then node nodes.Wrap field.name tag element rest else beside element rest)
      pub first : (field.wrapped ≡ true) → is_first field.tag tag ≡ true

    in_tag : (b : Bool) (f g : Forest) → b ≡ true → f ≡ (if b then f else g)
    in_tag true f g e = refl
    in_tag false f g e = absurd (cc)

    by_itself : (b : Bool) (f g : Forest) → b ≡ false → g ≡ (if b then f else g)
    by_itself true f g e = absurd (cc)
    by_itself false f g e = refl

    clash : (b : Bool) {A : Type 0} → b ≡ true → b ≡ false → A
    clash b e f = absurd (cc)

    of_wrapped : (fd : Field) (fs : List Field) (b : List ℕ) (t : ℕ) (inside rest : Forest) → fd.wrapped ≡ true → is_first fd.tag t ≡ true
        → R fd.is fd.name b inside
        → AreFields R fs (enc inside) rest → AreSmall (node nodes.Wrap fd.name t inside rest) → Present fd fs b (node nodes.Wrap fd.name t inside rest)
    of_wrapped fd fs b t inside rest w first r p small = record {
      element = inside;
      rest = rest;
      tag = t;
      right = r;
      others = p;
      small = small.0;
      smalls = small.1;
      shown = λ number old new h. h;
      whole = in_tag fd.wrapped (node nodes.Wrap fd.name t inside rest) (beside inside rest) w;
      first = λ e. first;
    }

    of_bare : (fd : Field) (fs : List Field) (b : List ℕ) (element rest : Forest) → fd.wrapped ≡ false → R fd.is fd.name b element
        → AreFields R fs (enc element) rest → AreSmall (beside element rest) → Present fd fs b (beside element rest)
    of_bare fd fs b element rest w r p small =
        let s = small_beside element rest small in
        record {
          element = element;
          rest = rest;
          tag = 0;
          right = r;
          others = p;
          small = s.0;
          smalls = s.1;
          shown = λ number. shown_beside tells false number element rest;
          whole = by_itself fd.wrapped (node nodes.Wrap fd.name 0 element rest) (beside element rest) w;
          first = λ e. clash fd.wrapped e w;
        }

    -- whole fields of which the first is there begin as it does
    pub present_firsts : (linked : Bool) (field : Field) (fields : List Field) (before : List ℕ) (f : Forest) → Present field fields before f
        → fit_all linked (field ∷ fields) ≡ true → (number : List ℕ) → Links linked before number → Firsts (firsts_at field) (forest_shown tells false number f)
    present_firsts linked field fields before f p all number l =
        firsts_so (p.shown number)
        (firsts_then ((row_at linked field fields all).first before p.element p.right p.small false number l)
        (fields_blocks (linked_at linked field) fields (enc p.element) p.rest p.others p.smalls (is_fit linked field fields all).others
        (behind p.element number)
        (links_behind linked field before p.element p.right number)))

    optional_apart : (field : Field) (fields : List Field) → field.optional ≡ true → (names : List (List ℕ)) → are_fit (field ∷ fields) names ≡ true
        → are_apart (names_at field) (begin_names fields names) ≡ true
    optional_apart field fields may names h =
        if_true field.optional (are_apart (names_at field) (begin_names fields names)) may
        (and_left (if field.optional then are_apart (names_at field) (begin_names fields names) else true) (are_fit fields names) h)

    others_fit : (field : Field) (fields : List Field) (names : List (List ℕ)) → are_fit (field ∷ fields) names ≡ true → are_fit fields names ≡ true
    others_fit field fields names h = and_right (if field.optional then are_apart (names_at field) (begin_names fields names) else true) (are_fit fields names)
        h

    same_whole : (b : Bool) (tag : Option ℕ) (name : Name) (t u : ℕ) (f g x y : Forest) → (b ≡ true → t ≡ u) → f ≡ g → x ≡ y
        → (if b then node nodes.Wrap name t f x else beside f x) ≡ (if b then node nodes.Wrap name u g y else beside g y)
    same_whole true tag name t u f g x y e p q = let s = e refl in cc
    same_whole false tag name t u f g x y e p q = both f g x y p q

    same_present : (field : Field) (fields : List Field) (before other : List ℕ) (f g : Forest) (p : Present field fields before f)
        (q : Present field fields other g)
        → is_tagged field.wrapped field.tag ≡ true → p.element ≡ q.element → p.rest ≡ q.rest → f ≡ g
    same_present field fields before other f g p q tagged e h =
        p.whole
        ∙ same_whole field.wrapped field.tag field.name p.tag q.tag p.element q.element p.rest q.rest
        (λ w. one_tag field.wrapped field.tag p.tag q.tag w tagged (p.first w) (q.first w)) e h
        ∙ sym q.whole

    -- the first field is absent, or there
    abbrev pub Split : List Field → List ℕ → Forest → Type 0
    Split [] before f = f ≡ none
    Split (field ∷ fields) before f = ((field.optional ≡ true) × AreFields R fields before f) ⊎ Present field fields before f

    pub split : (fields : List Field) (before : List ℕ) (f : Forest) → AreFields R fields before f → AreSmall f → Split fields before f
    split fields before f (no_fields b) small = refl
    split fields before f (absent fd fs b rest may other r) small = inl (may, r)
    split fields before f (wrapped fd fs b t inside rest w first r p) small = inr (of_wrapped fd fs b t inside rest w first r p small)
    split fields before f (bare fd fs b element rest w starts r p) small = inr (of_bare fd fs b element rest w r p small)

    no_shown : (f : Forest) (number : List ℕ) → f ≡ none → (old new : List Token) → forest_shown tells false number f old new → new ≡ old
    no_shown f number e old new h = subst (λ (x : Forest). forest_shown tells false number x old new) e h

    -- fields are told, where those behind the first are
    first_told : (linked : Bool) (field : Field) (fields : List Field) → fit_all linked (field ∷ fields) ≡ true
        → ((before other : List ℕ) (f g : Forest) → AreFields R fields before f → AreFields R fields other g → AreSmall f → AreSmall g
        → (number another : List ℕ)
        → Links (linked_at linked field) before number → Links (linked_at linked field) other another
        → Tells (begin_names fields) (are_fit fields) (Known before other number another) (f ≡ g) (forest_shown tells false number f)
        (forest_shown tells false another g))
        → (before other : List ℕ) (f g : Forest) → Split (field ∷ fields) before f → Split (field ∷ fields) other g → AreSmall f → AreSmall g
        → (number another : List ℕ)
        → Links linked before number → Links linked other another → Blocks (begin_names (field ∷ fields)) (forest_shown tells false number f)
        → Blocks (begin_names (field ∷ fields)) (forest_shown tells false another g)
        → Tells (begin_names (field ∷ fields)) (are_fit (field ∷ fields)) (Known before other number another) (f ≡ g) (forest_shown tells false number f)
        (forest_shown tells false another g)
    first_told linked field fields all told before other f g (inl (may, p)) (inl (may_too, q)) small little number another l k left right =
        tells_from left right (tells_fit (others_fit field fields) (told before other f g p q small little number another
        (links_absent linked field before number may l) (links_absent linked field other another may k)))
    first_told linked field fields all told before other f g (inl (may, p)) (inr q) small little number another l k left right =
        right_alone {g = begin_names fields} left right
        (fields_blocks (linked_at linked field) fields before f p small (is_fit linked field fields all).others number
        (links_absent linked field before number may l))
        (present_firsts linked field fields other g q all another k)
        (optional_apart field fields may)
    first_told linked field fields all told before other f g (inr p) (inl (may, q)) small little number another l k left right =
        left_alone {g = begin_names fields} left right (present_firsts linked field fields before f p all number l)
        (fields_blocks (linked_at linked field) fields other g q little (is_fit linked field fields all).others another
        (links_absent linked field other another may k))
        (optional_apart field fields may)
    first_told linked field fields all told before other f g (inr p) (inr q) small little number another l k left right =
        let one = (row_at linked field fields all).told before other p.element q.element p.right q.right p.small q.small false number another l k in
        let rest = told (enc p.element) (enc q.element) p.rest q.rest p.others q.others p.smalls q.smalls (behind p.element number) (behind q.element another)
        (links_behind linked field before p.element p.right number) (links_behind linked field other q.element q.right another) in
        let parts = then_by (λ known e. (ap enc e, one_behind p.element q.element number another e known.1)) one rest in
        tells_from left right
        (tells_via (p.shown number) (q.shown another)
        (tells_fit (others_fit field fields)
        (tells_so (λ k. k) (λ e. same_present field fields before other f g p q (is_fit linked field fields all).tagged e.0 e.1) parts)))

    pub fields_told : (linked : Bool) (fields : List Field) → fit_all linked fields ≡ true → (before other : List ℕ) (f g : Forest)
        → AreFields R fields before f → AreFields R fields other g
        → AreSmall f → AreSmall g → (number another : List ℕ) → Links linked before number → Links linked other another
        → Tells (begin_names fields) (are_fit fields) (Known before other number another) (f ≡ g) (forest_shown tells false number f)
        (forest_shown tells false another g)
    fields_told linked [] all before other f g r w small little number another l k =
        let p : f ≡ none = split [] before f r small in
        let q : g ≡ none = split [] other g w little in
        tells_via (no_shown f number p) (no_shown g another q) (nothing_tells (λ names. names) (λ names. true) (λ names n a. a) (p ∙ sym q))
    fields_told linked (field ∷ fields) all before other f g r w small little number another l k =
        first_told linked field fields all (fields_told (linked_at linked field) fields (is_fit linked field fields all).others) before other f g
        (split (field ∷ fields) before f r small) (split (field ∷ fields) other g w little) small little number another l k
        (fields_blocks linked (field ∷ fields) before f r small all number l) (fields_blocks linked (field ∷ fields) other g w little all another k)
