-- Elements of two rows of SEQUENCEs whose lines are none in common.
use Rattle.std.proofs.Common.{◌≡◌, ◌⊎◌, ℕ, Bool, true, false, ◌&&◌, ◌||◌, inl, inr, refl, sym, ap, subst, ◌∙◌, List, [], ◌∷◌, ◌++◌}
use Rattle.std.specs.Prelude.{map}
use Rattle.std.specs.List.{slice_get}
use Rattle.std.proofs.lemmas.List.{append_assoc}
use Rattle.krb_schema.specs.declared.shape.Field.{Field}
use Rattle.krb_schema.specs.declared.shape.Name.{Name}
use Rattle.krb_schema.specs.declared.shape.Role.{Role}
use Rattle.krb_schema.specs.declared.shape.Shape.{Shape}
use Rattle.krb_schema.specs.Forests.{Forest, enc}
use Rattle.krb_schema.specs.Named.{field_row}
use Rattle.krb_schema.specs.Shapes.{AreFields}
use Rattle.krb_show.specs.Pages.{struct_of}
use Rattle.krb_show_text.specs.Text.{line, page_lines}
use Rattle.krb_show.specs.Tokens.{Label, Token}
use Rattle.krb_show_row_laws.specs.Telling.{is_name, other_than}
use Rattle.krb_show_row_laws.specs.Blocks.{Blocks, Follow, Tells, depth_behind}
use Rattle.krb_show_row_laws.specs.Firsts.{Kinds, are_apart}
use Rattle.krb_show_row_laws.specs.Pages.{behind, forest_shown}
use Rattle.krb_show_row_laws.specs.Tests.{CaseRow, FieldRow, apart_fields, is_number}
use Rattle.krb_show_row_laws.proofs.SplitLaws.{and_left, and_right, tail}
use Rattle.krb_show_row_laws.proofs.WordLaws.{of_other}
use Rattle.krb_show_row_laws.proofs.BlockLaws.{lines_append}
use Rattle.krb_show_row_laws.proofs.FieldLaws.{same_added}
use Rattle.krb_show_row_laws.proofs.StructLaws.{tells_struct}
use Rattle.krb_show_row_laws.proofs.LeafLaws.{Lines, OneLine}
use Rattle.krb_show_row_laws.proofs.FirstLaws.{Never, absent_never, among_left, among_right, or_true}
use Rattle.krb_show_row_laws.proofs.ForestLaws.{AreSmall}
use Rattle.krb_show_row_laws.proofs.Blocked.{blocks_among, follows}
use Rattle.krb_show_row_laws.proofs.Told.{Links, links_first}
use Rattle.krb_show_row_laws.proofs.FieldRows.{AreTold, Present, Split, begin_names, fields_blocks, fit_all, is_fit, linked_at, links_behind, names_at, present_firsts, split}

-- ---- one line, and what stands behind it

record Away (b : List Token → List Token → Type 0) (old ts : List Token) (t : Token) : Type 0 where
  rest : List Token
  shown : b (old ++ t ∷ []) ((old ++ t ∷ []) ++ rest)
  lines : (d : ℕ) → page_lines d ts ≡ line d t ∷ page_lines d rest

away : {f : List (List ℕ) → List (List ℕ)} {b : List Token → List Token → Type 0} {n : List ℕ} {V : List ℕ → Type 0} → Blocks f b
    → (old between ts : List Token)
    → (l : OneLine n V old between) → b between (old ++ ts) → Away b old ts l.token
away {f} {b} blocks old between ts l h =
    let from : b (old ++ l.token ∷ []) (old ++ ts) = subst (λ (x : List Token). b x (old ++ ts)) l.added h in
    let k = blocks.block (old ++ l.token ∷ []) (old ++ ts) from in
    let whole : ts ≡ l.token ∷ k.0 = same_added old ts (l.token ∷ k.0) (k.1 ∙ append_assoc old (l.token ∷ []) k.0) in
    record {
      rest = k.0;
      shown = subst (b (old ++ l.token ∷ [])) k.1 from;
      lines = λ d.
          ap (page_lines d) whole ∙ lines_append d (l.token ∷ []) k.0 ∙ ap (λ (ls : List (List ℕ)). ls ++ page_lines (depth_behind d (l.token ∷ [])) k.0)
          (l.lines d)
          ∙ ap (λ (e : ℕ). line d l.token ∷ page_lines e k.0) (l.level d);
    }

abbrev is_nil : List (List ℕ) → Bool
is_nil [] = true
is_nil (n ∷ names) = false

must : (b : Bool) {A : Type 0} → other_than b ≡ true → b ≡ true → A
must b h e = let f = of_other b h in absurd (cc)

module _ (tells : Role → List ℕ → Label → List ℕ → List Token → List Token → Type 0) (kinds : Kinds) (covers : ℕ → Bool) (deep : ℕ) (shapes : List Shape)
    (table : List FieldRow) (cases : List CaseRow) where
  -- numbers are one line
  abbrev pub AreNumbers : (ℕ → Name → List ℕ → Forest → Type 0) → Type 0
  AreNumbers R = (is : ℕ) (name : Name) (before : List ℕ) (f : Forest) → is_number (slice_get shapes is) ≡ true → R is name before f
      → (in_list : Bool) (number : List ℕ)
      → Lines name.text.now (λ s. Unit {0}) (forest_shown tells in_list number f)

  abbrev names_first : List Field → List (List ℕ) → List (List ℕ)
  names_first = begin_names tells kinds covers deep shapes table cases

  abbrev names_of_field : Field → List (List ℕ)
  names_of_field = names_at tells kinds covers deep shapes table cases

  abbrev all_are : Bool → List Field → Bool
  all_are = fit_all tells kinds covers deep shapes table cases

  abbrev link_at : Bool → Field → Bool
  link_at = linked_at tells kinds covers deep shapes table cases

  abbrev apart : List Field → List Field → Bool
  apart xs ys = apart_fields kinds covers deep shapes table cases (map field_row xs) (map field_row ys)

  module _ (R S : ℕ → Name → List ℕ → Forest → Type 0) (rows : AreTold tells kinds covers deep shapes table cases R)
      (others : AreTold tells kinds covers deep shapes table cases S)
      (numbers : AreNumbers R) (more_numbers : AreNumbers S) where
    here : (field : Field) (fields : List Field) (before : List ℕ) (f : Forest) → other_than field.optional ≡ true
        → Split tells kinds covers deep shapes table cases R rows (field ∷ fields) before f
        → Present tells kinds covers deep shapes table cases R rows field fields before f
    here field fields before f required (inl (may, r)) = must field.optional required may
    here field fields before f required (inr p) = p

    here_too : (field : Field) (fields : List Field) (before : List ℕ) (f : Forest) → other_than field.optional ≡ true
        → Split tells kinds covers deep shapes table cases S others (field ∷ fields) before f
        → Present tells kinds covers deep shapes table cases S others field fields before f
    here_too field fields before f required (inl (may, r)) = must field.optional required may
    here_too field fields before f required (inr p) = p

    -- these fields have no lines in common
    abbrev AreNever : List Field → List Field → Type 0
    AreNever xs ys = (linked also : Bool) → all_are linked xs ≡ true → all_are also ys ≡ true → (before other : List ℕ) (f g : Forest) → AreFields R xs before f
        → AreFields S ys other g → AreSmall f → AreSmall g
        → apart xs ys ≡ true → (number another : List ℕ) → Links linked before number → Links also other another → (old last ts us : List Token)
        → forest_shown tells false number f old (old ++ ts) → forest_shown tells false another g last (last ++ us) → (d : ℕ) (rest following : List (List ℕ))
        → Follow [] d rest → Follow [] d following → page_lines d ts ++ rest ≡ page_lines d us ++ following → ⊥

    abbrev are_numbers : Field → Field → Bool
    are_numbers x y = is_number (slice_get shapes x.is) && is_number (slice_get shapes y.is)

    abbrev are_required : Field → Field → Bool
    are_required x y = other_than x.optional && other_than y.optional

    first_never : (x y : Field) (xs ys : List Field) → AreNever xs ys → AreNever (x ∷ xs) (y ∷ ys)
    first_never x y xs ys again linked also all each before other f g r w small little differ number another links links_too old last ts us h k d rest following
        m n same =
        by_test (or_true (other_than x.optional && are_apart (names_of_field x) (names_first (y ∷ ys) [])) _ differ)
      where
        left : Blocks (names_first (x ∷ xs)) (forest_shown tells false number f)
        left = fields_blocks tells kinds covers deep shapes table cases R rows linked (x ∷ xs) before f r small all number links

        right : Blocks (names_first (y ∷ ys)) (forest_shown tells false another g)
        right = fields_blocks tells kinds covers deep shapes table cases S others also (y ∷ ys) other g w little each another links_too

        of_left : other_than x.optional ≡ true → Present tells kinds covers deep shapes table cases R rows x xs before f
        of_left required = here x xs before f required (split tells kinds covers deep shapes table cases R rows (x ∷ xs) before f r small)

        of_right : other_than y.optional ≡ true → Present tells kinds covers deep shapes table cases S others y ys other g
        of_right required = here_too y ys other g required (split tells kinds covers deep shapes table cases S others (y ∷ ys) other g w little)

        numbered : are_required x y && (are_numbers x y && apart xs ys) ≡ true → ⊥
        numbered t =
            let required = and_left (are_required x y) (are_numbers x y && apart xs ys) t in
            let more = and_right (are_required x y) (are_numbers x y && apart xs ys) t in
            let are = and_left (are_numbers x y) (apart xs ys) more in
            let p = of_left (and_left (other_than x.optional) (other_than y.optional) required) in
            let q = of_right (and_right (other_than x.optional) (other_than y.optional) required) in
            let one = p.shown number old (old ++ ts) h in
            let two = q.shown another last (last ++ us) k in
            let l = (numbers x.is x.name before p.element (and_left (is_number (slice_get shapes x.is)) (is_number (slice_get shapes y.is)) are) p.right false
            number).line_of old one.0 one.1 in
            let e = (more_numbers y.is y.name other q.element (and_right (is_number (slice_get shapes x.is)) (is_number (slice_get shapes y.is)) are) q.right
            false another).line_of last two.0 two.1 in
            let all_behind = (is_fit tells kinds covers deep shapes table cases linked x xs all).others in
            let each_behind = (is_fit tells kinds covers deep shapes table cases also y ys each).others in
            let behind_x = links_behind tells kinds covers deep shapes table cases R rows linked x before p.element p.right number in
            let behind_y = links_behind tells kinds covers deep shapes table cases S others also y other q.element q.right another in
            let a = away (fields_blocks tells kinds covers deep shapes table cases R rows (link_at linked x) xs (enc p.element) p.rest p.others p.smalls
            all_behind (behind p.element number) behind_x) old one.0 ts l one.2 in
            let b = away (fields_blocks tells kinds covers deep shapes table cases S others (link_at also y) ys (enc q.element) q.rest q.others q.smalls
            each_behind (behind q.element another) behind_y) last two.0 us e two.2 in
            let lines : line d l.token ∷ (page_lines d a.rest ++ rest) ≡ line d e.token ∷ (page_lines d b.rest ++ following) =
            ap (λ (ls : List (List ℕ)). ls ++ rest) (sym (a.lines d)) ∙ same ∙ ap (λ (ls : List (List ℕ)). ls ++ following) (b.lines d) in
            again (link_at linked x) (link_at also y) all_behind each_behind (enc p.element) (enc q.element) p.rest q.rest p.others q.others p.smalls q.smalls
            (and_right (are_numbers x y) (apart xs ys) more) (behind p.element number) (behind q.element another) behind_x behind_y
            (old ++ l.token ∷ []) (last ++ e.token ∷ []) a.rest b.rest a.shown b.shown d rest following m n (tail _ _ _ _ lines)

        by_second : (other_than y.optional && are_apart (names_of_field y) (names_first (x ∷ xs) []) ≡ true)
            ⊎ (are_required x y && (are_numbers x y && apart xs ys) ≡ true) → ⊥
        by_second (inl t) =
            let q = of_right (and_left (other_than y.optional) (are_apart (names_of_field y) (names_first (x ∷ xs) [])) t) in
            absent_never (present_firsts tells kinds covers deep shapes table cases S others also y ys other g q each another links_too) last us k
            (names_first (x ∷ xs) []) d
            (page_lines d ts ++ rest) following (and_right (other_than y.optional) (are_apart (names_of_field y) (names_first (x ∷ xs) [])) t)
            (follows left old ts h [] d rest m) same
        by_second (inr t) = numbered t

        by_test : (other_than x.optional && are_apart (names_of_field x) (names_first (y ∷ ys) []) ≡ true)
            ⊎ ((other_than y.optional && are_apart (names_of_field y) (names_first (x ∷ xs) [])) ||
            (are_required x y && (are_numbers x y && apart xs ys)) ≡ true) → ⊥
        by_test (inl t) =
            let p = of_left (and_left (other_than x.optional) (are_apart (names_of_field x) (names_first (y ∷ ys) [])) t) in
            absent_never (present_firsts tells kinds covers deep shapes table cases R rows linked x xs before f p all number links) old ts h
            (names_first (y ∷ ys) []) d
            (page_lines d us ++ following) rest (and_right (other_than x.optional) (are_apart (names_of_field x) (names_first (y ∷ ys) [])) t)
            (follows right last us k [] d following n) (sym same)
        by_test (inr t) = by_second (or_true (other_than y.optional && are_apart (names_of_field y) (names_first (x ∷ xs) [])) _ t)

    fields_never : (xs ys : List Field) → AreNever xs ys
    fields_never [] ys linked also all each before other f g r w small little differ number another links links_too old last ts us h k d rest following
        m n same = cc
    fields_never (x ∷ xs) [] linked also all each before other f g r w small little differ number another links links_too old last ts us h k d rest following
        m n same = cc
    fields_never (x ∷ xs) (y ∷ ys) linked also all each before other f g r w small little differ number another links links_too old last ts us h k d rest
        following m n same =
        first_never x y xs ys (fields_never xs ys) linked also all each before other f g r w small little differ number another links links_too old last ts us h
        k d rest following m n same

    abbrev both_first : List Field → List Field → List (List ℕ) → List (List ℕ)
    both_first xs ys names = names_first xs names ++ names_first ys names

    -- structs of such fields have no lines in common
    pub structs_never : (label : Label) → is_name label.text ≡ true → (xs ys : List Field) (f g : Forest) → AreFields R xs [] f → AreFields S ys [] g
        → AreSmall f → AreSmall g
        → all_are true xs ≡ true → all_are true ys ≡ true → apart xs ys ≡ true → (number another : List ℕ)
        → Never (struct_of label (forest_shown tells false number f)) (struct_of label (forest_shown tells false another g))
    structs_never label name xs ys f g r w small little all each differ number another =
        let t = tells_struct label name inner refl in
        record { never = λ old last ts us h k names d rest following m n same. (t.tells old last ts us h k tt names d rest following refl m n same).0 }
      where
        never : (old last ts us : List Token) → forest_shown tells false number f old (old ++ ts) → forest_shown tells false another g last (last ++ us)
            → Unit {0}
            → (names : List (List ℕ)) (d : ℕ) (rest following : List (List ℕ)) → is_nil names ≡ true → Follow names d rest → Follow names d following
            → page_lines d ts ++ rest ≡ page_lines d us ++ following → ⊥ × (rest ≡ following)
        never old last ts us h k known [] d rest following fit m n same =
            absurd (fields_never xs ys true true all each [] [] f g r w small little differ number another (links_first true number) (links_first true another)
            old last ts us h k d rest following m n same)
        never old last ts us h k known (x ∷ names) d rest following fit m n same = absurd (cc)

        inner : Tells (both_first xs ys) is_nil (Unit {0}) ⊥ (forest_shown tells false number f) (forest_shown tells false another g)
        inner = record {
          left = blocks_among {f = names_first xs} {g = both_first xs ys} (λ names n a. among_left n (names_first xs names) (names_first ys names) a)
              (fields_blocks tells kinds covers deep shapes table cases R rows true xs [] f r small all number (links_first true number));
          right = blocks_among {f = names_first ys} {g = both_first xs ys} (λ names n a. among_right n (names_first xs names) (names_first ys names) a)
              (fields_blocks tells kinds covers deep shapes table cases S others true ys [] g w little each another (links_first true another));
          tells = never;
        }
