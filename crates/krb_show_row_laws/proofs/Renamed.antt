-- Elements by two tables of the same rows: names are the same but for where their text stands.
use Rattle.std.proofs.Common.{◌≡◌, ℕ, zero, suc, ◌+◌, ◌≤◌, Bool, true, false, refl, sym, ap, subst, ◌∙◌, List, [], ◌∷◌, ◌++◌, length}
use Rattle.std.specs.Prelude.{Option, None, Some, map, option_map, unwrap_or}
use Rattle.std.specs.Fmt.{decimal}
use Rattle.std.specs.List.{slice_get}
use Rattle.std.proofs.lemmas.List.{length-map}
use Rattle.krb_registry.specs.declared.kind.Kind.{Kind}
use Rattle.krb_der_core.specs.Tlv.{tlv}
use Rattle.krb_schema.specs.declared.item.Node.{Node}
use Rattle.krb_schema.specs.declared.item.Node.TheVariants as nodes
use Rattle.krb_schema.specs.declared.shape.Case.{Case}
use Rattle.krb_schema.specs.declared.shape.Field.{Field}
use Rattle.krb_schema.specs.declared.shape.Leaf.{Leaf}
use Rattle.krb_schema.specs.declared.shape.Leaf.TheVariants as leaves
use Rattle.krb_schema.specs.declared.shape.Name.{Name}
use Rattle.krb_schema.specs.declared.shape.Role.{Role}
use Rattle.krb_schema.specs.declared.shape.Schema.{Schema}
use Rattle.krb_schema.specs.declared.shape.Shape.{Shape}
use Rattle.krb_schema.specs.declared.shape.Shape.TheVariants as shape
use Rattle.krb_schema.specs.Forests.{Forest, none, leaf, node, beside, enc}
use Rattle.krb_schema.specs.Named.{case_row, field_row, name_row}
use Rattle.krb_schema.specs.Shapes.{Applies, AreElements, AreFields, Begins, IsBehind, IsElement, IsHeld, IsNone, IsShaped, called, list_node, part, no_fields, absent, wrapped, bare, no_elements, one_more, here, later, plain, is_first}
use Rattle.krb_show.specs.declared.token.Form.TheVariants as tokens
use Rattle.krb_show.specs.Leaves.{name_of}
use Rattle.krb_show.specs.Pages.{struct_of}
use Rattle.krb_show.specs.Tokens.{Label, Token, adds, leaf as token_leaf}
use Rattle.krb_show.specs.Items.{octets_as}
use Rattle.krb_show.specs.RowLeaves.{leaf_of}
use Rattle.krb_show_row_laws.specs.Pages.{behind, behind_leaf, components, count, forest_shown, is_of_name, label_in, leaf_shown, list_shown}
use Rattle.krb_show_row_laws.specs.Tests.{CaseRow, FieldRow, OwnName}
use Rattle.krb_show_row_laws.proofs.SplitLaws.{tail}
use Rattle.krb_show_row_laws.proofs.Rows.{part_map}

-- two names of one text, one registry and one role
pub record SameName (m n : Name) : Type 0 where
  pub text : m.text.now ≡ n.text.now
  pub registry : m.registry ≡ n.registry
  pub role : m.role ≡ n.role

swapped_name : (m n : Name) → SameName m n → SameName n m
swapped_name m n s = record { text = sym s.text; registry = sym s.registry; role = sym s.role }

-- elements that are the same but for such names
pub data Same : Forest → Forest → Type 0 where
  same_none : Same none none
  same_leaf : (kind : Leaf) (tag : ℕ) (content : List ℕ) (m n : Name) (f g : Forest) → SameName m n → Same f g
      → Same (leaf kind m tag content f) (leaf kind n tag content g)
  same_node : (kind : Node) (tag : ℕ) (m n : Name) (inside within f g : Forest) → SameName m n → Same inside within → Same f g
      → Same (node kind m tag inside f) (node kind n tag within g)

pub same_enc : (f g : Forest) → Same f g → enc f ≡ enc g
same_enc f g same_none = refl
same_enc f g (same_leaf kind tag content m n x y s r) = ap (λ (l : List ℕ). tlv tag content ++ l) (same_enc x y r)
same_enc f g (same_node kind tag m n inside within x y s i r) =
    ap (λ (l : List ℕ). tlv tag l ++ enc x) (same_enc inside within i) ∙ ap (λ (l : List ℕ). tlv tag (enc within) ++ l) (same_enc x y r)

same_behind : (f g : Forest) → Same f g → (number : List ℕ) → behind f number ≡ behind g number
same_behind f g same_none number = refl
same_behind f g (same_leaf kind tag content m n x y s r) number = same_behind x y r (behind_leaf kind content number)
same_behind f g (same_node kind tag m n inside within x y s i r) number =
    ap (λ (k : List ℕ). behind x k) (same_behind inside within i number) ∙ same_behind x y r (behind within number)

same_count : (f g : Forest) → Same f g → count f ≡ count g
same_count f g same_none = refl
same_count f g (same_leaf kind tag content m n x y s r) = ap suc (same_count x y r)
same_count f g (same_node kind tag m n inside within x y s i r) = ap suc (same_count x y r)

same_components : (f g : Forest) → Same f g → components f ≡ components g
same_components f g same_none = refl
same_components f g (same_leaf kind tag content m n x y s r) = ap (λ (cs : List (List ℕ)). content ∷ cs) (same_components x y r)
same_components f g (same_node kind tag m n inside within x y s i r) = same_components x y r

same_of_name : (f g : Forest) → Same f g → is_of_name f ≡ is_of_name g
same_of_name f g same_none = refl
same_of_name f g (same_leaf kind tag content m n x y s r) = refl
same_of_name f g (same_node kind tag m n inside within x y s i r) = refl

same_beside : (f g x y : Forest) → Same f g → Same x y → Same (beside f x) (beside g y)
same_beside f g x y same_none k = k
same_beside f g x y (same_leaf kind tag content m n f' g' s r) k = same_leaf kind tag content m n (beside f' x) (beside g' y) s (same_beside f' g' x y r k)
same_beside f g x y (same_node kind tag m n inside within f' g' s i r) k =
    same_node kind tag m n inside within (beside f' x) (beside g' y) s i (same_beside f' g' x y r k)

-- ---- what they add

abbrev label_by : Bool → List ℕ → Option Kind → Role → Label
label_by in_list text kind role = record { text = text; kind = kind; role = role; is_item = in_list }

same_label : (in_list : Bool) (m n : Name) → SameName m n → label_in in_list m ≡ label_in in_list n
same_label in_list m n s =
    ap (λ (t : List ℕ). label_by in_list t m.registry m.role) s.text ∙ ap (λ (k : Option Kind). label_by in_list n.text.now k m.role) s.registry
    ∙ ap (λ (r : Role). label_by in_list n.text.now n.registry r) s.role

module _ (tells : Role → List ℕ → Label → List ℕ → List Token → List Token → Type 0) where
  same_leaf_shown : (kind : Leaf) (m n : Name) → SameName m n → (tag : ℕ) (content : List ℕ) (in_list : Bool) (number : List ℕ) (old new : List Token)
      → leaf_shown tells kind m tag content in_list number old new → leaf_shown tells kind n tag content in_list number old new
  same_leaf_shown leaves.Octets m n s tag content in_list number old new h =
      subst (λ (l : Label). octets_as tells n.role number l content old new) (same_label in_list m n s)
      (subst (λ (r : Role). octets_as tells r number (label_in in_list m) content old new) s.role h)
  same_leaf_shown kind m n s tag content in_list number old new h = subst (λ (l : Label). leaf_of kind tag l content old new) (same_label in_list m n s) h

  same_list : (b : Bool) (m n : Name) → SameName m n → (inside within : Forest) → Same inside within → (in_list : Bool) (number : List ℕ)
      → ((from to : List Token) → forest_shown tells true number inside from to → forest_shown tells true number within from to) → (old new : List Token)
      → list_shown b (label_in in_list m) inside (forest_shown tells true number inside) old new
      → list_shown b (label_in in_list n) within (forest_shown tells true number within) old new
  same_list true m n s inside within i in_list number again old new h =
      subst (λ (l : Label). name_of l (components within) old new) (same_label in_list m n s)
      (subst (λ (cs : List (List ℕ)). name_of (label_in in_list m) cs old new) (same_components inside within i) h)
  same_list false m n s inside within i in_list number again old new h =
      subst (λ (l : Label). list_shown false l within (forest_shown tells true number within) old new) (same_label in_list m n s) (counted h)
    where
      counted : list_shown false (label_in in_list m) inside (forest_shown tells true number inside) old new
          → list_shown false (label_in in_list m) within (forest_shown tells true number within) old new
      counted (first, e, (last, k, g)) = (
        first,
        subst (λ (c : ℕ). adds (token_leaf tokens.List (label_in in_list m) (decimal c)) old first) (same_count inside within i) e,
        (last, again first last k, g),
      )

  same_struct : (m n : Name) → SameName m n → (inside within : Forest) → (in_list : Bool) (number : List ℕ)
      → ((from to : List Token) → forest_shown tells false number inside from to → forest_shown tells false number within from to) → (old new : List Token)
      → struct_of (label_in in_list m) (forest_shown tells false number inside) old new
      → struct_of (label_in in_list n) (forest_shown tells false number within) old new
  same_struct m n s inside within in_list number again old new h =
      subst (λ (l : Label). struct_of l (forest_shown tells false number within) old new) (same_label in_list m n s) (by_fields h)
    where
      by_fields : struct_of (label_in in_list m) (forest_shown tells false number inside) old new
          → struct_of (label_in in_list m) (forest_shown tells false number within) old new
      by_fields (first, e, (last, k, g)) = (first, e, (last, again first last k, g))

  -- a list as it is shown, of either kind
  same_either : (m n : Name) → SameName m n → (inside within : Forest) → Same inside within → (in_list : Bool) (number : List ℕ)
      → ((from to : List Token) → forest_shown tells true number inside from to → forest_shown tells true number within from to) → (old new : List Token)
      → list_shown (is_of_name inside) (label_in in_list m) inside (forest_shown tells true number inside) old new
      → list_shown (is_of_name within) (label_in in_list n) within (forest_shown tells true number within) old new
  same_either m n s inside within i in_list number again old new h =
      subst (λ (b : Bool). list_shown b (label_in in_list n) within (forest_shown tells true number within) old new) (same_of_name inside within i)
      (same_list (is_of_name inside) m n s inside within i in_list number again old new h)

  -- what stands behind
  same_rest : (inside within x y : Forest) → Same inside within → (in_list : Bool) (number : List ℕ)
      → ((k : List ℕ) (from to : List Token) → forest_shown tells in_list k x from to → forest_shown tells in_list k y from to) → (old new : List Token)
      → forest_shown tells in_list (behind inside number) x old new → forest_shown tells in_list (behind within number) y old new
  same_rest inside within x y i in_list number again old new h =
      subst (λ (k : List ℕ). forest_shown tells in_list k y old new) (same_behind inside within i number) (again (behind inside number) old new h)

  pub same_shown : (f g : Forest) → Same f g → (in_list : Bool) (number : List ℕ) (old new : List Token) → forest_shown tells in_list number f old new
      → forest_shown tells in_list number g old new
  same_shown f g same_none in_list number old new h = h
  same_shown f g (same_leaf kind tag content m n x y s r) in_list number old new (between, h, k) =
      (between, same_leaf_shown kind m n s tag content in_list number old between h, same_shown x y r in_list (behind_leaf kind content number) between new k)
  same_shown f g (same_node nodes.Wrap tag m n inside within x y s i r) in_list number old new (between, h, k) =
      (between, same_shown inside within i in_list number old between h, same_rest inside within x y i in_list number (same_shown x y r in_list) between new k)
  same_shown f g (same_node nodes.Struct tag m n inside within x y s i r) in_list number old new (between, h, k) = (
    between,
    same_struct m n s inside within in_list number (same_shown inside within i false number) old between h,
    same_rest inside within x y i in_list number (same_shown x y r in_list) between new k,
  )
  same_shown f g (same_node nodes.List tag m n inside within x y s i r) in_list number old new (between, h, k) = (
    between,
    same_either m n s inside within i in_list number (same_shown inside within i true number) old between h,
    same_rest inside within x y i in_list number (same_shown x y r in_list) between new k,
  )
  same_shown f g (same_node nodes.FilledList tag m n inside within x y s i r) in_list number old new (between, h, k) = (
    between,
    same_either m n s inside within i in_list number (same_shown inside within i true number) old between h,
    same_rest inside within x y i in_list number (same_shown x y r in_list) between new k,
  )

-- ---- elements by the one table and by the other

-- tables of the same rows
pub record SameTable (s t : Schema) : Type 0 where
  pub rows : s.shapes.now ≡ t.shapes.now
  pub parts : map field_row s.fields.now ≡ map field_row t.fields.now
  pub held : map case_row s.cases.now ≡ map case_row t.cases.now

swapped_table : (s t : Schema) → SameTable s t → SameTable t s
swapped_table s t e = record { rows = sym e.rows; parts = sym e.parts; held = sym e.held }

-- each right element is right by the other table, under the other name
abbrev Goes : (R S : ℕ → Name → List ℕ → Forest → Type 0) → Type 0
Goes R S = (is : ℕ) (m n : Name) → SameName m n → (before : List ℕ) (f : Forest) → R is m before f → (g : Forest) × S is n before g × Same f g

same_row : (x y : Field) (xs ys : List Field) → map field_row (x ∷ xs) ≡ map field_row (y ∷ ys) → (field_row x ≡ field_row y)
    × (map field_row xs ≡ map field_row ys)
same_row x y xs ys e = (ap (first_or (field_row x)) e, tail (field_row x) (field_row y) (map field_row xs) (map field_row ys) e)
  where
    first_or : FieldRow → List FieldRow → FieldRow
    first_or r [] = r
    first_or r (q ∷ qs) = q

no_fields_left : (y : Field) (ys : List Field) → [] ≡ map field_row (y ∷ ys) → ⊥
no_fields_left y ys e = cc

some_left : (x : Field) (xs : List Field) → map field_row (x ∷ xs) ≡ [] → ⊥
some_left x xs e = cc

-- what two fields of one row share
record SameField (x y : Field) : Type 0 where
  tag : x.tag ≡ y.tag
  wrapped : x.wrapped ≡ y.wrapped
  optional : x.optional ≡ y.optional
  name : SameName x.name y.name
  is : x.is ≡ y.is

same_field : (x y : Field) → field_row x ≡ field_row y → SameField x y
same_field x y e = record {
  tag = ap (λ (r : FieldRow). r.0) e;
  wrapped = ap (λ (r : FieldRow). r.1) e;
  optional = ap (λ (r : FieldRow). r.2) e;
  name = record { text = ap (λ (r : FieldRow). r.3) e; registry = ap (λ (r : FieldRow). r.4) e; role = ap (λ (r : FieldRow). r.5) e };
  is = ap (λ (r : FieldRow). r.6) e;
}

-- cases of one row

same_case : (c d : Case) (cs ds : List Case) → map case_row (c ∷ cs) ≡ map case_row (d ∷ ds)
    → (c.behind ≡ d.behind) × (option_map name_row c.name ≡ option_map name_row d.name) × (c.is ≡ d.is) × (map case_row cs ≡ map case_row ds)
same_case c d cs ds e =
    let one = ap (first_or (case_row c)) e in (
      ap (λ (r : CaseRow). r.0) one,
      ap (λ (r : CaseRow). r.1) one,
      ap (λ (r : CaseRow). r.2) one,
      tail (case_row c) (case_row d) (map case_row cs)
          (map case_row ds) e,
    )
  where
    first_or : CaseRow → List CaseRow → CaseRow
    first_or r [] = r
    first_or r (q ∷ qs) = q

no_cases_left : (d : Case) (ds : List Case) → [] ≡ map case_row (d ∷ ds) → ⊥
no_cases_left d ds e = cc

some_case : (c : Case) (cs : List Case) → map case_row (c ∷ cs) ≡ [] → ⊥
some_case c cs e = cc

abbrev own_or : List ℕ × Option Kind × Role → OwnName → List ℕ × Option Kind × Role
own_or r None = r
own_or r (Some own) = own

same_called : (o p : Option Name) (m n : Name) → option_map name_row o ≡ option_map name_row p → SameName m n → SameName (unwrap_or o m) (unwrap_or p n)
same_called None None m n e s = s
same_called None (Some q) m n e s = absurd (cc)
same_called (Some o) None m n e s = absurd (cc)
same_called (Some o) (Some p) m n e s =
    let rows = ap (own_or (name_row o)) e in
    record {
      text = ap (λ (r : List ℕ × Option Kind × Role). r.0) rows;
      registry = ap (λ (r : List ℕ × Option Kind × Role). r.1) rows;
      role =
          ap (λ (r : List ℕ × Option Kind × Role). r.2) rows;
    }

module _ (R S : ℕ → Name → List ℕ → Forest → Type 0) (goes : Goes R S) where
  -- a field that is there, by the other table
  goes_field : (x y : Field) → SameField x y → (before : List ℕ) (f : Forest) → R x.is x.name before f → (g : Forest) × S y.is y.name before g × Same f g
  goes_field x y s before f r = subst (λ (is : ℕ). (g : Forest) × S is y.name before g × Same f g) s.is (goes x.is x.name y.name s.name before f r)

  goes_fields : (xs ys : List Field) → map field_row xs ≡ map field_row ys → (before : List ℕ) (f : Forest) → AreFields R xs before f
      → (g : Forest) × AreFields S ys before g × Same f g
  goes_fields xs [] e before f (no_fields b) = (none, no_fields b, same_none)
  goes_fields xs (y ∷ ys) e before f (no_fields b) = absurd (no_fields_left y ys e)
  goes_fields xs [] e before f (absent x fs b rest may lacks r) = absurd (some_left x fs e)
  goes_fields xs (y ∷ ys) e before f (absent x fs b rest may lacks r) =
      let parts = same_row x y fs ys e in
      let s = same_field x y parts.0 in
      let more = goes_fields fs ys parts.1 b rest r in (
        more.0,
        absent y ys b more.0 (sym s.optional ∙ may)
            (λ begins. lacks (subst (λ (t : Option ℕ). Begins t (enc rest)) (sym s.tag)
            (subst (λ (o : List ℕ). Begins y.tag o) (sym (same_enc rest more.0 more.2)) begins))) more.1,
        more.2,
      )
  goes_fields xs [] e before f (wrapped x fs b t inside rest w first r p) = absurd (some_left x fs e)
  goes_fields xs (y ∷ ys) e before f (wrapped x fs b t inside rest w first r p) =
      let parts = same_row x y fs ys e in
      let s = same_field x y parts.0 in
      let here = goes_field x y s b inside r in
      let more = goes_fields fs ys parts.1 (enc inside) rest p in (
        node nodes.Wrap y.name t here.0 more.0,
        wrapped y ys b t here.0 more.0 (sym s.wrapped ∙ w) (subst (λ (o : Option ℕ). is_first o t ≡ true) s.tag first) here.1
            (subst (λ (o : List ℕ). AreFields S ys o more.0) (same_enc inside here.0 here.2) more.1),
        same_node nodes.Wrap t x.name y.name inside here.0 rest more.0 s.name here.2 more.2,
      )
  goes_fields xs [] e before f (bare x fs b element rest w begins r p) = absurd (some_left x fs e)
  goes_fields xs (y ∷ ys) e before f (bare x fs b element rest w begins r p) =
      let parts = same_row x y fs ys e in
      let s = same_field x y parts.0 in
      let here = goes_field x y s b element r in
      let more = goes_fields fs ys parts.1 (enc element) rest p in (
        beside here.0 more.0,
        bare y ys b here.0 more.0 (sym s.wrapped ∙ w)
            (subst (λ (o : List ℕ). Begins y.tag o) (same_enc element here.0 here.2) (subst (λ (t : Option ℕ). Begins t (enc element)) s.tag begins)) here.1
            (subst (λ (o : List ℕ). AreFields S ys o more.0) (same_enc element here.0 here.2) more.1),
        same_beside element here.0 rest more.0 here.2 more.2,
      )

  goes_elements : (is : ℕ) (m n : Name) → SameName m n → (f : Forest) → AreElements (R is m []) f → (g : Forest) × AreElements (S is n []) g × Same f g
  goes_elements is m n s f no_elements = (none, no_elements, same_none)
  goes_elements is m n s f (one_more element others r rs) =
      let here = goes is m n s [] element r in
      let more = goes_elements is m n s others rs in
      (beside here.0 more.0, one_more here.0 more.0 here.1 more.1, same_beside element here.0 others more.0 here.2 more.2)

  module _ (back : Goes S R) where
    no_other : (is : ℕ) (m n : Name) → SameName m n → (content : List ℕ) → IsNone (R is m []) content → IsNone (S is n []) content
    no_other is m n s content lacks g w e =
        let f = back is n m (swapped_name m n s) [] g w in lacks f.0 f.1 (e ∙ same_enc g f.0 f.2)

    goes_held : (m n : Name) → SameName m n → (before content : List ℕ) (cs ds : List Case) → map case_row cs ≡ map case_row ds → (f : Forest)
        → IsHeld R m before content cs f
        → (g : Forest) × IsHeld S n before content ds g × Same f g
    goes_held m n s before content cs [] e f (here c es inside applies r q) = absurd (some_case c es e)
    goes_held m n s before content cs (d ∷ ds) e f (here c es inside applies r q) =
        let one = same_case c d es ds e in
        let within = goes c.is (called c m) (called d n) (same_called c.name d.name m n one.1 s) [] inside r in
        let right : S d.is (called d n) [] within.0 = subst (λ (is : ℕ). S is (called d n) [] within.0) one.2 within.1 in (
          node nodes.Wrap n 4 within.0 none,
          here d ds within.0 (subst (λ (o : Option ℕ). IsBehind o before) one.0 applies) right (q ∙ same_enc inside within.0 within.2),
          same_node nodes.Wrap 4 m n inside within.0 none none s within.2 same_none,
        )
    goes_held m n s before content cs [] e f (later c es element lacks r) = absurd (some_case c es e)
    goes_held m n s before content cs (d ∷ ds) e f (later c es element lacks r) =
        let one = same_case c d es ds e in
        let more = goes_held m n s before content es ds one.3 element r in
        let none_fits : Applies d before → IsNone (S d.is (called d n) []) content = λ applies.
        subst (λ (is : ℕ). IsNone (S is (called d n) []) content) one.2
        (no_other c.is (called c m) (called d n) (same_called c.name d.name m n one.1 s) content
        (lacks (subst (λ (o : Option ℕ). IsBehind o before) (sym one.0) applies))) in
        (more.0, later d ds more.0 none_fits more.1, more.2)
    goes_held m n s before content cs [] e f plain =
        (leaf leaves.Octets n 4 content none, plain, same_leaf leaves.Octets 4 content m n none none s same_none)
    goes_held m n s before content cs (d ∷ ds) e f plain = absurd (no_cases_left d ds e)

    same_leaf_of : (kind : Leaf) (tag : ℕ) (content : List ℕ) (m n : Name) → SameName m n → (f : Forest) → f ≡ leaf kind m tag content none
        → Same f (leaf kind n tag content none)
    same_leaf_of kind tag content m n s f e =
        subst (λ (x : Forest). Same x (leaf kind n tag content none)) (sym e) (same_leaf kind tag content m n none none s same_none)

    same_node_of : (kind : Node) (tag : ℕ) (inside within : Forest) (m n : Name) → SameName m n → Same inside within → (f : Forest)
        → f ≡ node kind m tag inside none
        → Same f (node kind n tag within none)
    same_node_of kind tag inside within m n s i f e =
        subst (λ (x : Forest). Same x (node kind n tag within none)) (sym e) (same_node kind tag m n inside within none none s i same_none)

    as_many : (s t : Schema) → SameTable s t → length s.fields.now ≡ length t.fields.now
    as_many s t e = sym (length-map s.fields.now field_row) ∙ ap (λ (l : List FieldRow). length l) e.parts ∙ length-map t.fields.now field_row

    as_many_cases : (s t : Schema) → SameTable s t → length s.cases.now ≡ length t.cases.now
    as_many_cases s t e = sym (length-map s.cases.now case_row) ∙ ap (λ (l : List CaseRow). length l) e.held ∙ length-map t.cases.now case_row

    goes_shaped : (s t : Schema) → SameTable s t → (x : Shape) (m n : Name) → SameName m n → (before : List ℕ) (f : Forest) → IsShaped R s x m before f
        → (g : Forest) × IsShaped S t x n before g × Same f g
    goes_shaped s t e (shape.Leaf tag kind) m n named before f v =
        (leaf kind n tag v.0 none, (v.0, v.1, refl), same_leaf_of kind tag v.0 m n named f v.2)
    goes_shaped s t e (shape.Tagged tag is) m n named before f v =
        let within = goes is m n named before v.0 v.1 in
        (node nodes.Wrap n tag within.0 none, (within.0, within.1, refl), same_node_of nodes.Wrap tag v.0 within.0 m n named within.2 f v.2)
    goes_shaped s t e (shape.Sequence tag start size) m n named before f v =
        let parts = sym (part_map field_row start size s.fields.now) ∙ ap (λ (l : List FieldRow). part start size l) e.parts
        ∙ part_map field_row start size t.fields.now in
        let within = goes_fields (part start size s.fields.now) (part start size t.fields.now) parts [] v.0 v.2 in (
          node nodes.Struct n tag within.0 none,
          (within.0, subst (λ (k : ℕ). start + size ≤ k) (as_many s t e) v.1, within.1, refl),
          same_node_of nodes.Struct tag v.0 within.0 m n named within.2 f v.3,
        )
    goes_shaped s t e (shape.SequenceOf tag is filled) m n named before f v =
        let within = goes_elements is m n named v.0 v.1 in
        (node (list_node filled) n tag within.0 none, (within.0, within.1, refl), same_node_of (list_node filled) tag v.0 within.0 m n named within.2 f v.2)
    goes_shaped s t e (shape.Holding start size) m n named before f v =
        let parts = sym (part_map case_row start size s.cases.now) ∙ ap (λ (l : List CaseRow). part start size l) e.held
        ∙ part_map case_row start size t.cases.now in
        let held = goes_held m n named before v.0 (part start size s.cases.now) (part start size t.cases.now) parts f v.2 in
        (held.0, (v.0, subst (λ (k : ℕ). start + size ≤ k) (as_many_cases s t e) v.1, held.1), held.2)
    goes_shaped s t e shape.Any m n named before f v =
        (leaf leaves.Any n v.0 v.1 none, (v.0, v.1, v.2, refl), same_leaf_of leaves.Any v.0 v.1 m n named f v.3)

-- an element of a row by one table is one by another, under another name
pub renamed : (levels : ℕ) (s t : Schema) → SameTable s t → Goes (IsElement levels s) (IsElement levels t)
renamed zero s t e is m n named before f v = absurd v
renamed (suc levels) s t e is m n named before f v =
    let g = goes_shaped (IsElement levels s) (IsElement levels t) (renamed levels s t e) (renamed levels t s (swapped_table s t e)) s t e v.0 m n named before f
    v.2 in
    (g.0, (v.0, ap (λ (l : List Shape). slice_get l is) (sym e.rows) ∙ v.1, g.1), g.2)
