-- Rows of the table and codecs: the same octets.
use Rattle.std.proofs.Common.{◌≡◌, ◌⊎◌, inl, inr, ℕ, suc, pos, ◌+◌, ◌≤◌, ◌<◌, ◌^◌, ◌==◌, nat_eq, ◌&&◌, if◌then◌else◌, refl, sym, ap, subst, ◌∙◌, arith, Bool, true, false, Option, None, Some, List, [], ◌∷◌, ◌++◌, length, get_or, map}
use Rattle.std.specs.List.{slice_get, flat_map, AllByRecursion}
use Rattle.std.specs.Option.{IfSome}
use Rattle.std.proofs.lemmas.List.{append-nil, append_assoc, length-map}
use Rattle.std.proofs.lemmas.Grind.{common_steps}
use Rattle.krb_registry.specs.declared.kind.Kind.{Kind}
use Rattle.krb_der_core.specs.Encoding.{IsOctets, optional}
use Rattle.krb_der_core.specs.BitString.{bits_content}
use Rattle.krb_der_core.specs.GeneralizedTime.{time_content}
use Rattle.krb_der_core.specs.Integer.{shortest}
use Rattle.krb_der_core.specs.Primitive.{bool_content}
use Rattle.krb_der_core.specs.Tlv.{tlv}
use Rattle.krb_schema.specs.declared.shape.Case.{Case}
use Rattle.krb_schema.specs.declared.shape.Field.{Field}
use Rattle.krb_schema.specs.declared.shape.Leaf.{Leaf}
use Rattle.krb_schema.specs.declared.shape.Leaf.TheVariants as leaves
use Rattle.krb_schema.specs.declared.shape.Name.{Name}
use Rattle.krb_schema.specs.declared.shape.Role.{Role}
use Rattle.krb_schema.specs.declared.shape.Schema.{Schema}
use Rattle.krb_schema.specs.declared.shape.Shape.{Shape}
use Rattle.krb_schema.specs.declared.shape.Shape.TheVariants as shape
use Rattle.krb_schema.specs.declared.item.Node.TheVariants as nodes
use Rattle.krb_schema.specs.Forests.{Forest, none, leaf, node, beside, enc}
use Rattle.krb_schema.specs.Named.{IsKerberos, case_row, field_row}
use Rattle.krb_schema.specs.Shapes.{AreElements, Applies, Begins, IsElement, IsHeld, IsRange, IsShaped, called, here, later, list_node, no_elements, one_more, part, plain}
use Rattle.krb_schema.specs.Types.{cases, fields, shapes}
use Rattle.krb_show_row_laws.proofs.Codecs.{Codec}
use Rattle.krb_show_row_laws.proofs.Codecs as codec
use Rattle.krb_show_row_laws.proofs.ForestLaws.{octets_left, octets_right, octets_within}
use Rattle.krb_show_row_laws.proofs.RowFields.{First, IsIn, OfFields, OfRow, Row, absent_in, ended_in, ended_out, first_of, in_range, is_in, last_of, leaf_in, leaf_out, LeafOf, optional_out, part_map, present_in, required_out, sequence_in, sequence_out, shape_at, shape_of, tagged_in, tagged_out}

-- it cannot be that it is not
abbrev pub NotNot : Type 0 → Type 0
NotNot A = (A → ⊥) → ⊥

pub both : {A B C : Type 0} → (A → B → C) → NotNot A → NotNot B → NotNot C
both f a b k = a (λ x. b (λ y. k (f x y)))

pub mapped : {A C : Type 0} → (A → C) → NotNot A → NotNot C
mapped f a k = a (λ x. k (f x))

-- ---- beginnings

-- fields of these rows never begin with this tag
abbrev pub is_apart : ℕ → List Row → Bool
is_apart tag [] = true
is_apart tag ((None, wrapped, may_be, name, kind, role, is) ∷ rows) = false
is_apart tag ((Some t, wrapped, may_be, name, kind, role, is) ∷ rows) = (if nat_eq t tag then false else true) && (if may_be then is_apart tag rows else true)

pub differs : (t tag : ℕ) → (if nat_eq t tag then false else true) ≡ true → t ≡ tag → ⊥
differs t tag e f = grind (arith, common_steps)

pub and_first : (a b : Bool) → (a && b) ≡ true → a ≡ true
and_first true b e = refl
and_first false b e = e

pub and_second : (a b : Bool) → (a && b) ≡ true → b ≡ true
and_second true b e = e
and_second false b e = absurd (clash e)
  where
    clash : false ≡ true → ⊥
    clash e = cc

-- an element does not begin as one under another tag
pub other_tag : (t tag : ℕ) (content rest : List ℕ) → (t ≡ tag → ⊥) → Begins (Some tag) (tlv t content ++ rest) → ⊥
unfolding tlv
other_tag t tag content rest differ b = differ (same t tag (subst (λ (n : ℕ). (n == tag) ≡ true) (ap (λ (l : List ℕ). get_or l 0 0) (sym b.2)) b.3))
  where
    same : (m n : ℕ) → (m == n) ≡ true → m ≡ n
    same m n e = grind (arith, common_steps)

pub nothing_begins : (tag : Option ℕ) → Begins tag [] → ⊥
nothing_begins tag b = none_is b.0 b.1 b.2
  where
    none_is : (t : ℕ) (rest : List ℕ) → [] ≡ t ∷ rest → ⊥
    none_is t rest e = cc

pub enc_beside : (a b : Forest) → enc (beside a b) ≡ enc a ++ enc b
enc_beside none b = refl
enc_beside (leaf kind name tag content rest) b =
    ap (λ (o : List ℕ). tlv tag content ++ o) (enc_beside rest b) ∙ sym (append_assoc (tlv tag content) (enc rest) (enc b))
enc_beside (node kind name tag inside rest) b =
    ap (λ (o : List ℕ). tlv tag (enc inside) ++ o) (enc_beside rest b) ∙ sym (append_assoc (tlv tag (enc inside)) (enc rest) (enc b))

-- ---- equations, and facts of lists and of what may be absent

pub flat_map_same : {A : Type 0} {f g : A → List ℕ} → ((x : A) → f x ≡ g x) → (xs : List A) → flat_map f xs ≡ flat_map g xs
flat_map_same e [] = refl
flat_map_same {A} {f} {g} e (x ∷ xs) = ap (λ (o : List ℕ). o ++ flat_map f xs) (e x) ∙ ap (λ (o : List ℕ). g x ++ o) (flat_map_same e xs)

pub optional_same : {A : Type 0} {f g : A → List ℕ} → ((x : A) → f x ≡ g x) → (m : Option A) → optional f m ≡ optional g m
optional_same e None = refl
optional_same e (Some x) = e x

pub all_as : {A : Type 0} {P Q : A → Type 0} → ((x : A) → P x → Q x) → (xs : List A) → AllByRecursion P xs → AllByRecursion Q xs
all_as f [] h = tt
all_as f (x ∷ xs) h = (f x h.0, all_as f xs h.1)

pub some_as : {A : Type 0} {P Q : A → Type 0} → ((x : A) → P x → Q x) → (m : Option A) → IfSome m P → IfSome m Q
some_as f None h = tt
some_as f (Some x) h = f x h

-- each value, and a number of 32 bits
abbrev pub IsAny : {A : Type 0} → A → Type 0
IsAny v = Unit {0}

abbrev pub IsUnsigned : ℕ → Type 0
IsUnsigned n = n < 2 ^ 32

-- the octets are those of a value
pub record IsCode (c : Codec) (o : List ℕ) : Type 0 where
  pub code : c.value
  pub valid : c.valid code
  pub are : o ≡ c.enc code

module _ (schema : Schema) (kerberos : IsKerberos schema) where
  pub record Tie (levels is : ℕ) (c : Codec) : Type 0 where
    pub into : (name : Name) (before : List ℕ) (x : c.value) → c.valid x → NotNot (OfRow levels schema is name before (c.enc x))
    pub from : (name : Name) (before o : List ℕ) → IsOctets o → OfRow levels schema is name before o → IsCode c o

  pub record TieFields (levels : ℕ) (rows : List Row) (c : Codec) : Type 0 where
    pub into : (fs : List Field) → map field_row fs ≡ rows → (before : List ℕ) (x : c.value) → c.valid x → NotNot (OfFields levels schema fs before (c.enc x))
    pub from : (fs : List Field) → map field_row fs ≡ rows → (before o : List ℕ) → IsOctets o → OfFields levels schema fs before o → IsCode c o
    pub never : (tag : ℕ) → is_apart tag rows ≡ true → (x : c.value) → c.valid x → Begins (Some tag) (c.enc x) → ⊥

  -- ---- leaves

  pub leaf_tie : (levels is tag : ℕ) (kind : Leaf) (c : Codec) → slice_get shapes is ≡ Some (shape.Leaf tag kind)
      → ((x : c.value) → c.valid x → LeafOf kind tag (c.enc x)) → ((o : List ℕ) → IsOctets o → LeafOf kind tag o → IsCode c o) → Tie (suc levels) is c
  leaf_tie levels is tag kind c at leaf_into leaf_from = record {
    into = λ name before x v k. k (leaf_in schema kerberos levels is tag kind name before (c.enc x) at (leaf_into x v));
    from = λ name before o small h. leaf_from o small (leaf_out schema kerberos levels is tag kind name before o at h);
  }

  pub tagged_tie : (levels is tag inside : ℕ) (c : Codec) → slice_get shapes is ≡ Some (shape.Tagged tag inside) → Tie levels inside c
      → Tie (suc levels) is (codec.tagged tag c)
  tagged_tie levels is tag inside c at t = record {
    into = λ name before x v. mapped (λ h. tagged_in schema kerberos levels is tag inside name before (tlv tag (c.enc x)) (c.enc x) at h refl) (t.into name before x v);
    from = λ name before o small h.
        (let w = tagged_out schema kerberos levels is tag inside name before o at h in
        let code = t.from name before w.0 (octets_within tag w.0 (subst IsOctets w.2 small)) w.1 in
        record { code = code.code; valid = code.valid; are = w.2 ∙ ap (tlv tag) code.are });
  }

  -- ---- fields

  pub end_tie : (levels : ℕ) → TieFields levels [] codec.end
  end_tie levels = record {
    into = λ fs e before x v k. k (subst (λ l. OfFields levels schema l before []) (sym (last_of field_row fs e)) (ended_in schema kerberos levels before [] refl));
    from = λ fs e before o small h. record {
      code = tt;
      valid = tt;
      are = ended_out schema kerberos levels before o (subst (λ l. OfFields levels schema l before o) (last_of field_row fs e) h);
    };
    never = λ tag apart x v b. nothing_begins (Some tag) b;
  }

  first_code : (levels : ℕ) (field : Field) (fs : List Field) (tag is : ℕ) (before o : List ℕ) (c rest : Codec) (rows : List Row) → map field_row fs ≡ rows
      → Tie levels is c → TieFields levels rows rest → IsOctets o → First schema kerberos levels field fs tag is before o → IsCode (codec.required tag c rest) o
  first_code levels field fs tag is before o c rest rows e t ts small h =
      let whole = subst IsOctets h.octets_are small in
      let a = t.from field.name before h.inside (octets_within tag h.inside (octets_left (tlv tag h.inside) h.rest whole)) h.right in
      let b = ts.from fs e h.inside h.rest (octets_right (tlv tag h.inside) h.rest whole) h.behind in
      record {
        code = (a.code, b.code);
        valid = (a.valid, b.valid);
        are = h.octets_are ∙ ap (λ (x : List ℕ). tlv tag x ++ h.rest) a.are ∙ ap (λ (x : List ℕ). tlv tag (c.enc a.code) ++ x) b.are;
      }

  first_into : (levels : ℕ) (field : Field) (fs : List Field) (tag : ℕ) (optional : Bool) (is : ℕ) (before : List ℕ) (c rest : Codec) (rows : List Row)
      → map field_row fs ≡ rows → IsIn field tag optional is → Tie levels is c → TieFields levels rows rest → (x : c.value) (y : rest.value) → c.valid x
      → rest.valid y → NotNot (OfFields levels schema (field ∷ fs) before (tlv tag (c.enc x) ++ rest.enc y))
  first_into levels field fs tag optional is before c rest rows e i t ts x y v w =
      both (λ right behind. present_in schema kerberos levels field fs tag optional is before (tlv tag (c.enc x) ++ rest.enc y) i (record {
        inside = c.enc x;
        rest = rest.enc y;
        right = right;
        behind = behind;
        octets_are = refl;
      })) (t.into field.name before x v) (ts.into fs e (c.enc x) y w)

  pub required_tie : (levels tag : ℕ) (name : List ℕ) (kind : Option Kind) (role : Role) (is : ℕ) (c rest : Codec) (rows : List Row) → Tie levels is c
      → TieFields levels rows rest → TieFields levels ((Some tag, true, false, name, kind, role, is) ∷ rows) (codec.required tag c rest)
  required_tie levels tag name kind role is c rest rows t ts = record {
    into = λ fs e before x v.
        (let f = first_of field_row fs (Some tag, true, false, name, kind, role, is) rows e in
        subst (λ l. NotNot (OfFields levels schema l before (tlv tag (c.enc x.0) ++ rest.enc x.1))) (sym f.2)
        (first_into levels f.0 f.1 tag false is before c rest rows f.4 (is_in f.0 tag false name kind role is f.3) t ts x.0 x.1 v.0 v.1));
    from = λ fs e before o small h.
        (let f = first_of field_row fs (Some tag, true, false, name, kind, role, is) rows e in
        first_code levels f.0 f.1 tag is before o c rest rows f.4 t ts small
        (required_out schema kerberos levels f.0 f.1 tag is before o (is_in f.0 tag false name kind role is f.3)
        (subst (λ l. OfFields levels schema l before o) f.2 h)));
    never = λ other apart x v b. other_tag tag other (c.enc x.0) (rest.enc x.1) (differs tag other (and_first _ true apart)) b;
  }

  maybe_into : (levels : ℕ) (field : Field) (fs : List Field) (tag is : ℕ) (before : List ℕ) (c rest : Codec) (rows : List Row) → map field_row fs ≡ rows
      → IsIn field tag true is → Tie levels is c → TieFields levels rows rest → is_apart tag rows ≡ true → (m : Option c.value) (y : rest.value)
      → IfSome m c.valid → rest.valid y
      → NotNot (OfFields levels schema (field ∷ fs) before (optional (λ x. tlv tag (c.enc x)) m ++ rest.enc y))
  maybe_into levels field fs tag is before c rest rows e i t ts apart None y v w =
      mapped (λ h. absent_in schema kerberos levels field fs tag is before (rest.enc y) i (ts.never tag apart y w) h) (ts.into fs e before y w)
  maybe_into levels field fs tag is before c rest rows e i t ts apart (Some x) y v w =
      first_into levels field fs tag true is before c rest rows e i t ts x y v w

  maybe_code : (levels : ℕ) (fs : List Field) (tag is : ℕ) (before o : List ℕ) (c rest : Codec) (rows : List Row) → map field_row fs ≡ rows
      → TieFields levels rows rest → IsOctets o → IsCode (codec.required tag c rest) o ⊎ OfFields levels schema fs before o → IsCode (codec.maybe tag c rest) o
  maybe_code levels fs tag is before o c rest rows e ts small (inl h) = record { code = (Some h.code.0, h.code.1); valid = h.valid; are = h.are }
  maybe_code levels fs tag is before o c rest rows e ts small (inr h) =
      let b = ts.from fs e before o small h in record { code = (None, b.code); valid = (tt, b.valid); are = b.are }

  maybe_never : (tag other : ℕ) (c rest : Codec) → (tag ≡ other → ⊥) → ((y : rest.value) → rest.valid y → Begins (Some other) (rest.enc y) → ⊥) → (m : Option c.value)
      (y : rest.value) → rest.valid y → Begins (Some other) (optional (λ x. tlv tag (c.enc x)) m ++ rest.enc y) → ⊥
  maybe_never tag other c rest differ never None y w b = never y w b
  maybe_never tag other c rest differ never (Some x) y w b = other_tag tag other (c.enc x) (rest.enc y) differ b

  pub maybe_tie : (levels tag : ℕ) (name : List ℕ) (kind : Option Kind) (role : Role) (is : ℕ) (c rest : Codec) (rows : List Row) → is_apart tag rows ≡ true
      → Tie levels is c → TieFields levels rows rest → TieFields levels ((Some tag, true, true, name, kind, role, is) ∷ rows) (codec.maybe tag c rest)
  maybe_tie levels tag name kind role is c rest rows apart t ts = record {
    into = λ fs e before x v.
        (let f = first_of field_row fs (Some tag, true, true, name, kind, role, is) rows e in
        subst (λ l. NotNot (OfFields levels schema l before (optional (λ y. tlv tag (c.enc y)) x.0 ++ rest.enc x.1))) (sym f.2)
        (maybe_into levels f.0 f.1 tag is before c rest rows f.4 (is_in f.0 tag true name kind role is f.3) t ts apart x.0 x.1 v.0 v.1));
    from = λ fs e before o small h.
        (let f = first_of field_row fs (Some tag, true, true, name, kind, role, is) rows e in
        let w = optional_out schema kerberos levels f.0 f.1 tag is before o (is_in f.0 tag true name kind role is f.3)
        (subst (λ l. OfFields levels schema l before o) f.2 h) in
        maybe_code levels f.1 tag is before o c rest rows f.4 ts small
        (elim w [ inl p ↦ inl (first_code levels f.0 f.1 tag is before o c rest rows f.4 t ts small p) | inr r ↦ inr r ]));
    never = λ other apart_too x v b.
        maybe_never tag other c rest (differs tag other (and_first _ _ apart_too)) (λ y. ts.never other (and_second (if nat_eq tag other then false else true) _ apart_too) y) x.0 x.1 v.1 b;
  }

  -- ---- a SEQUENCE

  pub sequence_tie : (levels is tag start count : ℕ) (c : Codec) (rows : List Row) → slice_get shapes is ≡ Some (shape.Sequence tag start count)
      → start + count ≤ length fields → part start count fields ≡ rows → TieFields levels rows c → Tie (suc levels) is (codec.tagged tag c)
  sequence_tie levels is tag start count c rows at range of_rows t =
      let e = part_map field_row start count schema.fields.now ∙ ap (part start count) kerberos.parts ∙ of_rows in
      record {
        into = λ name before x v. mapped (λ h. sequence_in schema kerberos levels is tag start count name before (tlv tag (c.enc x)) (c.enc x) at
            (in_range schema start count kerberos range) h refl) (t.into (part start count schema.fields.now) e [] x v);
        from = λ name before o small h.
            (let w = sequence_out schema kerberos levels is tag start count name before o at h in
            let code = t.from (part start count schema.fields.now) e [] w.0 (octets_within tag w.0 (subst IsOctets w.2 small)) w.1 in
            record { code = code.code; valid = code.valid; are = w.2 ∙ ap (tlv tag) code.are });
      }

  -- ---- a SEQUENCE OF

  pub record OfElements (levels is : ℕ) (name : Name) (octets : List ℕ) : Type 0 where
    pub forest : Forest
    pub are : AreElements (IsElement levels schema is name []) forest
    pub octets_are : octets ≡ enc forest

  elements_into : (levels is : ℕ) (c : Codec) (name : Name) → Tie levels is c → (xs : List c.value) → AllByRecursion c.valid xs
      → NotNot (OfElements levels is name (flat_map c.enc xs))
  elements_into levels is c name t [] v = λ k. k (record { forest = none; are = no_elements; octets_are = refl })
  elements_into levels is c name t (x ∷ xs) v =
      both (λ one rest. record {
        forest = beside one.forest rest.forest;
        are = one_more one.forest rest.forest one.element rest.are;
        octets_are = ap (λ (o : List ℕ). o ++ flat_map c.enc xs) one.octets_are ∙ ap (λ (o : List ℕ). enc one.forest ++ o) rest.octets_are
            ∙ sym (enc_beside one.forest rest.forest);
      }) (t.into name [] x v.0) (elements_into levels is c name t xs v.1)

  record AreCodes (c : Codec) (o : List ℕ) : Type 0 where
    codes : List c.value
    valid : AllByRecursion c.valid codes
    are : o ≡ flat_map c.enc codes

  elements_from : (levels is : ℕ) (c : Codec) (name : Name) → Tie levels is c → (f : Forest) → AreElements (IsElement levels schema is name []) f
      → (o : List ℕ) → IsOctets o → o ≡ enc f → AreCodes c o
  elements_from levels is c name t f no_elements o small e = record { codes = []; valid = tt; are = e }
  elements_from levels is c name t f (one_more a b r rs) o small e =
      let whole = e ∙ enc_beside a b in
      let octets = subst IsOctets whole small in
      let x = t.from name [] (enc a) (octets_left (enc a) (enc b) octets) (record { forest = a; element = r; octets_are = refl }) in
      let xs = elements_from levels is c name t b rs (enc b) (octets_right (enc a) (enc b) octets) refl in
      record {
        codes = x.code ∷ xs.codes;
        valid = (x.valid, xs.valid);
        are = whole ∙ ap (λ (o : List ℕ). o ++ enc b) x.are ∙ ap (λ (o : List ℕ). c.enc x.code ++ o) xs.are;
      }

  pub list_tie : (levels is inside : ℕ) (filled : Bool) (c : Codec) → slice_get shapes is ≡ Some (shape.SequenceOf 48 inside filled) → Tie levels inside c
      → Tie (suc levels) is (codec.sequence_of c)
  list_tie levels is inside filled c at t = record {
    into = λ name before x v. mapped (λ h. record {
      forest = node (list_node filled) name 48 h.forest none;
      element = (shape.SequenceOf 48 inside filled, shape_at schema is (shape.SequenceOf 48 inside filled) kerberos at, (h.forest, h.are, refl));
      octets_are = ap (tlv 48) h.octets_are ∙ sym (append-nil (tlv 48 (enc h.forest)));
    }) (elements_into levels inside c name t x v);
    from = λ name before o small h.
        (let p = shape_of schema is h.element.0 (shape.SequenceOf 48 inside filled) kerberos at h.element.1 in
        let w = subst (λ (s : Shape). IsShaped (IsElement levels schema) schema s name before h.forest) p h.element.2 in
        let e = h.octets_are ∙ ap enc w.2 ∙ append-nil (tlv 48 (enc w.0)) in
        let xs = elements_from levels inside c name t w.0 w.1 (enc w.0) (octets_within 48 (enc w.0) (subst IsOctets e small)) refl in
        record { code = xs.codes; valid = xs.valid; are = e ∙ ap (tlv 48) xs.are });
  }

  -- ---- an OCTET STRING that may hold an element

  held_octets : (levels : ℕ) (name : Name) (before content : List ℕ) (cs : List Case) (f : Forest)
      → IsHeld (IsElement levels schema) name before content cs f → enc f ≡ tlv 4 content
  held_octets levels name before content cs f (here case _ inside applies right e) = append-nil (tlv 4 (enc inside)) ∙ ap (tlv 4) (sym e)
  held_octets levels name before content cs f (later case rest _ none_fits h) = held_octets levels name before content rest f h
  held_octets levels name before content cs f plain = append-nil (tlv 4 content)

  record Held (levels : ℕ) (name : Name) (before content : List ℕ) (cs : List Case) : Type 0 where
    forest : Forest
    is_held : IsHeld (IsElement levels schema) name before content cs forest

  record Fits (levels : ℕ) (name : Name) (before content : List ℕ) (case : Case) : Type 0 where
    inside : Forest
    applies : Applies case before
    right : IsElement levels schema case.is (called case name) [] inside
    octets_are : content ≡ enc inside

  held_into : (levels : ℕ) (name : Name) (before content : List ℕ) (cs : List Case) → NotNot (Held levels name before content cs)
  held_into levels name before content [] = λ k. k (record { forest = leaf leaves.Octets name 4 content none; is_held = plain })
  held_into levels name before content (case ∷ cs) = λ k.
      let first : Fits levels name before content case → ⊥ = λ w. k (record {
        forest = node nodes.Wrap name 4 w.inside none;
        is_held = here case cs w.inside w.applies w.right w.octets_are;
      }) in
      held_into levels name before content cs (λ h. k (record {
        forest = h.forest;
        is_held = later case cs h.forest
            (λ applies f right e. first (record { inside = f; applies = applies; right = right; octets_are = e })) h.is_held;
      }))

  pub holding_tie : (levels is start count : ℕ) → slice_get shapes is ≡ Some (shape.Holding start count) → start + count ≤ length cases
      → Tie (suc levels) is codec.octets
  holding_tie levels is start count at range = record {
    into = λ name before x v. mapped (λ h. record {
      forest = h.forest;
      element = (shape.Holding start count, shape_at schema is (shape.Holding start count) kerberos at, (x, cases_in start count range, h.is_held));
      octets_are = sym (held_octets levels name before x (part start count schema.cases.now) h.forest h.is_held);
    }) (held_into levels name before x (part start count schema.cases.now));
    from = λ name before o small h.
        (let p = shape_of schema is h.element.0 (shape.Holding start count) kerberos at h.element.1 in
        let w = subst (λ (s : Shape). IsShaped (IsElement levels schema) schema s name before h.forest) p h.element.2 in
        let e = h.octets_are ∙ held_octets levels name before w.0 (part start count schema.cases.now) h.forest w.2 in
        record { code = w.0; valid = octets_within 4 w.0 (subst IsOctets e small); are = e });
  }
    where
      cases_in : (start count : ℕ) → start + count ≤ length cases → IsRange start count schema.cases.now
      cases_in start count r = subst (λ (n : ℕ). start + count ≤ n) (sym (ap length kerberos.held) ∙ length-map schema.cases.now case_row) r

  -- ---- leaves by their kinds

  pub integer_tie : (levels is : ℕ) → slice_get shapes is ≡ Some (shape.Leaf 2 leaves.Integer) → Tie (suc levels) is codec.integer
  integer_tie levels is at = leaf_tie levels is 2 leaves.Integer codec.integer at
      (λ x v. record { content = shortest x; is_leaf = (x, tt, refl); octets_are = refl })
      (λ o small h. record { code = h.is_leaf.0; valid = tt; are = h.octets_are ∙ h.is_leaf.2 })

  pub number_tie : (levels is n : ℕ) → slice_get shapes is ≡ Some (shape.Leaf 2 (leaves.Number n)) → Tie (suc levels) is codec.integer
  number_tie levels is n at = leaf_tie levels is 2 (leaves.Number n) codec.integer at
      (λ x v. record { content = shortest x; is_leaf = (x, tt, refl); octets_are = refl })
      (λ o small h. record { code = h.is_leaf.0; valid = tt; are = h.octets_are ∙ h.is_leaf.2 })

  pub microseconds_tie : (levels is : ℕ) → slice_get shapes is ≡ Some (shape.Leaf 2 leaves.Microseconds) → Tie (suc levels) is codec.integer
  microseconds_tie levels is at = leaf_tie levels is 2 leaves.Microseconds codec.integer at
      (λ x v. record { content = shortest x; is_leaf = (x, tt, refl); octets_are = refl })
      (λ o small h. record { code = h.is_leaf.0; valid = tt; are = h.octets_are ∙ h.is_leaf.2 })

  pub flags_tie : (levels is : ℕ) → slice_get shapes is ≡ Some (shape.Leaf 3 leaves.Flags) → Tie (suc levels) is codec.bits
  flags_tie levels is at = leaf_tie levels is 3 leaves.Flags codec.bits at
      (λ x v. record { content = bits_content x; is_leaf = (x, v, refl); octets_are = refl })
      (λ o small h. record { code = h.is_leaf.0; valid = h.is_leaf.1; are = h.octets_are ∙ h.is_leaf.2 })

  pub bits_tie : (levels is : ℕ) → slice_get shapes is ≡ Some (shape.Leaf 3 leaves.Bits) → Tie (suc levels) is codec.bits
  bits_tie levels is at = leaf_tie levels is 3 leaves.Bits codec.bits at
      (λ x v. record { content = bits_content x; is_leaf = (x, v, refl); octets_are = refl })
      (λ o small h. record { code = h.is_leaf.0; valid = h.is_leaf.1; are = h.octets_are ∙ h.is_leaf.2 })

  pub time_tie : (levels is : ℕ) → slice_get shapes is ≡ Some (shape.Leaf 24 leaves.Time) → Tie (suc levels) is codec.time
  time_tie levels is at = leaf_tie levels is 24 leaves.Time codec.time at
      (λ x v. record { content = time_content x; is_leaf = (x, v, refl); octets_are = refl })
      (λ o small h. record { code = h.is_leaf.0; valid = h.is_leaf.1; are = h.octets_are ∙ h.is_leaf.2 })

  pub text_tie : (levels is : ℕ) → slice_get shapes is ≡ Some (shape.Leaf 27 leaves.Text) → Tie (suc levels) is codec.text
  text_tie levels is at = leaf_tie levels is 27 leaves.Text codec.text at
      (λ x v. record { content = x; is_leaf = (x, v, refl); octets_are = refl })
      (λ o small h. record { code = h.is_leaf.0; valid = h.is_leaf.1; are = h.octets_are ∙ h.is_leaf.2 })

  pub component_tie : (levels is : ℕ) → slice_get shapes is ≡ Some (shape.Leaf 27 leaves.Component) → Tie (suc levels) is codec.text
  component_tie levels is at = leaf_tie levels is 27 leaves.Component codec.text at
      (λ x v. record { content = x; is_leaf = (x, v, refl); octets_are = refl })
      (λ o small h. record { code = h.is_leaf.0; valid = h.is_leaf.1; are = h.octets_are ∙ h.is_leaf.2 })

  octets_code : (kind : Leaf) (o : List ℕ) → IsOctets o → LeafOf kind 4 o → IsCode codec.octets o
  octets_code kind o small h = record { code = h.content; valid = octets_within 4 h.content (subst IsOctets h.octets_are small); are = h.octets_are }

  pub octets_tie : (levels is : ℕ) → slice_get shapes is ≡ Some (shape.Leaf 4 leaves.Octets) → Tie (suc levels) is codec.octets
  octets_tie levels is at = leaf_tie levels is 4 leaves.Octets codec.octets at (λ x v. record { content = x; is_leaf = tt; octets_are = refl }) (octets_code leaves.Octets)

  pub secret_tie : (levels is : ℕ) → slice_get shapes is ≡ Some (shape.Leaf 4 leaves.Secret) → Tie (suc levels) is codec.octets
  secret_tie levels is at = leaf_tie levels is 4 leaves.Secret codec.octets at (λ x v. record { content = x; is_leaf = tt; octets_are = refl }) (octets_code leaves.Secret)

  pub cipher_tie : (levels is : ℕ) → slice_get shapes is ≡ Some (shape.Leaf 4 leaves.Cipher) → Tie (suc levels) is codec.octets
  cipher_tie levels is at = leaf_tie levels is 4 leaves.Cipher codec.octets at (λ x v. record { content = x; is_leaf = tt; octets_are = refl }) (octets_code leaves.Cipher)

  pub truth_tie : (levels is : ℕ) → slice_get shapes is ≡ Some (shape.Leaf 1 leaves.Truth) → Tie (suc levels) is codec.truth
  truth_tie levels is at = leaf_tie levels is 1 leaves.Truth codec.truth at
      (λ x v. record { content = bool_content x; is_leaf = (x, tt, refl); octets_are = refl })
      (λ o small h. record { code = h.is_leaf.0; valid = tt; are = h.octets_are ∙ h.is_leaf.2 })

  pub unsigned_tie : (levels is : ℕ) → slice_get shapes is ≡ Some (shape.Leaf 2 leaves.Unsigned) → Tie (suc levels) is codec.unsigned
  unsigned_tie levels is at = leaf_tie levels is 2 leaves.Unsigned codec.unsigned at
      (λ x v. record { content = shortest (pos x); is_leaf = (x, v, refl); octets_are = refl })
      (λ o small h. record { code = h.is_leaf.0; valid = h.is_leaf.1; are = h.octets_are ∙ h.is_leaf.2 })

  -- ---- values of another type

  pub coded_tie : {A : Type 0} (levels is : ℕ) (c : Codec) (to : A → c.value) (of : c.value → A) → ((x : c.value) → to (of x) ≡ x) → Tie levels is c
      → Tie levels is (codec.coded c to)
  coded_tie levels is c to of back t = record {
    into = λ name before x v. t.into name before (to x) v;
    from = λ name before o small h.
        (let w = t.from name before o small h in
        record { code = of w.code; valid = subst c.valid (sym (back w.code)) w.valid; are = w.are ∙ ap c.enc (sym (back w.code)) });
  }
