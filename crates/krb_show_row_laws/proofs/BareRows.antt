-- Fields by themselves, in no tag of their own: their rows and codecs.
use Rattle.std.proofs.Common.{◌≡◌, ◌⊎◌, inl, inr, ℕ, suc, ◌==◌, if◌then◌else◌, nat_eq, refl, sym, ap, subst, ◌∙◌, arith, Bool, true, false, Option, None, Some, List, [], ◌∷◌, ◌++◌, map, get_or}
use Rattle.std.specs.List.{slice_get}
use Rattle.std.specs.Option.{IfSome}
use Rattle.std.proofs.lemmas.List.{append-nil}
use Rattle.std.proofs.lemmas.Grind.{common_steps}
use Rattle.krb_registry.specs.declared.kind.Kind.{Kind}
use Rattle.krb_der_core.specs.Encoding.{IsOctets, optional}
use Rattle.krb_der_core.specs.Tlv.{tlv}
use Rattle.krb_schema.specs.declared.shape.Field.{Field}
use Rattle.krb_schema.specs.declared.shape.Leaf.TheVariants as leaves
use Rattle.krb_schema.specs.declared.shape.Role.{Role}
use Rattle.krb_schema.specs.declared.shape.Schema.{Schema}
use Rattle.krb_schema.specs.declared.shape.Shape.TheVariants as shape
use Rattle.krb_schema.specs.Forests.{Forest, none, leaf, beside, enc}
use Rattle.krb_schema.specs.Named.{IsKerberos, field_row}
use Rattle.krb_schema.specs.Shapes.{AreFields, Begins, IsElement, IsShaped, absent, bare, wrapped}
use Rattle.krb_schema.specs.Types.{shapes}
use Rattle.krb_show_row_laws.proofs.Codecs.{Codec}
use Rattle.krb_show_row_laws.proofs.Codecs as codec
use Rattle.krb_show_row_laws.proofs.CodecRows.{IsCode, NotNot, Tie, TieFields, and_first, and_second, both, differs, enc_beside, is_apart, leaf_tie, mapped, nothing_begins}
use Rattle.krb_show_row_laws.proofs.ForestLaws.{octets_left, octets_right, octets_within}
use Rattle.krb_show_row_laws.proofs.RowFields.{OfFields, OfRow, Row, first_of, shape_at, shape_of}

-- ---- how elements begin

-- each encoding begins as an element under this tag
abbrev pub Starts : Option ℕ → Codec → Type 0
Starts tag c = (x : c.value) → c.valid x → Begins tag (c.enc x)

pub tlv_begins : (tag : ℕ) (content : List ℕ) → Begins (Some tag) (tlv tag content)
unfolding tlv
tlv_begins tag content = (tag, _, refl, itself tag)
  where
    itself : (n : ℕ) → (n == n) ≡ true
    itself n = grind (arith, common_steps)

pub any_begins : Starts None codec.any
unfolding tlv
any_begins x v = (v.tag, _, v.whole, v.begins)

begins_before : (tag : Option ℕ) (a b : List ℕ) → Begins tag a → Begins tag (a ++ b)
begins_before tag a b h = (h.0, h.1 ++ b, ap (λ (o : List ℕ). o ++ b) h.2, h.3)

apart_tags : (tag other : ℕ) (o : List ℕ) → (tag ≡ other → ⊥) → Begins (Some tag) o → Begins (Some other) o → ⊥
apart_tags tag other o differ a b = differ (sym (same a.0 tag a.3) ∙ ap (λ (l : List ℕ). get_or l 0 0) (sym a.2 ∙ b.2) ∙ same b.0 other b.3)
  where
    same : (m n : ℕ) → (m == n) ≡ true → m ≡ n
    same m n e = grind (arith, common_steps)

-- ---- a field by itself, of this row

pub record IsBare (field : Field) (tag : Option ℕ) (optional : Bool) (is : ℕ) : Type 0 where
  pub in_tag : field.tag ≡ tag
  pub no_wrap : field.wrapped ≡ false
  pub may_be : field.optional ≡ optional
  pub of_row : field.is ≡ is

pub is_bare : (field : Field) (tag : Option ℕ) (optional : Bool) (text : List ℕ) (kind : Option Kind) (role : Role) (is : ℕ)
    → field_row field ≡ (tag, false, optional, text, kind, role, is) → IsBare field tag optional is
is_bare field tag optional text kind role is e =
    record { in_tag = ap (λ (r : Row). r.0) e; no_wrap = ap (λ (r : Row). r.1) e; may_be = ap (λ (r : Row). r.2) e; of_row = ap (λ (r : Row). r.6) e }

clash : (b : Bool) → b ≡ true → b ≡ false → ⊥
clash b e f = cc

module _ (schema : Schema) (kerberos : IsKerberos schema) where
  -- an element, and the fields behind it
  record Front (levels : ℕ) (field : Field) (fields : List Field) (is : ℕ) (before octets : List ℕ) : Type 0 where
    front : List ℕ
    rest : List ℕ
    right : OfRow levels schema is field.name before front
    behind : OfFields levels schema fields front rest
    octets_are : octets ≡ front ++ rest

  front_by : (levels : ℕ) (field : Field) (fields : List Field) (tag : Option ℕ) (optional : Bool) (is : ℕ) (before octets : List ℕ) (element rest : Forest)
      → IsBare field tag optional is → IsElement levels schema field.is field.name before element → AreFields (IsElement levels schema) fields (enc element) rest
      → octets ≡ enc (beside element rest) → Front levels field fields is before octets
  front_by levels field fields tag optional is before octets element rest i right behind e = record {
    front = enc element;
    rest = enc rest;
    right = record { forest = element; element = subst (λ (n : ℕ). IsElement levels schema n field.name before element) i.of_row right; octets_are = refl };
    behind = record { forest = rest; are = behind; octets_are = refl };
    octets_are = e ∙ enc_beside element rest;
  }

  bare_out : (levels : ℕ) (field : Field) (fields : List Field) (tag : Option ℕ) (is : ℕ) (before octets : List ℕ) → IsBare field tag false is
      → OfFields levels schema (field ∷ fields) before octets → Front levels field fields is before octets
  bare_out levels field fields tag is before octets i h = by_case h.forest h.are h.octets_are
    where
      by_case : (f : Forest) → AreFields (IsElement levels schema) (field ∷ fields) before f → octets ≡ enc f → Front levels field fields is before octets
      by_case f (absent _ _ _ rest o b r) e = absurd (clash field.optional o i.may_be)
      by_case f (wrapped _ _ _ t inside rest w first right behind) e = absurd (clash field.wrapped w i.no_wrap)
      by_case f (bare _ _ _ element rest w b right behind) e = front_by levels field fields tag false is before octets element rest i right behind e

  maybe_bare_out : (levels : ℕ) (field : Field) (fields : List Field) (tag : Option ℕ) (is : ℕ) (before octets : List ℕ) → IsBare field tag true is
      → OfFields levels schema (field ∷ fields) before octets → Front levels field fields is before octets ⊎ OfFields levels schema fields before octets
  maybe_bare_out levels field fields tag is before octets i h = by_case h.forest h.are h.octets_are
    where
      by_case : (f : Forest) → AreFields (IsElement levels schema) (field ∷ fields) before f → octets ≡ enc f
          → Front levels field fields is before octets ⊎ OfFields levels schema fields before octets
      by_case f (absent _ _ _ rest o b r) e = inr (record { forest = rest; are = r; octets_are = e })
      by_case f (wrapped _ _ _ t inside rest w first right behind) e = absurd (clash field.wrapped w i.no_wrap)
      by_case f (bare _ _ _ element rest w b right behind) e = inl (front_by levels field fields tag true is before octets element rest i right behind e)

  bare_in : (levels : ℕ) (field : Field) (fields : List Field) (tag : Option ℕ) (optional : Bool) (is : ℕ) (before octets : List ℕ) → IsBare field tag optional is
      → (h : Front levels field fields is before octets) → Begins tag h.front → OfFields levels schema (field ∷ fields) before octets
  bare_in levels field fields tag optional is before octets i h b = record {
    forest = beside h.right.forest h.behind.forest;
    are = bare field fields before h.right.forest h.behind.forest i.no_wrap
        (subst (λ (o : Option ℕ). Begins o (enc h.right.forest)) (sym i.in_tag) (subst (Begins tag) h.right.octets_are b))
        (subst (λ (n : ℕ). IsElement levels schema n field.name before h.right.forest) (sym i.of_row) h.right.element)
        (subst (λ (o : List ℕ). AreFields (IsElement levels schema) fields o h.behind.forest) h.right.octets_are h.behind.are);
    octets_are = h.octets_are ∙ ap (λ (o : List ℕ). o ++ h.rest) h.right.octets_are ∙ ap (λ (o : List ℕ). enc h.right.forest ++ o) h.behind.octets_are
        ∙ sym (enc_beside h.right.forest h.behind.forest);
  }

  bare_absent : (levels : ℕ) (field : Field) (fields : List Field) (tag : Option ℕ) (is : ℕ) (before octets : List ℕ) → IsBare field tag true is
      → (Begins tag octets → ⊥) → OfFields levels schema fields before octets → OfFields levels schema (field ∷ fields) before octets
  bare_absent levels field fields tag is before octets i away h = record {
    forest = h.forest;
    are = absent field fields before h.forest i.may_be
        (λ b. away (subst (Begins tag) (sym h.octets_are) (subst (λ (o : Option ℕ). Begins o (enc h.forest)) i.in_tag b))) h.are;
    octets_are = h.octets_are;
  }

  -- ---- with codecs

  front_code : (levels : ℕ) (field : Field) (fs : List Field) (is : ℕ) (before o : List ℕ) (c rest : Codec) (rows : List Row) → map field_row fs ≡ rows
      → Tie schema kerberos levels is c → TieFields schema kerberos levels rows rest → IsOctets o → Front levels field fs is before o → IsCode (codec.bare c rest) o
  front_code levels field fs is before o c rest rows e t ts small h =
      let whole = subst IsOctets h.octets_are small in
      let a = t.from field.name before h.front (octets_left h.front h.rest whole) h.right in
      let b = ts.from fs e h.front h.rest (octets_right h.front h.rest whole) h.behind in
      record {
        code = (a.code, b.code);
        valid = (a.valid, b.valid);
        are = h.octets_are ∙ ap (λ (x : List ℕ). x ++ h.rest) a.are ∙ ap (λ (x : List ℕ). c.enc a.code ++ x) b.are;
      }

  front_into : (levels : ℕ) (field : Field) (fs : List Field) (tag : Option ℕ) (optional : Bool) (is : ℕ) (before : List ℕ) (c rest : Codec) (rows : List Row)
      → map field_row fs ≡ rows → IsBare field tag optional is → Starts tag c → Tie schema kerberos levels is c → TieFields schema kerberos levels rows rest
      → (x : c.value) (y : rest.value) → c.valid x → rest.valid y → NotNot (OfFields levels schema (field ∷ fs) before (c.enc x ++ rest.enc y))
  front_into levels field fs tag optional is before c rest rows e i starts t ts x y v w =
      both (λ right behind. bare_in levels field fs tag optional is before (c.enc x ++ rest.enc y) i (record {
        front = c.enc x;
        rest = rest.enc y;
        right = right;
        behind = behind;
        octets_are = refl;
      }) (starts x v)) (t.into field.name before x v) (ts.into fs e (c.enc x) y w)

  pub bare_tie : (levels tag : ℕ) (name : List ℕ) (kind : Option Kind) (role : Role) (is : ℕ) (c rest : Codec) (rows : List Row) → Starts (Some tag) c
      → Tie schema kerberos levels is c → TieFields schema kerberos levels rows rest
      → TieFields schema kerberos levels ((Some tag, false, false, name, kind, role, is) ∷ rows) (codec.bare c rest)
  bare_tie levels tag name kind role is c rest rows starts t ts = record {
    into = λ fs e before x v.
        (let f = first_of field_row fs (Some tag, false, false, name, kind, role, is) rows e in
        subst (λ l. NotNot (OfFields levels schema l before (c.enc x.0 ++ rest.enc x.1))) (sym f.2)
        (front_into levels f.0 f.1 (Some tag) false is before c rest rows f.4 (is_bare f.0 (Some tag) false name kind role is f.3) starts t ts x.0 x.1 v.0 v.1));
    from = λ fs e before o small h.
        (let f = first_of field_row fs (Some tag, false, false, name, kind, role, is) rows e in
        front_code levels f.0 f.1 is before o c rest rows f.4 t ts small
        (bare_out levels f.0 f.1 (Some tag) is before o (is_bare f.0 (Some tag) false name kind role is f.3)
        (subst (λ l. OfFields levels schema l before o) f.2 h)));
    never = λ other apart x v b.
        apart_tags tag other (c.enc x.0 ++ rest.enc x.1) (differs tag other (and_first _ true apart)) (begins_before (Some tag) (c.enc x.0) (rest.enc x.1) (starts x.0 v.0)) b;
  }

  maybe_bare_into : (levels : ℕ) (field : Field) (fs : List Field) (tag : Option ℕ) (is : ℕ) (before : List ℕ) (c rest : Codec) (rows : List Row)
      → map field_row fs ≡ rows → IsBare field tag true is → Starts tag c → Tie schema kerberos levels is c → TieFields schema kerberos levels rows rest
      → ((y : rest.value) → rest.valid y → Begins tag (rest.enc y) → ⊥) → (m : Option c.value) (y : rest.value)
      → IfSome m c.valid → rest.valid y → NotNot (OfFields levels schema (field ∷ fs) before (optional c.enc m ++ rest.enc y))
  maybe_bare_into levels field fs tag is before c rest rows e i starts t ts away None y v w =
      mapped (λ h. bare_absent levels field fs tag is before (rest.enc y) i (away y w) h) (ts.into fs e before y w)
  maybe_bare_into levels field fs tag is before c rest rows e i starts t ts away (Some x) y v w =
      front_into levels field fs tag true is before c rest rows e i starts t ts x y v w

  maybe_bare_code : (levels : ℕ) (fs : List Field) (before o : List ℕ) (c rest : Codec) (rows : List Row) → map field_row fs ≡ rows
      → TieFields schema kerberos levels rows rest → IsOctets o → IsCode (codec.bare c rest) o ⊎ OfFields levels schema fs before o → IsCode (codec.maybe_bare c rest) o
  maybe_bare_code levels fs before o c rest rows e ts small (inl h) = record { code = (Some h.code.0, h.code.1); valid = (h.valid.0, h.valid.1); are = h.are }
  maybe_bare_code levels fs before o c rest rows e ts small (inr h) =
      let b = ts.from fs e before o small h in
      record { code = (None, b.code); valid = (tt, b.valid); are = b.are }

  maybe_bare_from : (levels : ℕ) (tag : Option ℕ) (name : List ℕ) (kind : Option Kind) (role : Role) (is : ℕ) (c rest : Codec) (rows : List Row)
      → Tie schema kerberos levels is c → TieFields schema kerberos levels rows rest
      → (fs : List Field) → map field_row fs ≡ (tag, false, true, name, kind, role, is) ∷ rows → (before o : List ℕ) → IsOctets o → OfFields levels schema fs before o
      → IsCode (codec.maybe_bare c rest) o
  maybe_bare_from levels tag name kind role is c rest rows t ts fs e before o small h =
      let f = first_of field_row fs (tag, false, true, name, kind, role, is) rows e in
      let w = maybe_bare_out levels f.0 f.1 tag is before o (is_bare f.0 tag true name kind role is f.3) (subst (λ l. OfFields levels schema l before o) f.2 h) in
      maybe_bare_code levels f.1 before o c rest rows f.4 ts small
      (elim w [ inl p ↦ inl (front_code levels f.0 f.1 is before o c rest rows f.4 t ts small p) | inr r ↦ inr r ])

  maybe_bare_never : (tag other : ℕ) (c rest : Codec) → (tag ≡ other → ⊥) → Starts (Some tag) c → ((y : rest.value) → rest.valid y → Begins (Some other) (rest.enc y) → ⊥)
      → (m : Option c.value) (y : rest.value) → IfSome m c.valid → rest.valid y → Begins (Some other) (optional c.enc m ++ rest.enc y) → ⊥
  maybe_bare_never tag other c rest differ starts never None y v w b = never y w b
  maybe_bare_never tag other c rest differ starts never (Some x) y v w b =
      apart_tags tag other (c.enc x ++ rest.enc y) differ (begins_before (Some tag) (c.enc x) (rest.enc y) (starts x v)) b

  pub maybe_bare_tie : (levels tag : ℕ) (name : List ℕ) (kind : Option Kind) (role : Role) (is : ℕ) (c rest : Codec) (rows : List Row) → is_apart tag rows ≡ true
      → Starts (Some tag) c → Tie schema kerberos levels is c → TieFields schema kerberos levels rows rest
      → TieFields schema kerberos levels ((Some tag, false, true, name, kind, role, is) ∷ rows) (codec.maybe_bare c rest)
  maybe_bare_tie levels tag name kind role is c rest rows apart starts t ts = record {
    into = λ fs e before x v.
        (let f = first_of field_row fs (Some tag, false, true, name, kind, role, is) rows e in
        subst (λ l. NotNot (OfFields levels schema l before (optional c.enc x.0 ++ rest.enc x.1))) (sym f.2)
        (maybe_bare_into levels f.0 f.1 (Some tag) is before c rest rows f.4 (is_bare f.0 (Some tag) true name kind role is f.3) starts t ts
        (ts.never tag apart) x.0 x.1 v.0 v.1));
    from = maybe_bare_from levels (Some tag) name kind role is c rest rows t ts;
    never = λ other apart_too x v b.
        maybe_bare_never tag other c rest (differs tag other (and_first _ _ apart_too)) starts
        (ts.never other (and_second (if nat_eq tag other then false else true) _ apart_too)) x.0 x.1 v.0 v.1 b;
  }

  -- ---- any element, as the last field

  pub last_any_tie : (levels : ℕ) (name : List ℕ) (kind : Option Kind) (role : Role) (is : ℕ) (c : Codec) → Starts None c
      → Tie schema kerberos levels is c → TieFields schema kerberos levels [] codec.end
      → TieFields schema kerberos levels ((None, false, true, name, kind, role, is) ∷ []) (codec.maybe_bare c codec.end)
  last_any_tie levels name kind role is c starts t ts = record {
    into = λ fs e before x v.
        (let f = first_of field_row fs (None, false, true, name, kind, role, is) [] e in
        subst (λ l. NotNot (OfFields levels schema l before (optional c.enc x.0 ++ []))) (sym f.2)
        (maybe_bare_into levels f.0 f.1 None is before c codec.end [] f.4 (is_bare f.0 None true name kind role is f.3) starts t ts
        (λ y w. nothing_begins None) x.0 x.1 v.0 v.1));
    from = maybe_bare_from levels None name kind role is c codec.end [] t ts;
    never = λ other apart x v b. absurd (not_apart apart);
  }
    where
      not_apart : false ≡ true → ⊥
      not_apart e = cc

  -- ---- elements

  pub any_tie : (levels is : ℕ) → slice_get shapes is ≡ Some shape.Any → Tie schema kerberos (suc levels) is codec.any
  any_tie levels is at = record {
    into = λ name before x v k. k (record {
      forest = leaf leaves.Any name v.tag v.content none;
      element = (shape.Any, shape_at schema is shape.Any kerberos at, (v.tag, v.content, v.begins, refl));
      octets_are = v.whole ∙ sym (append-nil (tlv v.tag v.content));
    });
    from = λ name before o small h.
        (let p = shape_of schema is h.element.0 shape.Any kerberos at h.element.1 in
        let w = subst (λ (s : _). IsShaped (IsElement levels schema) schema s name before h.forest) p h.element.2 in
        let e = h.octets_are ∙ ap enc w.3 ∙ append-nil (tlv w.0 w.1) in
        record { code = o; valid = record { tag = w.0; content = w.1; whole = e; begins = w.2 }; are = refl });
  }

  pub identifier_tie : (levels is : ℕ) → slice_get shapes is ≡ Some (shape.Leaf 6 leaves.Identifier) → Tie schema kerberos (suc levels) is codec.identifier
  identifier_tie levels is at = leaf_tie schema kerberos levels is 6 leaves.Identifier codec.identifier at
      (λ x v. record { content = _; is_leaf = (x, v, refl); octets_are = refl })
      (λ o small h. record { code = h.is_leaf.0; valid = h.is_leaf.1; are = h.octets_are ∙ h.is_leaf.2 })

  pub octets_under_tie : (levels is tag : ℕ) → slice_get shapes is ≡ Some (shape.Leaf tag leaves.Octets) → Tie schema kerberos (suc levels) is (codec.octets_under tag)
  octets_under_tie levels is tag at = leaf_tie schema kerberos levels is tag leaves.Octets (codec.octets_under tag) at
      (λ x v. record { content = x; is_leaf = tt; octets_are = refl })
      (λ o small h. record { code = h.content; valid = octets_within tag h.content (subst IsOctets h.octets_are small); are = h.octets_are })
