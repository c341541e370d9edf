-- Fields of rows, and of readers: the first fault is the first error of these fields, or that of the fields behind them.
use Rattle.std.proofs.Common.{◌≡◌, ◌⊎◌, inl, inr, ℕ, suc, ◌+◌, ◌≤◌, ◌==◌, refl, sym, ap, subst, ◌∙◌, Bool, true, false, Option, None, Some, List, [], ◌∷◌, ◌++◌, length, map}
use Rattle.std.specs.List.{slice_get}
use Rattle.std.proofs.lemmas.List.{append_assoc}
use Rattle.krb_registry.specs.declared.kind.Kind.{Kind}
use Rattle.krb_der_core.specs.declared.error.Asn1DerError.{Asn1DerError}
use Rattle.krb_der_core.specs.declared.error.Asn1DerError.TheVariants as errors
use Rattle.krb_der_core.specs.Errors.{PrefixError, TaggedError, WholeError, at_start, in_content, wrong_content}
use Rattle.krb_der_core.specs.Errors.{left_over as over}
use Rattle.krb_der_core.specs.Tlv.{tlv}
use Rattle.krb_der.specs.FieldErrors.{IsAbsent, IsBegun, in_left, in_right}
use Rattle.krb_schema.specs.declared.item.Fault.{Fault}
use Rattle.krb_schema.specs.declared.item.Fault.TheVariants as faults
use Rattle.krb_schema.specs.declared.shape.Field.{Field}
use Rattle.krb_schema.specs.declared.shape.Name.{Name}
use Rattle.krb_schema.specs.declared.shape.Role.{Role}
use Rattle.krb_schema.specs.declared.shape.Schema.{Schema}
use Rattle.krb_schema.specs.declared.shape.Shape.TheVariants as shape
use Rattle.krb_schema.specs.Faults.{IsContentFault, IsFault, IsFieldsFault}
use Rattle.krb_schema.specs.Faults.{behind_absent, behind_bare, behind_wrapped, in_bare, in_tag, in_wrapped, some_over}
use Rattle.krb_schema.specs.Forests.{enc}
use Rattle.krb_schema.specs.Named.{IsKerberos, field_row}
use Rattle.krb_schema.specs.Shapes.{Begins, IsElement, is_first, part}
use Rattle.krb_schema.specs.Types.{fields, shapes}
use Rattle.krb_show_row_laws.proofs.BareRows.{IsBare, is_bare}
use Rattle.krb_show_row_laws.proofs.CodecRows.{Tie}
use Rattle.krb_show_row_laws.proofs.Codecs.{Codec}
use Rattle.krb_show_row_laws.proofs.Readers.{Fields, Reader, whole_error}
use Rattle.krb_show_row_laws.proofs.Readers as reader
use Rattle.krb_show_row_laws.proofs.RowFields.{IsIn, Row, first_of, in_range, is_in, last_of, part_map}
use Rattle.krb_show_row_laws.proofs.FaultRows.{FaultTie, IsErrorAs, IsInput, as_other, element_refused, explicit_within, header_as, input_front, input_rest, input_within, refused_as, same, some_left}

-- ---- beginnings

clash : (b : Bool) → b ≡ true → b ≡ false → ⊥
clash b e f = cc

begun : (first : ℕ → Bool) (o : List ℕ) (t : ℕ) (rest : List ℕ) → o ≡ t ∷ rest → first t ≡ true → IsBegun first o
begun first o t rest e f = subst (IsBegun first) (sym e) f

begun_with : (first : ℕ → Bool) (o : List ℕ) (t : ℕ) (content rest : List ℕ) → o ≡ tlv t content ++ rest → first t ≡ true → IsBegun first o
unfolding tlv
begun_with first o t content rest e f = begun first o t _ e f

absent_or : (tag : Option ℕ) (first : ℕ → Bool) (o : List ℕ) → ((t : ℕ) → is_first tag t ≡ first t) → (Begins tag o → ⊥) → IsAbsent first o
absent_or tag first [] e away = tt
absent_or tag first (t ∷ rest) e away = none_is (first t) (λ f. away (t, rest, refl, e t ∙ f))
  where
    none_is : (b : Bool) → (b ≡ true → ⊥) → b ≡ false
    none_is true h = absurd (h refl)
    none_is false h = refl

module _ (schema : Schema) (kerberos : IsKerberos schema) where
  -- ---- faults of fields

  abbrev FieldsFault : ℕ → List Field → List ℕ → ℕ → List ℕ → Fault → Type 0
  FieldsFault levels = IsFieldsFault (IsElement levels schema) (IsFault levels schema)

  -- fields stand at the start, and the fault is that of those behind them, of these rows
  pub record Behind (levels : ℕ) (more : List Row) (f : Fields) (o : List ℕ) (fault : Fault) : Type 0 where
    pub fs : List Field
    pub of_rows : map field_row fs ≡ more
    pub value : f.value
    pub valid : f.valid value
    pub rest : List ℕ
    pub octets_are : o ≡ f.octets value ++ rest
    pub ends : f.ends value rest
    pub before : List ℕ
    pub at : ℕ
    pub left : FieldsFault levels fs before at rest fault

  -- the fault of fields of these rows is the first error of these fields, or that of the fields behind them
  pub record FieldsTie (levels : ℕ) (rows more : List Row) (f : Fields) : Type 0 where
    pub refused : (fs : List Field) → map field_row fs ≡ rows → (before : List ℕ) (at : ℕ) (o : List ℕ) (fault : Fault) → IsInput o
        → FieldsFault levels fs before at o fault → IsErrorAs (f.error o) fault ⊎ Behind levels more f o fault

  -- ---- fields

  -- a field is absent; or the fault is in it; or it stands at the start, and the fault is behind it
  abbrev AwayBefore : ℕ → Field → List Field → List ℕ → ℕ → List ℕ → Fault → Type 0
  AwayBefore levels field fs before at o fault = (field.optional ≡ true) × (Begins field.tag o → ⊥) × FieldsFault levels fs before at o fault

  record InField (field : Field) (r : Reader) (o : List ℕ) (fault : Fault) : Type 0 where
    error : IsErrorAs (PrefixError r.first r.error o) fault
    begins : field.optional ≡ true → IsBegun r.first o

  record BehindField (levels : ℕ) (fs : List Field) (r : Reader) (o : List ℕ) (fault : Fault) : Type 0 where
    value : r.value
    valid : r.valid value
    rest : List ℕ
    octets_are : o ≡ r.enc value ++ rest
    before : List ℕ
    at : ℕ
    left : FieldsFault levels fs before at rest fault

  abbrev FieldCases : ℕ → Field → List Field → Reader → List ℕ → ℕ → List ℕ → Fault → Type 0
  FieldCases levels field fs r before at o fault = AwayBefore levels field fs before at o fault ⊎ (InField field r o fault ⊎ BehindField levels fs r o fault)

  -- where octets begin as an element of the field does
  begun_as : (tag : Option ℕ) (r : Reader) (o : List ℕ) → ((t : ℕ) → is_first tag t ≡ r.first t) → Begins tag o → IsBegun r.first o
  begun_as tag r o firsts b = begun r.first o b.0 b.1 b.2 (sym (firsts b.0) ∙ b.3)

  -- in its tag
  tagged_cases : (levels : ℕ) (field : Field) (fs : List Field) (tag : ℕ) (optional : Bool) (is : ℕ) (r : Reader) → IsIn field tag optional is
      → FaultTie schema kerberos levels is r
      → (before : List ℕ) (at : ℕ) (o : List ℕ) (fault : Fault) → IsInput o → FieldsFault levels (field ∷ fs) before at o fault
      → FieldCases levels field fs (reader.explicit tag r) before at o fault
  tagged_cases levels field fs tag optional is r i t before at o fault input h = by_case before at o fault input h
    where
      firsts : (u : ℕ) → is_first field.tag u ≡ (u == tag)
      firsts u = ap (λ (m : Option ℕ). is_first m u) i.in_tag

      tag_is : (u : ℕ) → is_first field.tag u ≡ true → u ≡ tag
      tag_is u first = same u tag (sym (firsts u) ∙ first)

      held : FaultTie schema kerberos levels field.is r
      held = subst (λ (n : ℕ). FaultTie schema kerberos levels n r) (sym i.of_row) t

      by_case : (before : List ℕ) (at : ℕ) (o : List ℕ) (fault : Fault) → IsInput o → FieldsFault levels (field ∷ fs) before at o fault
          → FieldCases levels field fs (reader.explicit tag r) before at o fault
      by_case before at o fault input (behind_absent _ _ _ _ _ _ may away f) = inl (may, away, f)
      by_case before at o fault input (in_tag _ _ _ _ _ _ there f) = inr (inl (record {
        error = refused_as at fault (header_as (is_first field.tag) (λ u. u == tag) (TaggedError tag (whole_error r)) firsts o) f;
        begins = λ may. begun_as field.tag (reader.explicit tag r) o firsts (there may);
      }))
      by_case before at o fault input (in_wrapped _ _ _ _ u _ content rest _ w first whole f) =
          let fits = input_within u content rest o whole input in
          inr (inl (record {
            error = as_other fault (λ e g. wrong_content u content rest e whole (sym (firsts u) ∙ first) fits.1 g)
                (explicit_within schema kerberos levels field.is tag r held field.name before u _ content fault (tag_is u first) fits f);
            begins = λ may. begun_with (λ n. n == tag) o u content rest whole (sym (firsts u) ∙ first);
          }))
      by_case before at o fault input (behind_wrapped _ _ _ _ u _ rest inside _ w first whole right f) =
          let fits = input_within u (enc inside) rest o whole input in
          let x = held.from field.name before (enc inside) fits.0 (record { forest = inside; element = right; octets_are = refl }) in
          inr (inr (record {
            value = x.value;
            valid = x.valid;
            rest = rest;
            octets_are = whole ∙ ap (λ (n : ℕ). tlv n (enc inside) ++ rest) (tag_is u first) ∙ ap (λ (a : List ℕ). tlv tag a ++ rest) x.are;
            before = _;
            at = _;
            left = f;
          }))
      by_case before at o fault input (in_bare _ _ _ _ _ _ w has f) = absurd (clash field.wrapped i.in_wrap w)
      by_case before at o fault input (behind_bare _ _ _ _ _ rest element _ w begins whole right f) = absurd (clash field.wrapped i.in_wrap w)

  -- by itself
  bare_cases : (levels : ℕ) (field : Field) (fs : List Field) (tag : Option ℕ) (optional : Bool) (is : ℕ) (r : Reader) → IsBare field tag optional is
      → ((u : ℕ) → is_first tag u ≡ r.first u) → FaultTie schema kerberos levels is r
      → (before : List ℕ) (at : ℕ) (o : List ℕ) (fault : Fault) → IsInput o → FieldsFault levels (field ∷ fs) before at o fault
      → FieldCases levels field fs r before at o fault
  bare_cases levels field fs tag optional is r i initial t before at o fault input h = by_case before at o fault input h
    where
      firsts : (u : ℕ) → is_first field.tag u ≡ r.first u
      firsts u = ap (λ (m : Option ℕ). is_first m u) i.in_tag ∙ initial u

      held : FaultTie schema kerberos levels field.is r
      held = subst (λ (n : ℕ). FaultTie schema kerberos levels n r) (sym i.of_row) t

      by_case : (before : List ℕ) (at : ℕ) (o : List ℕ) (fault : Fault) → IsInput o → FieldsFault levels (field ∷ fs) before at o fault
          → FieldCases levels field fs r before at o fault
      by_case before at o fault input (behind_absent _ _ _ _ _ _ may away f) = inl (may, away, f)
      by_case before at o fault input (in_tag _ _ _ _ _ _ there f) = inr (inl (record {
        error = refused_as at fault (header_as (is_first field.tag) r.first r.error firsts o) f;
        begins = λ may. begun_as field.tag r o firsts (there may);
      }))
      by_case before at o fault input (in_wrapped _ _ _ _ u _ content rest _ w first whole f) = absurd (clash field.wrapped w i.no_wrap)
      by_case before at o fault input (behind_wrapped _ _ _ _ u _ rest inside _ w first whole right f) = absurd (clash field.wrapped w i.no_wrap)
      by_case before at o fault input (in_bare _ _ _ _ _ _ w has f) = inr (inl (record {
        error = held.refused field.name before at o fault input f;
        begins = λ may. begun_with r.first o has.0 has.1 has.2 has.4 (sym (firsts has.0) ∙ has.3);
      }))
      by_case before at o fault input (behind_bare _ _ _ _ _ rest element _ w begins whole right f) =
          let x = held.from field.name before (enc element) (input_front (enc element) rest o whole input).0
          (record { forest = element; element = right; octets_are = refl }) in
          inr (inr (record {
            value = x.value;
            valid = x.valid;
            rest = rest;
            octets_are = whole ∙ ap (λ (a : List ℕ). a ++ rest) x.are;
            before = _;
            at = _;
            left = f;
          }))

  -- a field that has to be there
  one_of : (levels : ℕ) (field : Field) (fs : List Field) (more : List Row) (r : Reader) → map field_row fs ≡ more → field.optional ≡ false
      → (before : List ℕ) (at : ℕ) (o : List ℕ) (fault : Fault) → FieldCases levels field fs r before at o fault
      → IsErrorAs ((reader.one r).error o) fault ⊎ Behind levels more (reader.one r) o fault
  one_of levels field fs more r e must before at o fault (inl (may, away, f)) = absurd (clash field.optional may must)
  one_of levels field fs more r e must before at o fault (inr (inl f)) = inl f.error
  one_of levels field fs more r e must before at o fault (inr (inr f)) = inr (record {
    fs = fs;
    of_rows = e;
    value = f.value;
    valid = f.valid;
    rest = f.rest;
    octets_are = f.octets_are;
    ends = tt;
    before = f.before;
    at = f.at;
    left = f.left;
  })

  -- a field that may be absent
  maybe_of : (levels : ℕ) (field : Field) (fs : List Field) (more : List Row) (r : Reader) → map field_row fs ≡ more → field.optional ≡ true
      → ((u : ℕ) → is_first field.tag u ≡ r.first u) → (before : List ℕ) (at : ℕ) (o : List ℕ) (fault : Fault)
      → FieldCases levels field fs r before at o fault
      → IsErrorAs ((reader.maybe r).error o) fault ⊎ Behind levels more (reader.maybe r) o fault
  maybe_of levels field fs more r e may firsts before at o fault (inl (_, away, f)) = inr (record {
    fs = fs;
    of_rows = e;
    value = record { 0 = None };
    valid = tt;
    rest = o;
    octets_are = refl;
    ends = λ none. absent_or field.tag r.first o firsts away;
    before = before;
    at = at;
    left = f;
  })
  maybe_of levels field fs more r e may firsts before at o fault (inr (inl f)) = inl (as_other fault (λ d g. (f.begins may, g)) f.error)
  maybe_of levels field fs more r e may firsts before at o fault (inr (inr f)) = inr (record {
    fs = fs;
    of_rows = e;
    value = record { 0 = Some f.value };
    valid = f.valid;
    rest = f.rest;
    octets_are = f.octets_are;
    ends = λ none. absurd (some_none none);
    before = f.before;
    at = f.at;
    left = f.left;
  })
    where
      some_none : Some f.value ≡ None → ⊥
      some_none p = cc

  pub required_refused : (levels tag : ℕ) (name : List ℕ) (kind : Option Kind) (role : Role) (is : ℕ) (r : Reader) (more : List Row)
      → FaultTie schema kerberos levels is r
      → FieldsTie levels ((Some tag, true, false, name, kind, role, is) ∷ more) more (reader.one (reader.explicit tag r))
  required_refused levels tag name kind role is r more t = record {
    refused = λ fs e before at o fault input h.
        (let f = first_of field_row fs (Some tag, true, false, name, kind, role, is) more e in
        let i = is_in f.0 tag false name kind role is f.3 in
        one_of levels f.0 f.1 more (reader.explicit tag r) f.4 i.may_be before at o fault
        (tagged_cases levels f.0 f.1 tag false is r i t before at o fault input (subst (λ l. FieldsFault levels l before at o fault) f.2 h)));
  }

  pub maybe_refused : (levels tag : ℕ) (name : List ℕ) (kind : Option Kind) (role : Role) (is : ℕ) (r : Reader) (more : List Row)
      → FaultTie schema kerberos levels is r
      → FieldsTie levels ((Some tag, true, true, name, kind, role, is) ∷ more) more (reader.maybe (reader.explicit tag r))
  maybe_refused levels tag name kind role is r more t = record {
    refused = λ fs e before at o fault input h.
        (let f = first_of field_row fs (Some tag, true, true, name, kind, role, is) more e in
        let i = is_in f.0 tag true name kind role is f.3 in
        maybe_of levels f.0 f.1 more (reader.explicit tag r) f.4 i.may_be (λ u. ap (λ (m : Option ℕ). is_first m u) i.in_tag) before at o fault
        (tagged_cases levels f.0 f.1 tag true is r i t before at o fault input (subst (λ l. FieldsFault levels l before at o fault) f.2 h)));
  }

  pub bare_refused : (levels : ℕ) (tag : Option ℕ) (name : List ℕ) (kind : Option Kind) (role : Role) (is : ℕ) (r : Reader) (more : List Row)
      → ((u : ℕ) → is_first tag u ≡ r.first u) → FaultTie schema kerberos levels is r
      → FieldsTie levels ((tag, false, false, name, kind, role, is) ∷ more) more (reader.one r)
  bare_refused levels tag name kind role is r more firsts t = record {
    refused = λ fs e before at o fault input h.
        (let f = first_of field_row fs (tag, false, false, name, kind, role, is) more e in
        let i = is_bare f.0 tag false name kind role is f.3 in
        one_of levels f.0 f.1 more r f.4 i.may_be before at o fault
        (bare_cases levels f.0 f.1 tag false is r i firsts t before at o fault input (subst (λ l. FieldsFault levels l before at o fault) f.2 h)));
  }

  pub maybe_bare_refused : (levels : ℕ) (tag : Option ℕ) (name : List ℕ) (kind : Option Kind) (role : Role) (is : ℕ) (r : Reader) (more : List Row)
      → ((u : ℕ) → is_first tag u ≡ r.first u) → FaultTie schema kerberos levels is r
      → FieldsTie levels ((tag, false, true, name, kind, role, is) ∷ more) more (reader.maybe r)
  maybe_bare_refused levels tag name kind role is r more firsts t = record {
    refused = λ fs e before at o fault input h.
        (let f = first_of field_row fs (tag, false, true, name, kind, role, is) more e in
        let i = is_bare f.0 tag true name kind role is f.3 in
        maybe_of levels f.0 f.1 more r f.4 i.may_be (λ u. ap (λ (m : Option ℕ). is_first m u) i.in_tag ∙ firsts u) before at o fault
        (bare_cases levels f.0 f.1 tag true is r i firsts t before at o fault input (subst (λ l. FieldsFault levels l before at o fault) f.2 h)));
  }

  -- ---- fields and fields behind them

  pub pair_refused : (levels : ℕ) (rows middle more : List Row) (l r : Fields) → FieldsTie levels rows middle l → FieldsTie levels middle more r
      → FieldsTie levels rows more (reader.pair l r)
  pair_refused levels rows middle more l r tl tr = record {
    refused = λ fs e before at o fault input h. by_left o fault input (tl.refused fs e before at o fault input h);
  }
    where
      by_right : (o : List ℕ) (fault : Fault) (b : Behind levels middle l o fault) → IsErrorAs (r.error b.rest) fault ⊎ Behind levels more r b.rest fault
          → IsErrorAs ((reader.pair l r).error o) fault ⊎ Behind levels more (reader.pair l r) o fault
      by_right o fault b (inl f) = inl (as_other fault (λ d g. in_right b.value b.rest d b.valid b.octets_are b.ends g) f)
      by_right o fault b (inr c) = inr (record {
        fs = c.fs;
        of_rows = c.of_rows;
        value = (b.value, c.value);
        valid = (b.valid, c.valid);
        rest = c.rest;
        octets_are = b.octets_are ∙ ap (λ (x : List ℕ). l.octets b.value ++ x) c.octets_are ∙ sym (append_assoc (l.octets b.value) (r.octets c.value) c.rest);
        ends = (subst (l.ends b.value) c.octets_are b.ends, c.ends);
        before = c.before;
        at = c.at;
        left = c.left;
      })

      by_left : (o : List ℕ) (fault : Fault) → IsInput o → IsErrorAs (l.error o) fault ⊎ Behind levels middle l o fault
          → IsErrorAs ((reader.pair l r).error o) fault ⊎ Behind levels more (reader.pair l r) o fault
      by_left o fault input (inl f) = inl (as_other fault (λ d g. in_left d g) f)
      by_left o fault input (inr b) =
          by_right o fault b (tr.refused b.fs b.of_rows b.before b.at b.rest fault (input_rest (l.octets b.value) b.rest o b.octets_are input) b.left)

  -- the same fields in another grouping
  regrouped : (levels : ℕ) (rows more : List Row) (f g : Fields) (of : f.value → g.value) → ((x : f.value) → f.valid x → g.valid (of x))
      → ((x : f.value) → f.octets x ≡ g.octets (of x)) → ((x : f.value) (rest : List ℕ) → f.ends x rest → g.ends (of x) rest)
      → ((o : List ℕ) (e : Asn1DerError) → f.error o e → g.error o e) → FieldsTie levels rows more f → FieldsTie levels rows more g
  regrouped levels rows more f g of valid octets ends error t = record {
    refused = λ fs e before at o fault input h. by_case o fault (t.refused fs e before at o fault input h);
  }
    where
      by_case : (o : List ℕ) (fault : Fault) → IsErrorAs (f.error o) fault ⊎ Behind levels more f o fault
          → IsErrorAs (g.error o) fault ⊎ Behind levels more g o fault
      by_case o fault (inl w) = inl (as_other fault (error o) w)
      by_case o fault (inr b) = inr (record {
        fs = b.fs;
        of_rows = b.of_rows;
        value = of b.value;
        valid = valid b.value b.valid;
        rest = b.rest;
        octets_are = b.octets_are ∙ ap (λ (x : List ℕ). x ++ b.rest) (octets b.value);
        ends = ends b.value b.rest b.ends;
        before = b.before;
        at = b.at;
        left = b.left;
      })

  pub triple_refused : (levels : ℕ) (w x y z : List Row) (a b c : Fields) → FieldsTie levels w x a → FieldsTie levels x y b → FieldsTie levels y z c
      → FieldsTie levels w z (reader.triple a b c)
  triple_refused levels w x y z a b c ta tb tc =
      regrouped levels w z (reader.pair (reader.pair a b) c) (reader.triple a b c) (λ v. (v.0.0, v.0.1, v.1)) (λ v h. (h.0.0, h.0.1, h.1)) (λ v. refl)
      (λ v rest h. h) (λ o e h. h)
      (pair_refused levels w y z (reader.pair a b) c (pair_refused levels w x y a b ta tb) tc)

  pub four_refused : (levels : ℕ) (v w x y z : List Row) (a b c d : Fields) → FieldsTie levels v w a → FieldsTie levels w x b → FieldsTie levels x y c
      → FieldsTie levels y z d → FieldsTie levels v z (reader.four a b c d)
  four_refused levels v w x y z a b c d ta tb tc td =
      regrouped levels v z (reader.pair (reader.triple a b c) d) (reader.four a b c d) (λ u. (u.0.0, u.0.1, u.0.2, u.1))
      (λ u h. (h.0.0, h.0.1, h.0.2, h.1)) (λ u. refl)
      (λ u rest h. h) (λ o e h. h) (pair_refused levels v y z (reader.triple a b c) d (triple_refused levels v w x y a b c ta tb tc) td)

  pub five_refused : (levels : ℕ) (u v w x y z : List Row) (a b c d e : Fields) → FieldsTie levels u v a → FieldsTie levels v w b → FieldsTie levels w x c
      → FieldsTie levels x y d → FieldsTie levels y z e → FieldsTie levels u z (reader.five a b c d e)
  five_refused levels u v w x y z a b c d e ta tb tc td te =
      regrouped levels u z (reader.pair (reader.four a b c d) e) (reader.five a b c d e) (λ s. (s.0.0, s.0.1, s.0.2, s.0.3, s.1))
      (λ s h. (h.0.0, h.0.1, h.0.2, h.0.3, h.1))
      (λ s. refl) (λ s rest h. h) (λ o n h. h) (pair_refused levels u y z (reader.four a b c d) e (four_refused levels u v w x y a b c d ta tb tc td) te)

  pub six_refused : (levels : ℕ) (t u v w x y z : List Row) (a b c d e f : Fields) → FieldsTie levels t u a → FieldsTie levels u v b → FieldsTie levels v w c
      → FieldsTie levels w x d → FieldsTie levels x y e → FieldsTie levels y z f → FieldsTie levels t z (reader.six a b c d e f)
  six_refused levels t u v w x y z a b c d e f ta tb tc td te tf =
      regrouped levels t z (reader.pair (reader.five a b c d e) f) (reader.six a b c d e f) (λ s. (s.0.0, s.0.1, s.0.2, s.0.3, s.0.4, s.1))
      (λ s h. (h.0.0, h.0.1, h.0.2, h.0.3, h.0.4, h.1)) (λ s. refl) (λ s rest h. h) (λ o n h. h)
      (pair_refused levels t y z (reader.five a b c d e) f (five_refused levels t u v w x y a b c d e ta tb tc td te) tf)

  -- ---- a SEQUENCE

  -- octets that are left over behind the last field
  all_over : (levels : ℕ) (fs : List Field) → map field_row fs ≡ [] → (before : List ℕ) (at : ℕ) (o : List ℕ) (fault : Fault)
      → FieldsFault levels fs before at o fault
      → (o ≡ [] → ⊥) × (fault ≡ faults.Refused errors.InvalidData at)
  all_over levels fs e before at o fault h = none_left before at o fault (subst (λ l. FieldsFault levels l before at o fault) (last_of field_row fs e) h)
    where
      none_left : (before : List ℕ) (at : ℕ) (o : List ℕ) (fault : Fault) → FieldsFault levels [] before at o fault
          → (o ≡ [] → ⊥) × (fault ≡ faults.Refused errors.InvalidData at)
      none_left before at o fault (some_over _ _ _ some) = (some, refl)

  fields_refused : (levels : ℕ) (f : Fields) (o : List ℕ) (fault : Fault) → IsErrorAs (f.error o) fault ⊎ Behind levels [] f o fault
      → IsErrorAs (WholeError f.valid f.octets f.ends f.error o) fault
  fields_refused levels f o fault (inl h) = as_other fault (λ e g. at_start e g) h
  fields_refused levels f o fault (inr b) =
      let w = all_over levels b.fs b.of_rows b.before b.at b.rest fault b.left in
      record { why = errors.InvalidData; at = b.at; fault_is = w.1; no_device = tt; is_so = over b.value b.rest b.valid b.octets_are b.ends (some_left b.rest w.0) }

  pub sequence_refused : {A : Type 0} (levels is start count : ℕ) (rows : List Row) (f : Fields) (fields_of : A → f.value) (c : Codec) (of : c.value → A)
      → slice_get shapes is ≡ Some (shape.Sequence 48 start count) → start + count ≤ length fields → part start count fields ≡ rows
      → Tie schema kerberos (suc levels) is c → ((x : c.value) → c.valid x → f.valid (fields_of (of x)))
      → ((x : c.value) → tlv 48 (f.octets (fields_of (of x))) ≡ c.enc x)
      → FieldsTie levels rows [] f → FaultTie schema kerberos (suc levels) is (reader.sequence f fields_of)
  sequence_refused levels is start count rows f fields_of c of is_row range of_rows tie valid same_octets t = record {
    from = λ name before o small h.
        (let x = tie.from name before o small h in record { value = of x.code; valid = valid x.code x.valid; are = x.are ∙ sym (same_octets x.code) });
    refused = λ name before at o fault input h.
        element_refused schema kerberos levels is (shape.Sequence 48 start count) (reader.sequence f fields_of) is_row (λ u. refl) name before
        (λ u place content d first fits g. as_other d (λ e w. in_content e (same u 48 first) w) (within name before place content d fits g)) at o fault input h;
  }
    where
      within : (name : Name) (before : List ℕ) (place : ℕ) (content : List ℕ) (d : Fault) → IsInput content
          → IsContentFault (IsElement levels schema) (IsFault levels schema) schema (shape.Sequence 48 start count) name before place content d
          → IsErrorAs (WholeError f.valid f.octets f.ends f.error content) d
      within name before place content d fits (inl (lacks, _)) = absurd (lacks (in_range schema start count kerberos range))
      within name before place content d fits (inr (_, g)) = fields_refused levels f content d (t.refused (part start count schema.fields.now)
          (part_map field_row start count schema.fields.now ∙ ap (part start count) kerberos.parts ∙ of_rows) [] place content d fits g)
