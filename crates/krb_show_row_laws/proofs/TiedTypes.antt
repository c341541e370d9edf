-- From a row and a codec to a type.
use Rattle.std.proofs.Common.{◌≡◌, ℕ, sym, ◌∙◌, List, [], Some}
use Rattle.krb_der_core.specs.declared.der.DerEncode.{Ghosts as EncodingOf}
use Rattle.krb_schema.specs.declared.shape.Name.{Name}
use Rattle.krb_schema.specs.declared.shape.Schema.{Schema}
use Rattle.krb_schema.specs.Named.{IsKerberos, row_in}
use Rattle.krb_schema.specs.Types.{types}
use Rattle.krb_show_row_laws.proofs.Codecs.{Codec}
use Rattle.krb_show_row_laws.proofs.CodecRows.{Tie}
use Rattle.krb_show_row_laws.proofs.FaultRows.{FaultTie, whole_refused}
use Rattle.krb_show_row_laws.proofs.FirstErrors.{is_first_error}
use Rattle.krb_show_row_laws.proofs.Readers.{Reader}
use Rattle.krb_show_row_laws.specs.Ties.{HasItsRow, IsRowOf}

-- the values of a type, as those of a codec
pub record IsCoded {A : Type 0} (t : EncodingOf A) (c : Codec) : Type 0 where
  pub to : A → c.value
  pub of : c.value → A
  pub enc_to : (v : A) → t.enc v ≡ c.enc (to v)
  pub enc_of : (x : c.value) → t.enc (of x) ≡ c.enc x
  pub valid_to : (v : A) → t.is_value v → c.valid (to v)
  pub valid_of : (x : c.value) → c.valid x → t.is_value (of x)

-- what reads the type
abbrev pub reader_of : {A : Type 0} → EncodingOf A → Reader
reader_of {A} t = record { value = A; valid = t.is_value; enc = t.enc; first = t.first; error = t.error }

pub row_of : {A : Type 0} (t : EncodingOf A) (c : Codec) (schema : Schema) (k : IsKerberos schema) (row : ℕ) (name : Name) → IsCoded t c → Tie schema k 64 row c
    → FaultTie schema k 64 row (reader_of t) → IsRowOf t schema row name
row_of t c schema k row name i tie faults = record {
  read = λ octets h none. tie.into name [] (i.to h.0) (i.valid_to h.0 h.1) (λ r. none r.forest r.element (h.2 ∙ i.enc_to h.0 ∙ r.octets_are));
  walked = λ octets small f element e.
      (let x = tie.from name [] octets small (record { forest = f; element = element; octets_are = e }) in
      (i.of x.code, i.valid_of x.code x.valid, x.are ∙ sym (i.enc_of x.code)));
  refused = λ octets fault small less f.
      (let w = whole_refused schema k 64 row (reader_of t) faults name [] 0 octets fault (small, less) f in
      (w.why, w.at, w.fault_is, is_first_error t octets w.why less w.no_device w.is_so));
}

pub tied : {A : Type 0} {t : EncodingOf A} (c : Codec) (row_name : List ℕ) (is : ℕ) → row_in types row_name ≡ Some is
    → ((schema : Schema) (k : IsKerberos schema) → Tie schema k 64 is c) → IsCoded t c
    → ((schema : Schema) (k : IsKerberos schema) → FaultTie schema k 64 is (reader_of t)) → HasItsRow t row_name
tied {A} {t} c row_name is e tie i faults = (is, e, λ schema name k. row_of t c schema k is name i (tie schema k) (faults schema k))
