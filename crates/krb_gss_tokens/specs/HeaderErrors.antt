-- The first error of octets that are to be read as a header, from the left (draft-ietf-kitten-iakerb-03, 3): what follows the
-- known fields is none.
use Rattle.std.proofs.Common.{◌≡◌, ◌++◌, ◌==◌, ℕ, List, [], ◌∙◌, sym}
use Rattle.std.proofs.lemmas.List.{append-nil}
use Rattle.krb_der_core.specs.declared.error.Asn1DerError.{Asn1DerError}
use Rattle.krb_der_core.specs.declared.der.DerEncode.{Ghosts as EncodingOf}
use Rattle.krb_der_core.specs.Tlv.{tlv}
use Rattle.krb_der_core.specs.Errors.{ErrorLaws, TaggedError, ValueError}
use Rattle.krb_der_core.specs.ErrorLaws.{tagged_laws}
use Rattle.krb_der.specs.Asn1.{sequence}
use Rattle.krb_der.specs.Composite.{nothing}
use Rattle.krb_der.specs.SequenceLaws.{values_of}
use Rattle.krb_der.specs.declared.sequence.Fields.{Ghosts as FieldsOf}
use Rattle.krb_der.specs.declared.sequence.Sequence.{Ghosts as SequenceOf}
use Rattle.krb_gss_tokens.specs.declared.iakerb_header.messages.header.IAKerbHeader.{IAKerbHeader}
use Rattle.krb_gss_tokens.specs.Header.{ContentReads}

-- The first error of a SEQUENCE that may go on after its fields: its tag, then its fields in order, and nothing after them.
abbrev pub extensible_error : {F : Type 0} → FieldsOf F → ℕ → List ℕ → Asn1DerError → Type 0
extensible_error f = TaggedError 48 f.error

-- the content of a sequence is read as some header
abbrev pub IsHeaderContent : (IAKerbHeader → Type 0) → List ℕ → Type 0
IsHeaderContent is_value content = (h : IAKerbHeader) × is_value h × ContentReads content h

-- The first error of octets that are to be read as a header, all of them: that of the element at the start, or octets are left
-- over after a sequence whose content is read as a header.
abbrev pub IAKerbHeaderError : EncodingOf IAKerbHeader → List ℕ → Asn1DerError → Type 0
IAKerbHeaderError h = ValueError (IsHeaderContent h.is_value) sequence (λ t. t == 48) h.error

-- A sequence with such an error is no encoding of these fields, and has no other first error.
pub extensible_error_laws : {A F : Type 0} (s : SequenceOf A F) (f : FieldsOf F) → f.distinguished nothing
    → ErrorLaws (values_of s f) (λ v. tlv 48 (f.octets (s.fields v))) (extensible_error f)
extensible_error_laws s f reported = tagged_laws 48 (values_of s f) (λ v. f.octets (s.fields v)) f.error (record {
  no_value = λ content e lt k v hv q.
      let whole : content ≡ f.octets (s.fields v) ++ [] = q ∙ sym (append-nil (f.octets (s.fields v))) in
      f.error_laws.no_value content e lt k (s.fields v) [] hv whole (f.distinguished_ends nothing reported (s.fields v) [] hv tt);
  one_error = f.error_laws.one_error;
})
