-- A sequence at the start of octets, and the header that its content is read as.
use Rattle.std.proofs.Common.{◌≡◌, ℕ, ◌<◌, ◌^◌, ◌⊎◌, eqb, List, [], ◌++◌, length, drop, refl, sym, ap, subst, ◌∙◌, inr}
use Rattle.std.proofs.lemmas.List.{append-nil}
use Rattle.krb_der_core.specs.declared.error.Asn1DerError.{Asn1DerError}
use Rattle.krb_der_core.specs.declared.error.Asn1DerError.TheVariants as errors
use Rattle.krb_der_core.specs.Tlv.{tlv}
use Rattle.krb_der_core.specs.TlvLaws.{tagged_element, tlv_apart, tlv_same}
use Rattle.krb_der_core.specs.Encoding.{OneValue}
use Rattle.krb_der_core.specs.Reading.{Elements, Encodings, RejectsPrefix, TakesPrefix}
use Rattle.krb_der_core.specs.Errors.{no_tag, wrong_tag, wrong_length, cut_content, wrong_content, at_start}
use Rattle.krb_der_core.specs.Errors.{ContentLaws, PrefixError, PrefixLaws, HeaderError, OrMemory, TaggedError, ValueError}
use Rattle.krb_der_core.specs.ErrorLaws.{tagged_laws, value_laws}
use Rattle.krb_der_core.proofs.FirstErrors.{content_wrong, or_memory}
use Rattle.krb_der.proofs.WholeInput.{err_again, err_cut, not_all, not_cut, no_more, whole_is}
use Rattle.krb_der.proofs.ErrorSteps.{too_many}
use Rattle.krb_gss_tokens.specs.declared.iakerb_header.messages.header.IAKerbHeader.{IAKerbHeader}
use Rattle.krb_gss_tokens.specs.Header.{ContentReads, HeaderReads}
use Rattle.krb_gss_tokens.specs.HeaderErrors.{IsHeaderContent}
use Rattle.krb_gss_tokens.proofs.Readings.{known_ends, known_fields, known_octets, known_values, none_reads}

-- ---- elements

as_encodings : (octets : List ℕ) (e : Asn1DerError) → RejectsPrefix (Elements 48) octets e → RejectsPrefix (Encodings (λ (c : List ℕ). Unit {0}) (λ c. tlv 48 c)) octets e
as_encodings octets errors.OutOfMemory r = tt
as_encodings octets errors.TruncatedData r = λ b rest h q. r b rest (h.0, h.2, h.3) q
as_encodings octets errors.InvalidData r = (λ b rest h q. r.0 b rest (h.0, h.2, h.3) q, λ b rest h q. r.1 b rest (h.0, h.2, h.3) q)
as_encodings octets errors.UnsupportedValue r = (λ b rest h q. r.0 b rest (h.0, h.2, h.3) q, λ b rest h q. r.1 b rest (h.0, h.2, h.3) q)
as_encodings octets (errors.Io io) r = r

one_content : OneValue (λ (c : List ℕ). Unit {0}) (λ c. tlv 48 c)
one_content v w hv hw e = tlv_same 48 48 v w e

-- the content of the element that was taken is that of each at the start
pub same_content : (content other octets rest : List ℕ) (n : ℕ) → TakesPrefix (tlv 48 content) n octets → octets ≡ tlv 48 other ++ rest → content ≡ other
same_content content other octets rest n f q = (tlv_apart 48 48 content other (drop n octets) rest (sym f.prefix ∙ q)).content

pub rejected_again : (octets content : List ℕ) (e : Asn1DerError) → length octets < 2 ^ 64 → RejectsPrefix (Elements 48) octets e → octets ≡ tlv 48 content → e ≡ errors.OutOfMemory
rejected_again octets content e lt r q = err_again (λ (c : List ℕ). Unit {0}) (λ c. tlv 48 c) octets e lt (as_encodings octets e r) content tt q

pub rejected_cut : (octets content rest : List ℕ) (e : Asn1DerError) → RejectsPrefix (Elements 48) octets e → 0 < length rest → length (tlv 48 content) < 2 ^ 64 → tlv 48 content ≡ octets ++ rest → (e ≡ errors.TruncatedData) ⊎ (e ≡ errors.OutOfMemory)
rejected_cut octets content rest e r some lt q = err_cut (λ (c : List ℕ). Unit {0}) (λ c. tlv 48 c) octets e (as_encodings octets e r) content rest tt some lt q

pub taken_whole : (content other octets : List ℕ) (n : ℕ) → TakesPrefix (tlv 48 content) n octets → (n ≡ length octets → ⊥) → octets ≡ tlv 48 other → ⊥
taken_whole content other octets n f more q = not_all (λ (c : List ℕ). Unit {0}) (λ c. tlv 48 c) (λ t. eqb t 48) (λ v h. tagged_element 48 v) one_content content other n octets tt tt f more q

pub taken_cut : (content other octets rest : List ℕ) (n : ℕ) → TakesPrefix (tlv 48 content) n octets → 0 < length rest → tlv 48 other ≡ octets ++ rest → ⊥
taken_cut content other octets rest n f some q = not_cut (λ (c : List ℕ). Unit {0}) (λ c. tlv 48 c) (λ t. eqb t 48) (λ v h. tagged_element 48 v) one_content content other n octets rest tt tt f some q

pub taken_more : (content other octets rest : List ℕ) (n : ℕ) → TakesPrefix (tlv 48 content) n octets → n ≡ length octets → 0 < length rest → octets ≡ tlv 48 other ++ rest → ⊥
taken_more content other octets rest n f all some q =
    no_more (λ (c : List ℕ). Unit {0}) (λ c. tlv 48 c) (λ t. eqb t 48) (λ v h. tagged_element 48 v) one_content content other octets rest tt tt
    (whole_is (λ (c : List ℕ). Unit {0}) (λ c. tlv 48 c) content n octets f all) some q

-- ---- what a content is read as

pub reads_here : (content octets b rest : List ℕ) (n : ℕ) (h : IAKerbHeader) → TakesPrefix (tlv 48 content) n octets → HeaderReads b h → octets ≡ b ++ rest → ContentReads content h
reads_here content octets b rest n h f r q =
    let same = same_content content r.0 octets rest n f (q ∙ ap (λ (l : List ℕ). l ++ rest) r.1) in
    subst (λ (l : List ℕ). ContentReads l h) (sym same) r.2

pub reads_all : (content octets : List ℕ) (n : ℕ) (h : IAKerbHeader) → TakesPrefix (tlv 48 content) n octets → HeaderReads octets h → ContentReads content h
reads_all content octets n h f r = reads_here content octets octets [] n h f r (sym (append-nil octets))

-- ---- errors

-- what is wrong before a content is wrong, whatever its errors are
pub prefix_of_header : (error : ℕ → List ℕ → Asn1DerError → Type 0) (tag : ℕ) (octets : List ℕ) (e : Asn1DerError) → HeaderError tag octets e → PrefixError (λ t. eqb t tag) error octets e
prefix_of_header error tag octets e (no_tag p) = no_tag p
prefix_of_header error tag octets e (wrong_tag t rest p w) = wrong_tag t rest p w
prefix_of_header error tag octets e (wrong_length t rest d p w f) = wrong_length t rest d p w f
prefix_of_header error tag octets e (cut_content t n rest p w lt short) = cut_content t n rest p w lt short
prefix_of_header error tag octets e (wrong_content t content rest d p w lt k) = absurd k

module _ (is_value : IAKerbHeader → Type 0) (error : ℕ → List ℕ → Asn1DerError → Type 0) where
  abbrev ReadError : List ℕ → Asn1DerError → Type 0
  ReadError = ValueError (IsHeaderContent is_value) (λ c. tlv 48 c) (λ t. eqb t 48) error

  pub header_wrong : (octets : List ℕ) (e : Asn1DerError) → HeaderError 48 octets e → OrMemory (ReadError octets) e
  header_wrong octets e f = inr (at_start e (prefix_of_header error 48 octets e f))

  pub fields_wrong : (content octets : List ℕ) (n : ℕ) (e : Asn1DerError) → length octets < 2 ^ 64 → TakesPrefix (tlv 48 content) n octets → OrMemory (error 48 content) e → OrMemory (ReadError octets) e
  fields_wrong content octets n e lt f h = or_memory (error 48 content) (ReadError octets) e (λ k. at_start e (content_wrong (λ t. eqb t 48) error 48 n content octets e f refl lt k)) h

  pub octets_left : (content octets : List ℕ) (n : ℕ) (h : IAKerbHeader) → is_value h → ContentReads content h → TakesPrefix (tlv 48 content) n octets → (n ≡ length octets → ⊥) → OrMemory (ReadError octets) errors.InvalidData
  octets_left content octets n h hv r f more = too_many (IsHeaderContent is_value) (λ c. tlv 48 c) (λ v rest. Unit {0}) (PrefixError (λ t. eqb t 48) error) content n octets (h, hv, r) f tt more

-- Octets have one first error, and none where they are read as a header.
module _ (error : List ℕ → Asn1DerError → Type 0) (laws : PrefixLaws known_values known_octets known_ends error) where
  contents : ContentLaws (IsHeaderContent (λ h. known_values (known_fields h))) (λ c. c) error
  contents = record {
    no_value = λ content e lt k c h q. none_reads error laws content e lt k h.0 h.1 (subst (λ (l : List ℕ). ContentReads l h.0) (sym q) h.2);
    one_error = laws.one_error;
  }

  pub octets_laws : ContentLaws (IsHeaderContent (λ h. known_values (known_fields h))) (λ c. tlv 48 c) (ValueError (IsHeaderContent (λ h. known_values (known_fields h))) (λ c. tlv 48 c) (λ t. eqb t 48) (TaggedError 48 error))
  octets_laws =
      let is_content = IsHeaderContent (λ h. known_values (known_fields h)) in
      value_laws is_content (λ c. tlv 48 c) (λ t. eqb t 48) (λ v h. tagged_element 48 v) (TaggedError 48 error) (tagged_laws 48 is_content (λ c. c) error contents) (λ v w hv hw e. tlv_same 48 48 v w e)
