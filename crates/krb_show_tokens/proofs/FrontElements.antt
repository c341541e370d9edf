-- The element at the front of octets.
use Rattle.std.proofs.Common.{◌≡◌, ◌==◌, true, ℕ, ◌+◌, ◌-◌, ◌<◌, ◌≤◌, ◌^◌, List, ◌++◌, take, drop, length, slice_index_or, ap, sym, ◌∙◌, refl, arith, subst}
use Rattle.std.proofs.lemmas.Bool.{eqb-true, ltb-false, ltb-true}
use Rattle.std.proofs.lemmas.List.{length-append, take_at}
use Rattle.std.specs.Prelude.{nat_lt}
use Rattle.krb_der_core.specs.Reading.{Elements, NoPrefix, RejectsPrefix, TakesPrefix}
use Rattle.krb_der_core.specs.Tlv.{len, tlv}
use Rattle.krb_der_core.specs.TlvLaws.{tlv_apart}
use Rattle.krb_der_core.specs.declared.error.Asn1DerError.{Asn1DerError}
use Rattle.krb_der_core.specs.declared.error.Asn1DerError.TheVariants as errors
use Rattle.krb_show_tokens.specs.MessagePlaces.{AreMessages, AreMessagesAt}
use Rattle.krb_show_tokens.specs.Parts.{IsElement, IsElementAt, IsSplit, NoElement, further, header_size}

-- how many octets it has
pub tlv_size : (t : ℕ) (c : List ℕ) → length (tlv t c) ≡ header_size c + length c
tlv_size t c = unfold tlv in omega (arith, length-append (len (length c)) c)

-- a reader that refuses for another reason than memory finds nothing
pub none_there : (P : List ℕ → Type 0) (octets : List ℕ) (e : Asn1DerError) → RejectsPrefix P octets e → (e ≡ errors.OutOfMemory → ⊥) → NoPrefix P octets
none_there P octets errors.OutOfMemory r heapless = absurd (heapless refl)
none_there P octets errors.TruncatedData r heapless = r
none_there P octets errors.InvalidData r heapless = r.0
none_there P octets errors.UnsupportedValue r heapless = r.0
none_there P octets (errors.Io e) r heapless = absurd r

-- there is none where nothing is
pub none_in_nothing : (octets : List ℕ) → (length octets == 0) ≡ true → NoElement octets
none_in_nothing octets empty content rest is =
    omega (arith, eqb-true (length octets) 0 empty, ap length is.parts, length-append (tlv is.tag content) rest, tlv_size is.tag content)

-- the first octet of an element is its tag
pub first_is_tag : (t : ℕ) (c rest : List ℕ) → slice_index_or (tlv t c ++ rest) 0 0 ≡ t
first_is_tag t c rest = unfold tlv in refl

-- no element of any tag is at the front where none of the first octet is
pub no_element : (octets : List ℕ) (e : Asn1DerError) → RejectsPrefix (Elements (slice_index_or octets 0 0)) octets e → (e ≡ errors.OutOfMemory → ⊥)
    → length octets < 2 ^ 64 → NoElement octets
no_element octets e r heapless bound content rest is =
    let first = ap (λ (l : List ℕ). slice_index_or l 0 0) is.parts ∙ first_is_tag is.tag content rest in
    let parts = subst (λ (t : ℕ). octets ≡ tlv t content ++ rest) (sym first) is.parts in
    let size = length-append (tlv (slice_index_or octets 0 0) content) rest in
    none_there (Elements (slice_index_or octets 0 0)) octets e r heapless (tlv (slice_index_or octets 0 0) content) rest
    (content, omega (arith, bound, size, ap length parts), refl) parts

-- the element that a reader finds
pub element_found : (octets content : List ℕ) (t taken start at next : ℕ) → TakesPrefix (tlv t content) taken octets
    → at ≡ further start (taken - length content) → next ≡ further at (length content) → IsElementAt start at next content (drop taken octets) octets
element_found octets content t taken start at next p is_at is_next = record {
  is_element = record { tag = t; parts = p.prefix };
  is_at = is_at ∙ ap (further start) (omega (arith, p.count, tlv_size t content));
  is_next = is_next;
}

-- its content is no longer than it
pub content_fits : (octets content : List ℕ) (t taken : ℕ) → TakesPrefix (tlv t content) taken octets → length content ≤ taken
content_fits octets content t taken p = omega (arith, p.count, tlv_size t content)

-- one element is at the front
pub one_element : (content rest other behind octets : List ℕ) → IsElement content rest octets → IsElement other behind octets → (content ≡ other) × (rest ≡ behind)
one_element content rest other behind octets e f =
    let s = tlv_apart e.tag f.tag content other rest behind (sym e.parts ∙ f.parts) in (s.content, s.rest)

-- what is behind it is no longer than all
pub behind_fits : (start at next : ℕ) (content rest octets : List ℕ) → IsElementAt start at next content rest octets → length rest ≤ length octets
behind_fits start at next content rest octets e =
    omega (arith, ap length e.is_element.parts, length-append (tlv e.is_element.tag content) rest)

-- ---- the messages of a kpasswd message

-- there are none in fewer than six octets
pub no_messages : (octets : List ℕ) → nat_lt (length octets) 6 ≡ true → (first private : List ℕ) → AreMessages first private octets → ⊥
no_messages octets short first private m = omega (arith, ltb-true (length octets) 6 short, m.numbers)

-- there are none where no element is behind the six
pub no_first : (octets messages : List ℕ) → messages ≡ drop 6 octets → NoElement messages → (first private : List ℕ) → AreMessages first private octets → ⊥
no_first octets messages is none first private m =
    none m.content private (record { tag = m.tag; parts = is ∙ m.parts ∙ ap (λ (l : List ℕ). l ++ private) m.is_first })

-- these are they
pub messages_found : (octets messages content behind : List ℕ) (start first_at private_at front_at at next : ℕ) (front : List ℕ)
    → IsSplit start 6 front_at first_at front messages octets → IsElementAt first_at at next content behind messages
    → private_at ≡ further first_at (length messages - length behind)
    → AreMessagesAt start first_at private_at (take (length messages - length behind) messages) behind octets
messages_found octets messages content behind start first_at private_at front_at at next front s e is_private =
    let size : length (tlv e.is_element.tag content) ≡ length messages - length behind =
    omega (arith, ap length e.is_element.parts, length-append (tlv e.is_element.tag content) behind) in
    let is_first : take (length messages - length behind) messages ≡ tlv e.is_element.tag content =
    ap (take (length messages - length behind)) e.is_element.parts ∙ take_at (tlv e.is_element.tag content) behind (length messages - length behind) size in
    record {
      are_messages = record {
        numbers = ltb-false (length octets) 6 s.long;
        tag = e.is_element.tag;
        content = content;
        is_first = is_first;
        parts = sym s.is_rest ∙ e.is_element.parts ∙ ap (λ (l : List ℕ). l ++ behind) (sym is_first);
      };
      is_first_at = s.is_next;
      is_private_at = is_private ∙ ap (further first_at) (sym size ∙ sym (ap length is_first));
    }
