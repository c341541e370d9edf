-- Tokens that were read, and octets that are none.
use Rattle.std.proofs.Common.{◌≡◌, ◌≢◌, ◌⊎◌, ℕ, ◌+◌, ◌-◌, ◌<◌, ◌^◌, eqb, List, [], ◌∷◌, ◌++◌, length, take, drop, append_assoc, ◌≤◌, refl, sym, ap, ◌∙◌, inl, inr, arith}
use Rattle.std.proofs.lemmas.List.{append-nil, length-append, take_rest}
use Rattle.krb_der_core.specs.declared.error.Asn1DerError.{Asn1DerError}
use Rattle.krb_der_core.specs.declared.error.Asn1DerError.TheVariants as errors
use Rattle.krb_der_core.specs.Tlv.{header, tlv}
use Rattle.krb_der_core.specs.TlvLaws.{tlv_apart, tlv_same}
use Rattle.krb_der_core.specs.ErrorLaws.{content_fits}
use Rattle.krb_der_core.specs.Errors.{HeaderError, OrMemory, PrefixError, TaggedError, other_tag, in_content}
use Rattle.krb_der_core.specs.Reading.{Elements, Encodings, RejectsAll, RejectsPrefix, TakesPrefix}
use Rattle.krb_der_x509.specs.ObjectIdentifier.{IsArcs, arcs_content, object_identifier}
use Rattle.krb_der_x509.specs.ObjectIdentifierErrors.{ArcsError}
use Rattle.krb_c_calls.proofs.Places.{Ends, ends_after, ends_here, ends_same, ends_size, ends_same_tail, ends_tlv, stands, tlv_split}
use Rattle.krb_c_calls.specs.Places.{StandsBefore}
use Rattle.krb_c_calls.specs.Token.{IsMechanism, IsNoMechanism, IsNoToken, IsToken, in_frame, in_mechanism, left_over}

pub prefix_memory : (P : List ℕ → Type 0) (octets : List ℕ) (e : Asn1DerError) → RejectsPrefix P octets e → (b rest : List ℕ) → P b → octets ≡ b ++ rest → e ≡ errors.OutOfMemory
prefix_memory P octets errors.OutOfMemory r b rest h q = refl
prefix_memory P octets errors.TruncatedData r b rest h q = absurd (r b rest h q)
prefix_memory P octets errors.InvalidData r b rest h q = absurd (r.0 b rest h q)
prefix_memory P octets errors.UnsupportedValue r b rest h q = absurd (r.0 b rest h q)
prefix_memory P octets (errors.Io x) r b rest h q = absurd r

whole : (a b : List ℕ) → a ≡ b → a ≡ b ++ []
whole a b e = e ∙ sym (append-nil b)

is_empty : (l : List ℕ) → length l ≡ 0 → l ≡ []
is_empty [] e = refl
is_empty (x ∷ xs) e = absurd (omega arith)

-- the frame's error
pub frame_error : (octets : List ℕ) (e : Asn1DerError) → length octets < 2 ^ 64 → (e ≡ errors.OutOfMemory → ⊥) → RejectsPrefix (Elements 96) octets e → HeaderError 96 octets e → IsNoToken octets e
frame_error octets e lt heapless r first = (
  λ mechanism inner t.
      let c = tlv 6 mechanism ++ inner in
      let fits : length (tlv 96 c) < 2 ^ 64 = omega (arith, lt, ap length t.1) in
      heapless (prefix_memory (Elements 96) octets e r (tlv 96 c) [] (c, fits, refl) (whole octets (tlv 96 c) t.1)),
  in_frame e first,
)

-- a token has the mechanism at the start of its content
none_inside : (octets content rest : List ℕ) (e : Asn1DerError) → length octets < 2 ^ 64 → octets ≡ tlv 96 content ++ rest → RejectsPrefix (Encodings IsArcs object_identifier) content e
    → (mechanism inner : List ℕ) → IsToken octets mechanism inner → e ≡ errors.OutOfMemory
none_inside octets content rest e lt q r mechanism inner t =
    let c = tlv 6 mechanism ++ inner in
    let s = tlv_apart 96 96 content c rest [] (sym q ∙ whole octets (tlv 96 c) t.1) in
    let named : content ≡ object_identifier t.0.0 ++ inner = s.content ∙ ap (λ (m : List ℕ). tlv 6 m ++ inner) t.0.2 in
    let short : length content < 2 ^ 64 = content_fits 96 content rest octets q lt in
    let fits : length (object_identifier t.0.0) < 2 ^ 64 = omega (arith, short, ap length named, length-append (object_identifier t.0.0) inner) in
    prefix_memory (Encodings IsArcs object_identifier) content e r (object_identifier t.0.0) inner (t.0.0, t.0.1, fits, refl) named

-- the mechanism's error, where memory was not wanting
mechanism_wrong : (octets content rest : List ℕ) (e : Asn1DerError) → (e ≡ errors.OutOfMemory → ⊥) → octets ≡ tlv 96 content ++ rest
    → ((mechanism inner : List ℕ) → IsToken octets mechanism inner → e ≡ errors.OutOfMemory)
    → OrMemory (PrefixError (λ t. eqb t 6) (TaggedError 6 ArcsError) content) e → (e ≡ errors.OutOfMemory) ⊎ IsNoToken octets e
mechanism_wrong octets content rest e other q none (inl memory) = inl memory
mechanism_wrong octets content rest e other q none (inr first) = inr (λ mechanism inner t. other (none mechanism inner t), in_mechanism content rest e q first)

pub mechanism_error : (octets content rest : List ℕ) (e : Asn1DerError) → length octets < 2 ^ 64 → octets ≡ tlv 96 content ++ rest → RejectsPrefix (Encodings IsArcs object_identifier) content e
    → OrMemory (PrefixError (λ t. eqb t 6) (TaggedError 6 ArcsError) content) e → (e ≡ errors.OutOfMemory) ⊎ IsNoToken octets e
mechanism_error octets content rest errors.OutOfMemory lt q r first = inl refl
mechanism_error octets content rest e lt q r first = mechanism_wrong octets content rest e (λ same. (cc)) q (none_inside octets content rest e lt q r) first

-- octets are left over
pub more_error : (octets content : List ℕ) (taken : ℕ) (arcs : List ℕ) (n : ℕ) → TakesPrefix (tlv 96 content) taken octets → IsArcs arcs → TakesPrefix (object_identifier arcs) n content → taken ≢ length octets
    → IsNoToken octets errors.InvalidData
more_error octets content taken arcs n f valid g other =
    let rest = drop taken octets in
    let inner = drop n content in
    let size = ap length f.prefix ∙ length-append (tlv 96 content) rest in (
      λ mechanism last t.
          let c = tlv 6 mechanism ++ last in
          let s = tlv_apart 96 96 content c rest [] (sym f.prefix ∙ whole octets (tlv 96 c) t.1) in
          other (omega (arith, f.count, size, ap length s.rest)),
      left_over (tlv 96 content) (arcs_content arcs) inner rest f.prefix ((arcs, valid, refl), ap (tlv 96) g.prefix) (omega (arith, f.count, size, other)),
    )

-- a token was read
pub token_read : (octets content mechanism : List ℕ) (taken before n : ℕ) (arcs : List ℕ) → TakesPrefix (tlv 96 content) taken octets → taken ≡ length octets → IsArcs arcs → TakesPrefix (object_identifier arcs) n content
    → TakesPrefix (tlv 6 mechanism) before content → IsToken octets mechanism (take (length content - before) (drop before content))
token_read octets content mechanism taken before n arcs f all valid g h =
    let rest = drop taken octets in
    let size = ap length f.prefix ∙ length-append (tlv 96 content) rest in
    let none : rest ≡ [] = is_empty rest (omega (arith, f.count, size, all)) in
    let s = tlv_apart 6 6 mechanism (arcs_content arcs) (drop before content) (drop n content) (sym h.prefix ∙ g.prefix) in (
      (arcs, valid, s.content),
      f.prefix ∙ ap (λ (l : List ℕ). tlv 96 content ++ l) none ∙ append-nil (tlv 96 content) ∙ ap (tlv 96) (h.prefix ∙ ap (λ (l : List ℕ). tlv 6 mechanism ++ l) (sym (take_rest content before))),
    )

-- ---- places

-- a token ends with its mechanism's content and its inner token
token_ends : (octets mechanism inner : List ℕ) → IsToken octets mechanism inner → Ends (mechanism ++ inner) octets
token_ends octets mechanism inner t =
    let split : tlv 6 mechanism ++ inner ≡ header 6 (length mechanism) ++ (mechanism ++ inner) =
    ap (λ (l : List ℕ). l ++ inner) (tlv_split 6 mechanism) ∙ append_assoc (header 6 (length mechanism)) mechanism inner in
    ends_same (mechanism ++ inner) octets (tlv 96 (tlv 6 mechanism ++ inner)) t.1
    (ends_tlv 96 (mechanism ++ inner) (tlv 6 mechanism ++ inner)
    (ends_same (mechanism ++ inner) (tlv 6 mechanism ++ inner) (header 6 (length mechanism) ++ (mechanism ++ inner)) split
    (ends_after (header 6 (length mechanism)) (mechanism ++ inner) (mechanism ++ inner) (ends_here (mechanism ++ inner)))))

pub token_size : (octets mechanism inner : List ℕ) → IsToken octets mechanism inner → length mechanism + length inner ≤ length octets
token_size octets mechanism inner t = omega (arith, ends_size (mechanism ++ inner) octets (token_ends octets mechanism inner t), length-append mechanism inner)

pub mechanism_stands : (octets mechanism inner : List ℕ) (offset size : ℕ) → IsToken octets mechanism inner → offset + length mechanism + length inner ≡ length octets → size ≡ length mechanism
    → StandsBefore mechanism inner octets offset size
mechanism_stands octets mechanism inner offset size t at count = stands mechanism inner octets offset size (token_ends octets mechanism inner t) at count

pub inner_stands : (octets mechanism inner : List ℕ) (offset size : ℕ) → IsToken octets mechanism inner → offset + length inner + 0 ≡ length octets → size ≡ length inner
    → StandsBefore inner [] octets offset size
inner_stands octets mechanism inner offset size t at count =
    let e = token_ends octets mechanism inner t in
    let tail : Ends (inner ++ []) octets = ends_same_tail inner (inner ++ []) octets (sym (append-nil inner))
    (record { before = e.before ++ mechanism; parts = e.parts ∙ sym (append_assoc e.before mechanism inner) }) in
    stands inner [] octets offset size tail at count

-- ---- making

no_mechanism : (mechanism : List ℕ) (e : Asn1DerError) → (e ≡ errors.OutOfMemory → ⊥) → RejectsAll IsArcs object_identifier (tlv 6 mechanism) e → IsMechanism mechanism → ⊥
no_mechanism mechanism errors.OutOfMemory other r m = other refl
no_mechanism mechanism errors.TruncatedData other r m = r m.0 m.1 (ap (tlv 6) m.2)
no_mechanism mechanism errors.InvalidData other r m = r m.0 m.1 (ap (tlv 6) m.2)
no_mechanism mechanism errors.UnsupportedValue other r m = r m.0 m.1 (ap (tlv 6) m.2)
no_mechanism mechanism (errors.Io x) other r m = r

content_error : (mechanism : List ℕ) (e : Asn1DerError) → TaggedError 6 ArcsError 6 mechanism e → ArcsError mechanism e
content_error mechanism e (other_tag other) = absurd (other refl)
content_error mechanism e (in_content d same f) = f

unmade : (mechanism : List ℕ) (e : Asn1DerError) → (e ≡ errors.OutOfMemory → ⊥) → RejectsAll IsArcs object_identifier (tlv 6 mechanism) e → OrMemory (TaggedError 6 ArcsError 6 mechanism) e
    → (e ≡ errors.OutOfMemory) ⊎ IsNoMechanism mechanism e
unmade mechanism e other r (inl memory) = inl memory
unmade mechanism e other r (inr first) = inr (no_mechanism mechanism e other r, content_error mechanism e first)

pub made_error : (mechanism : List ℕ) (e : Asn1DerError) → RejectsAll IsArcs object_identifier (tlv 6 mechanism) e → OrMemory (TaggedError 6 ArcsError 6 mechanism) e
    → (e ≡ errors.OutOfMemory) ⊎ IsNoMechanism mechanism e
made_error mechanism errors.OutOfMemory r first = inl refl
made_error mechanism e r first = unmade mechanism e (λ same. (cc)) r first

pub made_is : (mechanism inner arcs a b c : List ℕ) → IsArcs arcs → tlv 6 mechanism ≡ object_identifier arcs → a ≡ [] ++ tlv 6 mechanism → b ≡ a ++ inner → c ≡ take 0 b ++ tlv 96 (drop 0 b)
    → IsToken c mechanism inner
made_is mechanism inner arcs a b c valid is first second third =
    ((arcs, valid, tlv_same 6 6 mechanism (arcs_content arcs) is), third ∙ ap (tlv 96) (second ∙ ap (λ (l : List ℕ). l ++ inner) first))
