-- Frames that were read.
use Rattle.std.proofs.Common.{◌≡◌, ℕ, ◌+◌, ◌<◌, ◌≤◌, ◌^◌, List, [], ◌∷◌, ◌++◌, length, drop, get_or, Option, None, Some, refl, sym, ap, ◌∙◌, subst, append_assoc, arith, inl, inr}
use Rattle.std.proofs.lemmas.List.{length-append}
use Rattle.std.proofs.Math.Seq.{drop-append_seam}
use Rattle.std.specs.Prelude.{Result, Ok, Err, IfOk, IfErr, MatchResult}
use Rattle.std.specs.Io.KnownBytes.{Consumes}
use Rattle.std.proofs.KnownBytes.{Consumes-trans}
use Rattle.krb_der_core.specs.Errors.{PrefixError, OrMemory}
use Rattle.krb_der_core.specs.ErrorLaws.{prefix_laws}
use Rattle.krb_der_core.specs.Reading.{Encodings, RejectsPrefix, TakesPrefix}
use Rattle.krb_der_core.specs.TlvLaws.{field_apart, same_prefixes}
use Rattle.krb_der_core.specs.declared.der.DerEncode.{Ghosts as EncodingOf}
use Rattle.krb_der_core.specs.declared.error.Asn1DerError.{Asn1DerError}
use Rattle.krb_der_core.specs.declared.error.Asn1DerError.TheVariants as errors
use Rattle.krb_der.specs.FieldLaws.{same_both}
use Rattle.krb_der.specs.Streaming.{ReaderError, RejectsReader}
use Rattle.krb_messages.specs.Frame.{IsFramed}
use Rattle.krb_messages.specs.Rejected.{TrailingHeader, FrameError, FrameRejected, HeaderRejected, HeaderTaken, IsCut, IsFailure, IsOfOtherVersion, IsShort, MessageRejected, ReaderFailed, ReaderRejected, der_error, reader_reported_in, reported_in}
use Rattle.krb_messages.specs.declared.kpasswd.error.MessageError.{MessageError}
use Rattle.krb_messages.specs.declared.kpasswd.error.MessageError.TheVariants as message_errors
use Rattle.krb_messages.specs.declared.kpasswd.error.ReadFrameError.{ReadFrameError}
use Rattle.krb_messages.specs.declared.kpasswd.error.ReadFrameError.TheVariants as unread
use Rattle.krb_messages.specs.declared.kpasswd.rejection.Rejection.{Rejection}
use Rattle.krb_messages.specs.declared.kpasswd.rejection.Rejection.TheVariants as rejections

-- ---- what was read

rejoined : (whole first p q t : List ℕ) → whole ++ (0 ∷ 1 ∷ (first ++ (p ++ (q ++ t)))) ≡ (whole ++ (0 ∷ 1 ∷ (first ++ (p ++ q)))) ++ t
rejoined whole first p q t = sym (simp append_assoc)

pub frame_taken : (a b c d : Option (List ℕ)) (p q : List ℕ) → HeaderTaken a b → Consumes b c p → Consumes c d q → (x : List ℕ) × IsFramed x p q × Consumes a d x
frame_taken None b c d p q h k l = (_, record { whole = 0 ∷ 0 ∷ []; first = 0 ∷ 0 ∷ []; whole_long = refl; first_long = refl; parts = refl }, tt)
frame_taken (Some o) None c d p q h k l = absurd h
frame_taken (Some o) (Some r) None d p q h k l = absurd k
frame_taken (Some o) (Some r) (Some s) None p q h k l = absurd l
frame_taken (Some o) (Some r) (Some s) (Some t) p q h k l =
    let trailing : r ≡ p ++ (q ++ t) = k ∙ ap (λ (y : List ℕ). p ++ y) l in (
      h.whole ++ (0 ∷ 1 ∷ (h.first ++ (p ++ q))),
      record { whole = h.whole; first = h.first; whole_long = h.whole_long; first_long = h.first_long; parts = refl },
      h.parts ∙ ap (λ (y : List ℕ). h.whole ++ (0 ∷ 1 ∷ (h.first ++ y))) trailing ∙ rejoined h.whole h.first p q t,
    )

-- ---- one reading

-- what follows the six octets before the messages is one list
one_rest : (o r s : List ℕ) → TrailingHeader o r → TrailingHeader o s → r ≡ s
one_rest o r s h k =
    let prefix = same_prefixes h.whole k.whole (0 ∷ 1 ∷ (h.first ++ r)) (0 ∷ 1 ∷ (k.first ++ s)) (h.whole_long ∙ sym k.whole_long) (sym h.parts ∙ k.parts) in
    (same_prefixes h.first k.first r s (h.first_long ∙ sym k.first_long) (ap (λ (l : List ℕ). drop 2 l) prefix.1)).1

trailing_frame : (o x p q t : List ℕ) → IsFramed x p q → o ≡ x ++ t → TrailingHeader o (p ++ (q ++ t))
trailing_frame o x p q t f e = record {
  whole = f.whole;
  first = f.first;
  whole_long = f.whole_long;
  first_long = f.first_long;
  parts = e ∙ ap (λ (l : List ℕ). l ++ t) f.parts ∙ sym (rejoined f.whole f.first p q t);
}

header_length : (o r : List ℕ) → TrailingHeader o r → length o ≡ 6 + length r
header_length o r h = omega (arith, ap length h.parts, length-append h.whole (0 ∷ 1 ∷ (h.first ++ r)), length-append h.first r, h.whole_long, h.first_long)

never_cut : (o r : List ℕ) → TrailingHeader o r → IsCut o → ⊥
never_cut o r h (inl short) = omega (arith, short, header_length o r h)
never_cut o r h (inr cut) = omega (arith, header_length o r h, ap length cut.1.parts, length-append cut.1.whole (0 ∷ 1 ∷ cut.0), cut.1.whole_long, cut.2)

one_version : (o r : List ℕ) → TrailingHeader o r → IsOfOtherVersion o → ⊥
one_version o r h v =
    let prefix = same_prefixes v.2.whole h.whole (v.0 ++ v.1) (0 ∷ 1 ∷ (h.first ++ r)) (v.2.whole_long ∙ sym h.whole_long) (sym v.2.parts ∙ h.parts) in
    v.4 (same_prefixes v.0 (0 ∷ 1 ∷ []) v.1 (h.first ++ r) v.3 prefix.1).0

-- ---- the six octets before the messages, of a slice

pub header_stands : (octets : List ℕ) → 6 ≤ length octets → get_or octets 2 0 ∷ get_or octets 3 0 ∷ [] ≡ 0 ∷ 1 ∷ [] → TrailingHeader octets (drop 6 octets)
header_stands (a ∷ b ∷ c ∷ d ∷ e ∷ f ∷ rest) le v = record { whole = a ∷ b ∷ []; first = e ∷ f ∷ []; whole_long = refl; first_long = refl; parts = cc }
header_stands octets le v = absurd (omega (arith, le))

pub header_cut : (octets : List ℕ) → 4 ≤ length octets → length octets < 6 → get_or octets 2 0 ∷ get_or octets 3 0 ∷ [] ≡ 0 ∷ 1 ∷ [] → IsCut octets
header_cut (a ∷ b ∷ c ∷ d ∷ rest) le lt v = inr (rest, record { whole = a ∷ b ∷ []; whole_long = refl; parts = cc }, omega (arith, lt))
header_cut octets le lt v = absurd (omega (arith, le))

pub header_other : (octets : List ℕ) → 4 ≤ length octets → (get_or octets 2 0 ∷ get_or octets 3 0 ∷ [] ≡ 0 ∷ 1 ∷ [] → ⊥) → IsOfOtherVersion octets
header_other (a ∷ b ∷ c ∷ d ∷ rest) le v = (c ∷ d ∷ [], rest, record { whole = a ∷ b ∷ []; whole_long = refl; parts = refl }, refl, v)
header_other octets le v = absurd (omega (arith, le))

-- ---- errors

error_is : (e d : MessageError) → der_error e ≡ der_error d → e ≡ d
error_is message_errors.InvalidData message_errors.InvalidData p = refl
error_is message_errors.InvalidData message_errors.TruncatedData p = absurd cc
error_is message_errors.InvalidData message_errors.UnsupportedValue p = absurd cc
error_is message_errors.TruncatedData message_errors.InvalidData p = absurd cc
error_is message_errors.TruncatedData message_errors.TruncatedData p = refl
error_is message_errors.TruncatedData message_errors.UnsupportedValue p = absurd cc
error_is message_errors.UnsupportedValue message_errors.InvalidData p = absurd cc
error_is message_errors.UnsupportedValue message_errors.TruncatedData p = absurd cc
error_is message_errors.UnsupportedValue message_errors.UnsupportedValue p = refl

none_at_start : {A : Type 0} (a : EncodingOf A) (octets rest : List ℕ) (e : MessageError) (v : A) → MessageRejected a octets e → a.is_value v → length (a.enc v) < 2 ^ 64 → octets ≡ a.enc v ++ rest → ⊥
none_at_start a octets rest message_errors.InvalidData v r iv lt q = r.1.0 (a.enc v) rest (v, iv, lt, refl) q
none_at_start a octets rest message_errors.TruncatedData v r iv lt q = r.1 (a.enc v) rest (v, iv, lt, refl) q
none_at_start a octets rest message_errors.UnsupportedValue v r iv lt q = r.1.0 (a.enc v) rest (v, iv, lt, refl) q

one_message_error : {A : Type 0} (a : EncodingOf A) (octets : List ℕ) (e d : MessageError) → length octets < 2 ^ 64 → MessageRejected a octets e → MessageRejected a octets d → e ≡ d
one_message_error a octets e d lt r s = error_is e d ((prefix_laws a.is_value a.enc a.first a.is_element a.error a.error_laws a.one_value).one_error octets (der_error e) (der_error d) lt r.0 s.0)

none_stands : {A : Type 0} (a : EncodingOf A) (octets rest : List ℕ) (e : MessageError) (v : A) → length octets < 2 ^ 64 → MessageRejected a octets e → a.is_value v → octets ≡ a.enc v ++ rest → ⊥
none_stands a octets rest e v lt r iv q = (prefix_laws a.is_value a.enc a.first a.is_element a.error a.error_laws a.one_value).no_value octets (der_error e) lt r.0 v rest iv q tt

rest_fits : (octets rest : List ℕ) → TrailingHeader octets rest → length octets < 2 ^ 64 → length rest < 2 ^ 64
rest_fits octets rest h lt = omega (arith, header_length octets rest h)

cut_version : (o : List ℕ) → IsCut o → IsOfOtherVersion o → ⊥
cut_version o (inl short) v = omega (arith, short, ap length v.2.parts, length-append v.2.whole (v.0 ++ v.1), length-append v.0 v.1, v.2.whole_long, v.3)
cut_version o (inr cut) v =
    let prefix = same_prefixes v.2.whole cut.1.whole (v.0 ++ v.1) (0 ∷ 1 ∷ cut.0) (v.2.whole_long ∙ sym cut.1.whole_long) (sym v.2.parts ∙ cut.1.parts) in
    v.4 (same_prefixes v.0 (0 ∷ 1 ∷ []) v.1 cut.0 v.3 prefix.1).0

module _ {A B : Type 0} (a : EncodingOf A) (b : EncodingOf B) where
  -- the error of the message in this place, whose encoding is not at the start of the rest
  unread_at : {C : Type 0} (c : EncodingOf C) (place : MessageError → ReadFrameError) (octets rest : List ℕ) (e : Asn1DerError) → FrameRejected a b octets unread.OutOfMemory
      → ((why : MessageError) → MessageRejected c rest why → FrameRejected a b octets (place why)) → RejectsPrefix (Encodings c.is_value c.enc) rest e → OrMemory (PrefixError c.first c.error rest) e
      → FrameRejected a b octets (reported_in place e)
  unread_at c place octets rest errors.OutOfMemory memory at r f = memory
  unread_at c place octets rest errors.TruncatedData memory at r (inl m) = absurd cc
  unread_at c place octets rest errors.TruncatedData memory at r (inr f) = at message_errors.TruncatedData (f, r)
  unread_at c place octets rest errors.InvalidData memory at r (inl m) = absurd cc
  unread_at c place octets rest errors.InvalidData memory at r (inr f) = at message_errors.InvalidData (f, r)
  unread_at c place octets rest errors.UnsupportedValue memory at r (inl m) = absurd cc
  unread_at c place octets rest errors.UnsupportedValue memory at r (inr f) = at message_errors.UnsupportedValue (f, r)
  unread_at c place octets rest (errors.Io e) memory at r f = absurd r

  pub first_unread : (octets rest : List ℕ) (e : Asn1DerError) → TrailingHeader octets rest → RejectsPrefix (Encodings a.is_value a.enc) rest e → OrMemory (PrefixError a.first a.error rest) e
      → FrameRejected a b octets (reported_in unread.ApMessage e)
  first_unread octets rest e h = unread_at a unread.ApMessage octets rest e (inl (refl, (rest, h))) (λ why none. inr (rest, h, none))

  pub second_unread : (octets rest : List ℕ) (v : A) (e : Asn1DerError) → a.is_value v → TrailingHeader octets (a.enc v ++ rest) → RejectsPrefix (Encodings b.is_value b.enc) rest e → OrMemory (PrefixError b.first b.error rest) e
      → FrameRejected a b octets (reported_in unread.KrbPriv e)
  second_unread octets rest v e i h = unread_at b unread.KrbPriv octets rest e (inl (refl, (a.enc v ++ rest, h))) (λ why none. inr (v, (rest, i, h, none)))

  pub header_untaken : (before after : Option (List ℕ)) (why : Rejection) → HeaderRejected before after why → ReaderRejected a b before after why
  header_untaken None after why h = tt
  header_untaken (Some o) after (rejections.Frame unread.Cut) h = inr h
  header_untaken (Some o) after (rejections.Frame unread.Version) h = inr h
  header_untaken (Some o) after (rejections.Frame (unread.ApMessage e)) h = absurd h
  header_untaken (Some o) after (rejections.Frame (unread.KrbPriv e)) h = absurd h
  header_untaken (Some o) after (rejections.Frame unread.OutOfMemory) h = absurd h
  header_untaken (Some o) after (rejections.Device e) h = inl h

  -- the same of what a reader has left after the header
  untaken_at : {C : Type 0} (c : EncodingOf C) (place : MessageError → ReadFrameError) (octets rest : List ℕ) (after : Option (List ℕ)) (e : Asn1DerError) → FrameRejected a b octets unread.OutOfMemory
      → ReaderFailed octets after → ((why : MessageError) → MessageRejected c rest why → FrameRejected a b octets (place why))
      → RejectsReader (Encodings c.is_value c.enc) (Some rest) e → ReaderError (PrefixError c.first c.error) (Some rest) e → ReaderRejected a b (Some octets) after (reader_reported_in place e)
  untaken_at c place octets rest after errors.OutOfMemory memory failed at r f = memory
  untaken_at c place octets rest after errors.TruncatedData memory failed at r (inl m) = absurd m
  untaken_at c place octets rest after errors.TruncatedData memory failed at r (inr f) = at message_errors.TruncatedData (f, r)
  untaken_at c place octets rest after errors.InvalidData memory failed at r (inl m) = absurd m
  untaken_at c place octets rest after errors.InvalidData memory failed at r (inr f) = at message_errors.InvalidData (f, r)
  untaken_at c place octets rest after errors.UnsupportedValue memory failed at r (inl m) = absurd m
  untaken_at c place octets rest after errors.UnsupportedValue memory failed at r (inr f) = at message_errors.UnsupportedValue (f, r)
  untaken_at c place octets rest after (errors.Io e) memory failed at r f = failed

  pub first_untaken : (before mid after : Option (List ℕ)) (e : Asn1DerError) → HeaderTaken before mid → RejectsReader (Encodings a.is_value a.enc) mid e → ReaderError (PrefixError a.first a.error) mid e
      → ReaderRejected a b before after (reader_reported_in unread.ApMessage e)
  first_untaken None mid after e h r f = tt
  first_untaken (Some o) None after e h r f = absurd h
  first_untaken (Some o) (Some p) after e h r f = untaken_at a unread.ApMessage o p after e (inl (refl, (p, h))) (inr (p, h)) (λ why none. inr (p, h, none)) r f

  pub second_untaken : (before mid next after : Option (List ℕ)) (v : A) (e : Asn1DerError) → HeaderTaken before mid → a.is_value v → Consumes mid next (a.enc v)
      → RejectsReader (Encodings b.is_value b.enc) next e → ReaderError (PrefixError b.first b.error) next e → ReaderRejected a b before after (reader_reported_in unread.KrbPriv e)
  second_untaken None mid next after v e h i k r f = tt
  second_untaken (Some o) None next after v e h i k r f = absurd h
  second_untaken (Some o) (Some p) None after v e h i k r f = absurd k
  second_untaken (Some o) (Some p) (Some q) after v e h i k r f =
      untaken_at b unread.KrbPriv o q after e (inl (refl, (p, h))) (inr (p, h)) (λ why none. inr (v, (q, i, subst (TrailingHeader o) k h, none))) r f

  -- ---- one reading, and one error

  -- where a frame is at the start, there is no error
  pub no_error : (o : List ℕ) (why : ReadFrameError) (v : A) (w : B) (rest : List ℕ) → a.is_value v → b.is_value w → length (a.enc v) < 2 ^ 64 → length (b.enc w) < 2 ^ 64
      → TrailingHeader o (a.enc v ++ (b.enc w ++ rest)) → FrameError a b o why → ⊥
  no_error o unread.Cut v w rest iv iw lv lw h r = never_cut o _ h r
  no_error o unread.Version v w rest iv iw lv lw h r = one_version o _ h r
  no_error o (unread.ApMessage e) v w rest iv iw lv lw h r = none_at_start a r.0 (b.enc w ++ rest) e v r.2 iv lv (one_rest o r.0 _ r.1 h)
  no_error o (unread.KrbPriv e) v w rest iv iw lv lw h r =
      let second = field_apart a.enc a.is_value a.first a.is_element a.one_value r.0 v r.1.0 (b.enc w ++ rest) r.1.1 iv (one_rest o _ _ r.1.2 h) in
      none_at_start b r.1.0 rest e w r.1.3 iw lw second.1
  no_error o unread.OutOfMemory v w rest iv iw lv lw h r = r

  same_messages : (o x t : List ℕ) (p q : A × B) (rest : List ℕ) → a.is_value p.0 × b.is_value p.1 → a.is_value q.0 → b.is_value q.1
      → TrailingHeader o (a.enc q.0 ++ (b.enc q.1 ++ rest)) → IsFramed x (a.enc p.0) (b.enc p.1) → o ≡ x ++ t → (p ≡ q) × (t ≡ rest)
  same_messages o x t p q rest ip iq jq h f e =
      let all = one_rest o _ _ (trailing_frame o x (a.enc p.0) (b.enc p.1) t f e) h in
      let first = field_apart a.enc a.is_value a.first a.is_element a.one_value p.0 q.0 (b.enc p.1 ++ t) (b.enc q.1 ++ rest) ip.0 iq all in
      let second = field_apart b.enc b.is_value b.first b.is_element b.one_value p.1 q.1 t rest ip.1 jq first.1 in
      (same_both p q first.0 second.0, second.1)

  failed : (o : List ℕ) (after : Option (List ℕ)) (why : Rejection) (v : A) (w : B) (rest : List ℕ) → a.is_value v → b.is_value w → length (a.enc v) < 2 ^ 64 → length (b.enc w) < 2 ^ 64
      → TrailingHeader o (a.enc v ++ (b.enc w ++ rest)) → ReaderRejected a b (Some o) after why → IsFailure why
  failed o after (rejections.Frame unread.OutOfMemory) v w rest iv iw lv lw h r = tt
  failed o after (rejections.Frame unread.Cut) v w rest iv iw lv lw h (inl m) = absurd cc
  failed o after (rejections.Frame unread.Cut) v w rest iv iw lv lw h (inr r) = no_error o unread.Cut v w rest iv iw lv lw h r
  failed o after (rejections.Frame unread.Version) v w rest iv iw lv lw h (inl m) = absurd cc
  failed o after (rejections.Frame unread.Version) v w rest iv iw lv lw h (inr r) = no_error o unread.Version v w rest iv iw lv lw h r
  failed o after (rejections.Frame (unread.ApMessage e)) v w rest iv iw lv lw h (inl m) = absurd cc
  failed o after (rejections.Frame (unread.ApMessage e)) v w rest iv iw lv lw h (inr r) = no_error o (unread.ApMessage e) v w rest iv iw lv lw h r
  failed o after (rejections.Frame (unread.KrbPriv e)) v w rest iv iw lv lw h (inl m) = absurd cc
  failed o after (rejections.Frame (unread.KrbPriv e)) v w rest iv iw lv lw h (inr r) = no_error o (unread.KrbPriv e) v w rest iv iw lv lw h r
  failed o after (rejections.Device e) v w rest iv iw lv lw h r = tt

  frame_length : (frame p q : List ℕ) → IsFramed frame p q → length frame ≡ 6 + (length p + length q)
  frame_length frame p q f = omega (arith, ap length f.parts, length-append f.whole (0 ∷ 1 ∷ (f.first ++ (p ++ q))), length-append f.first (p ++ q), length-append p q, f.whole_long, f.first_long)

  pub frame_read : (before after : Option (List ℕ)) (r : Result (A × B) Rejection)
      → IfOk r (λ p. a.is_value p.0 × b.is_value p.1) → IfOk r (λ p. (x : List ℕ) × IsFramed x (a.enc p.0) (b.enc p.1) × Consumes before after x) → IfErr r (ReaderRejected a b before after)
      → (v : A) (w : B) (octets rest : List ℕ) → a.is_value v → b.is_value w → length octets < 2 ^ 64 → IsFramed octets (a.enc v) (b.enc w) → before ≡ Some (octets ++ rest)
      → MatchResult r (λ p. (p ≡ (v, w)) × (after ≡ Some rest)) IsFailure
  frame_read None after r valid found rejected v w octets rest iv iw lt f q = absurd cc
  frame_read (Some o) None (Ok p) valid found rejected v w octets rest iv iw lt f q = absurd found.2
  frame_read (Some o) (Some t) (Ok p) valid found rejected v w octets rest iv iw lt f q =
      let same : o ≡ octets ++ rest = cc in
      let one = same_messages o found.0 t p (v, w) rest valid iv iw (trailing_frame o octets (a.enc v) (b.enc w) rest f same) found.1 found.2 in
      (one.0, ap Some one.1)
  frame_read (Some o) after (Err why) valid found rejected v w octets rest iv iw lt f q =
      let same : o ≡ octets ++ rest = cc in
      let h = trailing_frame o octets (a.enc v) (b.enc w) rest f same in
      let long = frame_length octets (a.enc v) (b.enc w) f in
      failed o after why v w rest iv iw (omega (arith, long, lt)) (omega (arith, long, lt)) h rejected

  pub frame_at_start : (o : List ℕ) (r : Result ((A × B) × ℕ) ReadFrameError)
      → IfOk r (λ p. a.is_value p.0.0 × b.is_value p.0.1) → IfOk r (λ p. (x : List ℕ) × IsFramed x (a.enc p.0.0) (b.enc p.0.1) × TakesPrefix x p.1 o) → IfErr r (FrameRejected a b o)
      → length o < 2 ^ 64 → (v : A) (w : B) (frame rest : List ℕ) → a.is_value v → b.is_value w → IsFramed frame (a.enc v) (b.enc w) → o ≡ frame ++ rest
      → MatchResult r (λ p. p ≡ ((v, w), length frame)) (λ e. e ≡ unread.OutOfMemory)
  frame_at_start o (Ok p) valid found rejected lt v w frame rest iv iw f q =
      let one = same_messages o found.0 (drop p.1 o) p.0 (v, w) rest valid iv iw (trailing_frame o frame (a.enc v) (b.enc w) rest f q) found.1 found.2.prefix in
      let size : p.1 ≡ length frame = omega (arith, found.2.count, ap length found.2.prefix, length-append found.0 (drop p.1 o), ap length one.1, ap length q, length-append frame rest) in
      same_both p ((v, w), length frame) one.0 size
  frame_at_start o (Err why) valid found (inl m) lt v w frame rest iv iw f q = m.0
  frame_at_start o (Err why) valid found (inr r) lt v w frame rest iv iw f q =
      let h = trailing_frame o frame (a.enc v) (b.enc w) rest f q in
      let long = frame_length frame (a.enc v) (b.enc w) f in
      let whole : length o ≡ length frame + length rest = ap length q ∙ length-append frame rest in
      absurd (no_error o why v w rest iv iw (omega (arith, long, lt, whole)) (omega (arith, long, lt, whole)) h r)

  -- octets that begin with a frame have none
  pub frame_errorless : (v : A) (w : B) (x rest : List ℕ) (e : ReadFrameError) → a.is_value v → b.is_value w → length x < 2 ^ 64 → IsFramed x (a.enc v) (b.enc w) → FrameError a b (x ++ rest) e → ⊥
  frame_errorless v w x rest e iv iw lt f g =
      let long = frame_length x (a.enc v) (b.enc w) f in
      no_error (x ++ rest) e v w rest iv iw (omega (arith, long, lt)) (omega (arith, long, lt)) (trailing_frame (x ++ rest) x (a.enc v) (b.enc w) rest f refl) g

  -- octets have one first error
  pub one_error : (o : List ℕ) (e d : ReadFrameError) → length o < 2 ^ 64 → FrameError a b o e → FrameError a b o d → e ≡ d
  one_error o unread.Cut unread.Cut lt f g = refl
  one_error o unread.Cut unread.Version lt f g = absurd (cut_version o f g)
  one_error o unread.Cut (unread.ApMessage d) lt f g = absurd (never_cut o g.0 g.1 f)
  one_error o unread.Cut (unread.KrbPriv d) lt f g = absurd (never_cut o _ g.1.2 f)
  one_error o unread.Version unread.Cut lt f g = absurd (cut_version o g f)
  one_error o unread.Version unread.Version lt f g = refl
  one_error o unread.Version (unread.ApMessage d) lt f g = absurd (one_version o g.0 g.1 f)
  one_error o unread.Version (unread.KrbPriv d) lt f g = absurd (one_version o _ g.1.2 f)
  one_error o (unread.ApMessage e) unread.Cut lt f g = absurd (never_cut o f.0 f.1 g)
  one_error o (unread.ApMessage e) unread.Version lt f g = absurd (one_version o f.0 f.1 g)
  one_error o (unread.ApMessage e) (unread.ApMessage d) lt f g =
      ap unread.ApMessage (one_message_error a f.0 e d (rest_fits o f.0 f.1 lt) f.2 (subst (λ (l : List ℕ). MessageRejected a l d) (one_rest o g.0 f.0 g.1 f.1) g.2))
  one_error o (unread.ApMessage e) (unread.KrbPriv d) lt f g = absurd (none_stands a f.0 g.1.0 e g.0 (rest_fits o f.0 f.1 lt) f.2 g.1.1 (one_rest o f.0 _ f.1 g.1.2))
  one_error o (unread.KrbPriv e) unread.Cut lt f g = absurd (never_cut o _ f.1.2 g)
  one_error o (unread.KrbPriv e) unread.Version lt f g = absurd (one_version o _ f.1.2 g)
  one_error o (unread.KrbPriv e) (unread.ApMessage d) lt f g = absurd (none_stands a g.0 f.1.0 d f.0 (rest_fits o g.0 g.1 lt) g.2 f.1.1 (one_rest o g.0 _ g.1 f.1.2))
  one_error o (unread.KrbPriv e) (unread.KrbPriv d) lt f g =
      let same = field_apart a.enc a.is_value a.first a.is_element a.one_value g.0 f.0 g.1.0 f.1.0 g.1.1 f.1.1 (one_rest o _ _ g.1.2 f.1.2) in
      let fits : length f.1.0 < 2 ^ 64 = omega (arith, rest_fits o (a.enc f.0 ++ f.1.0) f.1.2 lt, length-append (a.enc f.0) f.1.0) in
      ap unread.KrbPriv (one_message_error b f.1.0 e d fits f.1.3 (subst (λ (l : List ℕ). MessageRejected b l d) same.1 g.1.3))
  one_error o unread.OutOfMemory d lt f g = absurd f
  one_error o e unread.OutOfMemory lt f g = absurd g

-- ---- what was read of a frame at the start

prefix_of : (x t o : List ℕ) (n : ℕ) → n ≡ length x → o ≡ x ++ t → TakesPrefix x n o
prefix_of x t o n e q = record { count = e; prefix = q ∙ ap (λ (l : List ℕ). x ++ l) (sym (ap (drop n) q ∙ ap (λ (k : ℕ). drop k (x ++ t)) e ∙ drop-append_seam x t)) }

pub prefix_taken : (o trailing p q : List ℕ) (n m : ℕ) → TrailingHeader o trailing → TakesPrefix p n trailing → TakesPrefix q m (drop n trailing)
    → (x : List ℕ) × IsFramed x p q × TakesPrefix x (6 + n + m) o
prefix_taken o trailing p q n m h k l =
    let t = drop m (drop n trailing) in
    let x = h.whole ++ (0 ∷ 1 ∷ (h.first ++ (p ++ q))) in
    let apart : trailing ≡ p ++ (q ++ t) = k.prefix ∙ ap (λ (y : List ℕ). p ++ y) l.prefix in
    let whole : o ≡ x ++ t = h.parts ∙ ap (λ (y : List ℕ). h.whole ++ (0 ∷ 1 ∷ (h.first ++ y))) apart ∙ rejoined h.whole h.first p q t in
    let size : 6 + n + m ≡ length x = omega (arith, k.count, l.count, length-append h.whole (0 ∷ 1 ∷ (h.first ++ (p ++ q))), length-append h.first (p ++ q), length-append p q, h.whole_long, h.first_long) in
    (x, record { whole = h.whole; first = h.first; whole_long = h.whole_long; first_long = h.first_long; parts = refl }, prefix_of x t o (6 + n + m) size whole)

-- ---- the six octets before the messages, from a reader

pub second_short : (before mid after : Option (List ℕ)) (whole : List ℕ) (why : Rejection) → length whole ≡ 2 → Consumes before mid whole → IsShort mid after why → HeaderRejected before after why
second_short None mid after whole why two k s = tt
second_short (Some o) None after whole why two k s = absurd k
second_short (Some o) (Some p) after whole (rejections.Frame unread.Cut) two k s = inl (omega (arith, s, two, ap length k, length-append whole p))
second_short (Some o) (Some p) after whole (rejections.Frame unread.Version) two k s = absurd s
second_short (Some o) (Some p) after whole (rejections.Frame (unread.ApMessage e)) two k s = absurd s
second_short (Some o) (Some p) after whole (rejections.Frame (unread.KrbPriv e)) two k s = absurd s
second_short (Some o) (Some p) after whole (rejections.Frame unread.OutOfMemory) two k s = absurd s
second_short (Some o) (Some p) after whole (rejections.Device e) two k s =
    (whole ++ s.0, inl (omega (arith, s.1, two, length-append whole s.0)), Consumes-trans (Some o) (Some p) after whole s.0 k s.2)

pub third_short : (before mid next after : Option (List ℕ)) (whole version : List ℕ) (why : Rejection) → length whole ≡ 2 → version ≡ 0 ∷ 1 ∷ [] → Consumes before mid whole → Consumes mid next version
    → IsShort next after why → HeaderRejected before after why
third_short None mid next after whole version why two one k l s = tt
third_short (Some o) None next after whole version why two one k l s = absurd k
third_short (Some o) (Some p) None after whole version why two one k l s = absurd l
third_short (Some o) (Some p) (Some q) after whole version (rejections.Frame unread.Cut) two one k l s =
    inr (q, record { whole = whole; whole_long = two; parts = k ∙ ap (λ (y : List ℕ). whole ++ y) (l ∙ ap (λ (y : List ℕ). y ++ q) one) }, s)
third_short (Some o) (Some p) (Some q) after whole version (rejections.Frame unread.Version) two one k l s = absurd s
third_short (Some o) (Some p) (Some q) after whole version (rejections.Frame (unread.ApMessage e)) two one k l s = absurd s
third_short (Some o) (Some p) (Some q) after whole version (rejections.Frame (unread.KrbPriv e)) two one k l s = absurd s
third_short (Some o) (Some p) (Some q) after whole version (rejections.Frame unread.OutOfMemory) two one k l s = absurd s
third_short (Some o) (Some p) (Some q) after whole version (rejections.Device e) two one k l s =
    let both : Consumes (Some p) after (0 ∷ 1 ∷ s.0) = subst (λ (y : List ℕ). Consumes (Some p) after (y ++ s.0)) one (Consumes-trans (Some p) (Some q) after version s.0 l s.2) in (
      whole ++ (0 ∷ 1 ∷ s.0),
      inr (s.0, record { whole = whole; whole_long = two; parts = refl }, s.1),
      Consumes-trans (Some o) (Some p) after whole (0 ∷ 1 ∷ s.0) k both,
    )
