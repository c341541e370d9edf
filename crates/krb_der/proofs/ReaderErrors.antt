-- The first error of the octets that a reader has left.
use Rattle.std.proofs.Common.{◌≡◌, ℕ, ◌-◌, ◌<◌, ◌≤◌, ◌^◌, Bool, true, false, List, [], ◌∷◌, ◌++◌, length, inl, inr, get_or, Option, None, Some, refl, sym, ap, ◌∙◌, arith}
use Rattle.std.proofs.lemmas.Bool.{cases_lt}
use Rattle.std.proofs.lemmas.List.{length-append}
use Rattle.std.specs.Io.KnownBytes.{Consumes}
use Rattle.krb_der_core.specs.declared.error.Asn1DerError.{Asn1DerError}
use Rattle.krb_der_core.specs.declared.error.Asn1DerError.TheVariants as errors
use Rattle.krb_der_core.specs.Tlv.{len, tlv}
use Rattle.krb_der_core.specs.Reading.{RejectsPrefix, Lengths}
use Rattle.krb_der_core.specs.TlvLaws.{same_heads}
use Rattle.krb_der_core.specs.LengthLaws.{prefix_from_meet}
use Rattle.krb_der_core.specs.Errors.{no_length, other_form, cut_length, long_length, no_tag, wrong_tag, wrong_length, cut_content, wrong_content}
use Rattle.krb_der_core.specs.Errors.{LengthError, PrefixError, OrMemory}
use Rattle.krb_der.specs.Streaming.{Gathers, IsShort, ReaderError}
use Rattle.krb_der.proofs.Streams.{Trailing, first_and, length_all, longer_meet, tag_prefix}

-- ---- a length

pub no_octet : (a : Option (List ℕ)) (e : Asn1DerError) → IsShort 1 a e → ReaderError LengthError a e
no_octet None e s = tt
no_octet (Some p) errors.OutOfMemory s = inl tt
no_octet (Some []) errors.TruncatedData s = inr (no_length refl)
no_octet (Some (i ∷ is)) errors.TruncatedData s = absurd (omega (arith, s))
no_octet (Some p) errors.InvalidData s = absurd s
no_octet (Some p) errors.UnsupportedValue s = absurd s
no_octet (Some p) (errors.Io e) s = inl tt

short_by : (first count : ℕ) (p q : List ℕ) → Trailing first count → (136 < first → count ≡ 0) → p ≡ first ∷ q → length q < count → LengthError p errors.TruncatedData
short_by first count p q k none e short =
    let large : 128 ≤ first → first ≤ 136 → count ≡ first - 128 = k.1 in
    elim (cases_lt first 128) [
      | inl lt ↦ absurd (omega (arith, k.0 lt, short))
      | inr ge ↦ elim (cases_lt 136 first) [
        | inl over ↦ absurd (omega (arith, none over, short))
        | inr le ↦ cut_length first q e (omega (arith, large ge le, short)) le (omega (arith, large ge le, short))
      ]
    ]

pub octets_cut : (a b : Option (List ℕ)) (f : List ℕ) (count : ℕ) (e : Asn1DerError) → Gathers 1 [] f a b → Trailing (get_or f 0 0) count → (136 < get_or f 0 0 → count ≡ 0) → IsShort count b e → ReaderError LengthError a e
octets_cut None b f count e g k none s = tt
octets_cut (Some p) None f count e g k none s = absurd g.3
octets_cut (Some p) (Some q) f count errors.OutOfMemory g k none s = inl tt
octets_cut (Some p) (Some q) f count errors.TruncatedData g k none s = inr (short_by (get_or f 0 0) count p q k none (tag_prefix f g.0 p q g.2 g.1 g.3) s)
octets_cut (Some p) (Some q) f count errors.InvalidData g k none s = absurd s
octets_cut (Some p) (Some q) f count errors.UnsupportedValue g k none s = absurd s
octets_cut (Some p) (Some q) f count (errors.Io e) g k none s = inl tt

-- what is wrong with all octets of a length is wrong with what begins with them
longer_wrong : (first count : ℕ) (bs new p s : List ℕ) (e : Asn1DerError) → new ≡ first ∷ bs → length bs ≡ count → Trailing first count → p ≡ new ++ s → RejectsPrefix Lengths new e → LengthError new e → LengthError p e
longer_wrong first count bs new p s e is long k all r (no_length z) = absurd (let c : [] ≡ first ∷ bs = sym z ∙ is in cc)
longer_wrong first count bs new p s e is long k all r (other_form i x z bad) = other_form i (x ++ s) (all ∙ ap (λ (l : List ℕ). l ++ s) z) bad
longer_wrong first count bs new p s e is long k all r (cut_length i x z gt le short) =
    let h = same_heads i first x bs (sym z ∙ is) in
    let n : count ≡ first - 128 = k.1 (omega (arith, h.0, gt)) (omega (arith, h.0, le)) in
    absurd (omega (arith, n, long, ap length h.1, h.0, short))
longer_wrong first count bs new p s e is long k all r (long_length i x z gt le whole none) =
    let room : i - 128 ≤ length (x ++ s) = omega (arith, whole, length-append x s) in
    long_length i (x ++ s) (all ∙ ap (λ (l : List ℕ). l ++ s) z) gt le room (rw all (prefix_from_meet Lengths (new ++ s) (longer_meet new s r)))

pub octets_wrong : (a b d : Option (List ℕ)) (f new : List ℕ) (count : ℕ) (e : Asn1DerError) → Gathers 1 [] f a b → Trailing (get_or f 0 0) count → Gathers count f new b d → RejectsPrefix Lengths new e → LengthError new e → ReaderError LengthError a e
octets_wrong None b d f new count e g k h r w = tt
octets_wrong (Some p) None d f new count e g k h r w = absurd g.3
octets_wrong (Some p) (Some q) None f new count e g k h r w = absurd h.3
octets_wrong (Some p) (Some q) (Some s) f new count e g k h r w = inr (longer_wrong (get_or f 0 0) count h.0 new p s e (first_and f new g.0 h.0 g.2 g.1 h.2) h.1 k (length_all p q s f new count g h) r w)

-- ---- an element

module _ (first : ℕ → Bool) (error : ℕ → List ℕ → Asn1DerError → Type 0) where
  pub none_left : (a : Option (List ℕ)) (e : Asn1DerError) → IsShort 1 a e → ReaderError (PrefixError first error) a e
  none_left None e s = tt
  none_left (Some p) errors.OutOfMemory s = inl tt
  none_left (Some []) errors.TruncatedData s = inr (no_tag refl)
  none_left (Some (i ∷ is)) errors.TruncatedData s = absurd (omega (arith, s))
  none_left (Some p) errors.InvalidData s = absurd s
  none_left (Some p) errors.UnsupportedValue s = absurd s
  none_left (Some p) (errors.Io e) s = inl tt

  pub other_first : (a b : Option (List ℕ)) (f : List ℕ) → Gathers 1 [] f a b → first (get_or f 0 0) ≡ false → ReaderError (PrefixError first error) a errors.InvalidData
  other_first None b f g w = tt
  other_first (Some p) None f g w = absurd g.3
  other_first (Some p) (Some q) f g w = inr (wrong_tag (get_or f 0 0) q (tag_prefix f g.0 p q g.2 g.1 g.3) w)

  pub length_in_error : (a b : Option (List ℕ)) (f : List ℕ) (e : Asn1DerError) → Gathers 1 [] f a b → first (get_or f 0 0) ≡ true → ReaderError LengthError b e → ReaderError (PrefixError first error) a e
  length_in_error None b f e g w h = tt
  length_in_error (Some p) None f e g w h = absurd g.3
  length_in_error (Some p) (Some q) f e g w (inl m) = inl m
  length_in_error (Some p) (Some q) f e g w (inr h) = inr (wrong_length (get_or f 0 0) q e (tag_prefix f g.0 p q g.2 g.1 g.3) w h)

  cut_here : (t n : ℕ) (p q s : List ℕ) → p ≡ t ∷ q → q ≡ len n ++ s → first t ≡ true → n < 2 ^ 64 → length s < n → PrefixError first error p errors.TruncatedData
  cut_here t n p q s e f w lt short = cut_content t n s (e ∙ ap (λ (l : List ℕ). t ∷ l) f) w lt short

  pub content_short : (a b c : Option (List ℕ)) (f : List ℕ) (n : ℕ) (e : Asn1DerError) → Gathers 1 [] f a b → first (get_or f 0 0) ≡ true → Consumes b c (len n) → n < 2 ^ 64 → IsShort n c e → ReaderError (PrefixError first error) a e
  content_short None b c f n e g w h lt s = tt
  content_short (Some p) None c f n e g w h lt s = absurd g.3
  content_short (Some p) (Some q) None f n e g w h lt s = absurd h
  content_short (Some p) (Some q) (Some r) f n errors.OutOfMemory g w h lt s = inl tt
  content_short (Some p) (Some q) (Some r) f n errors.TruncatedData g w h lt s = inr (cut_here (get_or f 0 0) n p q r (tag_prefix f g.0 p q g.2 g.1 g.3) h w lt s)
  content_short (Some p) (Some q) (Some r) f n errors.InvalidData g w h lt s = absurd s
  content_short (Some p) (Some q) (Some r) f n errors.UnsupportedValue g w h lt s = absurd s
  content_short (Some p) (Some q) (Some r) f n (errors.Io e) g w h lt s = inl tt

  pub content_in_error : (a d : Option (List ℕ)) (t : ℕ) (content : List ℕ) (e : Asn1DerError) → Consumes a d (tlv t content) → first t ≡ true → length content < 2 ^ 64 → OrMemory (error t content) e → ReaderError (PrefixError first error) a e
  content_in_error None d t content e h w lt f = tt
  content_in_error (Some p) None t content e h w lt f = absurd h
  content_in_error (Some p) (Some s) t content e h w lt (inl m) = inl (rw m tt)
  content_in_error (Some p) (Some s) t content e h w lt (inr f) = inr (wrong_content t content s e h w lt f)

pub gathered_fits : (n : ℕ) (new : List ℕ) (a b : Option (List ℕ)) → Gathers n [] new a b → n < 2 ^ 64 → length new < 2 ^ 64
gathered_fits n new a b g lt = omega (arith, ap length g.2, g.1, lt)
