-- Octets taken from a reader.
use Rattle.std.proofs.Common.{◌≡◌, ℕ, ◌+◌, ◌-◌, ◌<◌, ◌≤◌, ◌^◌, Bool, true, false, eqb, List, [], ◌∷◌, ◌++◌, length, drop, inl, inr, ◌⊎◌, get_or, Option, None, Some, refl, sym, ap, ◌∙◌, append_assoc, arith}
use Rattle.std.proofs.KnownBytes.{Consumes-nil, Consumes-trans}
use Rattle.std.proofs.lemmas.List.{append-nil, length-append, drop_at, get_or_read, nil_from_length}
use Rattle.std.proofs.lemmas.Bool.{eqb-true}
use Rattle.std.specs.Prelude.{Result, Ok, Err, IfOk, IfErr}
use Rattle.std.specs.Int.Digits.{digits_of}
use Rattle.std.specs.Io.KnownBytes.{Consumes, IsAtEnd}
use Rattle.krb_der_core.specs.declared.error.Asn1DerError.{Asn1DerError}
use Rattle.krb_der_core.specs.declared.error.Asn1DerError.TheVariants as errors
use Rattle.krb_der_core.specs.Tlv.{len, tlv}
use Rattle.krb_der_core.specs.Encoding.{IsElement, OneValue}
use Rattle.krb_der_core.specs.Reading.{TakesPrefix, NoPrefix, NoBeginning, RejectsPrefix, RejectsAll, Encodings, Elements, Lengths}
use Rattle.krb_der.specs.Streaming.{Gathers, IsError, IsShort, ReadsPrefix, RejectsReader, ReportsEarlyEnd}
use Rattle.krb_der_core.specs.TlvLaws.{len-small, field_apart}
use Rattle.krb_der_core.specs.LengthLaws.{NoMeet, meet_from_both, meets, nothing_read, rejected_from_meet}
use Rattle.krb_der_core.proofs.Elements.{bad_length, short_content}
use Rattle.krb_der_core.proofs.Rejections.{none_read, wrong_first, no_element, trailing_element}

pub gathers_none : (out : List ℕ) (a : Option (List ℕ)) → Gathers 0 out out a a
gathers_none out a = ([], refl, sym (append-nil out), Consumes-nil a)

pub gathers_more : (n m : ℕ) (old mid new : List ℕ) (a b c : Option (List ℕ)) → Gathers n old mid a b → Gathers m mid new b c → Gathers (n + m) old new a c
gathers_more n m old mid new a b c g h =
    (g.0 ++ h.0, omega (arith, length-append g.0 h.0, g.1, h.1), h.2 ∙ ap (λ (l : List ℕ). l ++ h.0) g.2 ∙ append_assoc old g.0 h.0, Consumes-trans a b c g.0 h.0 g.3 h.3)

pub short_end : (n m count : ℕ) (old mid new : List ℕ) (a b c : Option (List ℕ)) → Gathers n old mid a b → n < count → Gathers m mid new b c → m ≡ 0 → IsAtEnd c → IsShort count a errors.TruncatedData
short_end n m count old mid new None b c g lt h none end = tt
short_end n m count old mid new (Some p) None c g lt h none end = absurd g.3
short_end n m count old mid new (Some p) (Some q) None g lt h none end = absurd h.3
short_end n m count old mid new (Some p) (Some q) (Some r) g lt h none end = omega (arith, ap length g.3, length-append g.0 q, ap length h.3, length-append h.0 r, ap length end, g.1, h.1)

pub short_error : (count : ℕ) (a : Option (List ℕ)) (e : Asn1DerError) → IsError e → IsShort count a e
short_error count None e h = tt
short_error count (Some p) errors.OutOfMemory h = tt
short_error count (Some p) errors.TruncatedData h = absurd h
short_error count (Some p) errors.InvalidData h = absurd h
short_error count (Some p) errors.UnsupportedValue h = absurd h
short_error count (Some p) (errors.Io e) h = tt

-- ---- a length
pub length_none : (a : Option (List ℕ)) (e : Asn1DerError) → IsShort 1 a e → RejectsReader Lengths a e
length_none None e s = tt
length_none (Some p) errors.OutOfMemory s = tt
length_none (Some []) errors.TruncatedData s = nothing_read [] refl
length_none (Some (i ∷ is)) errors.TruncatedData s = absurd (omega (arith, s))
length_none (Some p) errors.InvalidData s = absurd s
length_none (Some p) errors.UnsupportedValue s = absurd s
length_none (Some p) (errors.Io e) s = tt

pub longer_meet : (octets rest : List ℕ) → NoPrefix Lengths octets × NoBeginning Lengths octets → NoMeet Lengths (octets ++ rest)
longer_meet octets rest r b x y p e = meet_from_both Lengths octets r b (rest ++ x) y p (sym (append_assoc octets rest x) ∙ e)

pub length_all : (p q s f new : List ℕ) (count : ℕ) → Gathers 1 [] f (Some p) (Some q) → Gathers count f new (Some q) (Some s) → p ≡ new ++ s
length_all p q s f new count g h = g.3 ∙ ap (λ (l : List ℕ). g.0 ++ l) h.3 ∙ sym (append_assoc g.0 h.0 s) ∙ ap (λ (l : List ℕ). l ++ s) (ap (λ (l : List ℕ). l ++ h.0) (sym g.2) ∙ sym h.2)

one_octet : (bs : List ℕ) → length bs ≡ 1 → (x : ℕ) × (bs ≡ x ∷ [])
one_octet [] e = absurd (omega (arith, e))
one_octet (x ∷ []) e = (x, refl)
one_octet (x ∷ y ∷ ys) e = absurd (omega (arith, e))

pub tag_prefix : (f bs p q : List ℕ) → f ≡ [] ++ bs → length bs ≡ 1 → p ≡ bs ++ q → p ≡ get_or f 0 0 ∷ q
tag_prefix f bs p q e one h =
    let x = one_octet bs one in
    let k : f ≡ x.0 ∷ [] = e ∙ x.1 in
    rw k (h ∙ ap (λ (l : List ℕ). l ++ q) x.1)

-- how many octets of a length follow its first
abbrev pub Trailing : ℕ → ℕ → Type 0
Trailing first count = (first < 128 → count ≡ 0) × (128 ≤ first → first ≤ 136 → count ≡ first - 128)

short_length : (first count : ℕ) (q : List ℕ) → Trailing first count → length q < count → NoPrefix Lengths (first ∷ q)
short_length first count q k short b rest p e =
    elim (meets p.0 first q [] rest p.1 (append-nil (first ∷ q) ∙ e ∙ ap (λ (l : List ℕ). l ++ rest) p.2)) [
      | inl s ↦ (let z : first < 128 = omega (arith, s.0, s.1) in omega (arith, k.0 z, short))
      | inr l ↦
          (let ge : 128 ≤ first = omega (arith, l.count) in
          let le : first ≤ 136 = omega (arith, l.count, l.most) in
          omega (arith, k.1 ge le, short, l.count, ap length l.digits, length-append q [], length-append (digits_of 256 p.0) rest))
    ]

pub length_cut : (a b : Option (List ℕ)) (f : List ℕ) (count : ℕ) (e : Asn1DerError) → Gathers 1 [] f a b → Trailing (get_or f 0 0) count → IsShort count b e → RejectsReader Lengths a e
length_cut None b f count e g k s = tt
length_cut (Some p) None f count e g k s = absurd g.3
length_cut (Some p) (Some q) f count errors.OutOfMemory g k s = tt
length_cut (Some p) (Some q) f count errors.TruncatedData g k s = rw (tag_prefix f g.0 p q g.2 g.1 g.3) (short_length (get_or f 0 0) count q k s)
length_cut (Some p) (Some q) f count errors.InvalidData g k s = absurd s
length_cut (Some p) (Some q) f count errors.UnsupportedValue g k s = absurd s
length_cut (Some p) (Some q) f count (errors.Io e) g k s = tt

none_trailing : (first count L : ℕ) (bs rest : List ℕ) → Trailing first count → length bs ≡ count → L < 2 ^ 64 → first ∷ bs ≡ len L ++ rest → length rest ≡ 0
none_trailing first count L bs rest k long lt e =
    elim (meets L first bs [] rest lt (append-nil (first ∷ bs) ∙ e)) [
      | inl s ↦
          (let z : first < 128 = omega (arith, s.0, s.1) in
          let f : first ∷ bs ≡ L ∷ rest = rw (len-small L s.0) at e in
          omega (arith, k.0 z, long, ap length f))
      | inr l ↦
          (let ge : 128 ≤ first = omega (arith, l.count) in
          let le : first ≤ 136 = omega (arith, l.count, l.most) in
          omega (arith, k.1 ge le, long, l.count, ap length l.digits, length-append bs [], length-append (digits_of 256 L) rest))
    ]

-- the first octet and those after it
pub first_and : (f new bs cs : List ℕ) → f ≡ [] ++ bs → length bs ≡ 1 → new ≡ f ++ cs → new ≡ get_or f 0 0 ∷ cs
first_and f new bs cs e one h =
    let x = one_octet bs one in
    let k : f ≡ x.0 ∷ [] = e ∙ x.1 in
    rw k (h ∙ ap (λ (l : List ℕ). l ++ cs) k)

pub length_read : (a b c : Option (List ℕ)) (f new : List ℕ) (count n L : ℕ) → Gathers 1 [] f a b → Trailing (get_or f 0 0) count → Gathers count f new b c → L < 2 ^ 64 → TakesPrefix (len L) n new → Consumes a c (len L)
length_read a b c f new count n L g k h lt t =
    let whole : new ≡ get_or f 0 0 ∷ h.0 = first_and f new g.0 h.0 g.2 g.1 h.2 in
    let none : drop n new ≡ [] = nil_from_length (drop n new) (none_trailing (get_or f 0 0) count L h.0 (drop n new) k h.1 lt (sym whole ∙ t.prefix)) in
    let same : new ≡ len L = t.prefix ∙ ap (λ (l : List ℕ). len L ++ l) none ∙ append-nil (len L) in
    let all : Consumes a c (g.0 ++ h.0) = Consumes-trans a b c g.0 h.0 g.3 h.3 in
    rw (sym same ∙ h.2 ∙ ap (λ (l : List ℕ). l ++ h.0) g.2) all

cut_length : (first count : ℕ) (cs r : List ℕ) → Trailing first count → length cs ≡ count → 1 + length cs ≤ first - 128 → NoPrefix Lengths (first ∷ (cs ++ r))
cut_length first count cs r k long missing b rest p e =
    elim (meets p.0 first (cs ++ r) [] rest p.1 (append-nil (first ∷ (cs ++ r)) ∙ e ∙ ap (λ (l : List ℕ). l ++ rest) p.2)) [
      | inl s ↦ omega (arith, s.0, s.1, missing)
      | inr l ↦
          (let ge : 128 ≤ first = omega (arith, l.count) in
          let le : first ≤ 136 = omega (arith, l.count, l.most) in
          omega (arith, k.1 ge le, long, missing))
    ]

pub length_rejected : (a b c : Option (List ℕ)) (f new : List ℕ) (count : ℕ) (e : Asn1DerError) → Gathers 1 [] f a b → Trailing (get_or f 0 0) count → Gathers count f new b c
    → RejectsPrefix Lengths new e → (e ≡ errors.TruncatedData → length new ≤ get_or new 0 0 - 128) → RejectsReader Lengths a e
length_rejected None b c f new count e g k h r missing = tt
length_rejected (Some p) None c f new count e g k h r missing = absurd g.3
length_rejected (Some p) (Some q) None f new count e g k h r missing = absurd h.3
length_rejected (Some p) (Some q) (Some s) f new count errors.OutOfMemory g k h r missing = tt
length_rejected (Some p) (Some q) (Some s) f new count errors.TruncatedData g k h r missing =
    let whole : new ≡ get_or f 0 0 ∷ h.0 = first_and f new g.0 h.0 g.2 g.1 h.2 in
    let m = rw whole at missing refl in
    let short : 1 + length h.0 ≤ get_or f 0 0 - 128 = omega (arith, m) in
    rw (tag_prefix f g.0 p q g.2 g.1 g.3 ∙ ap (λ (l : List ℕ). get_or f 0 0 ∷ l) h.3) (cut_length (get_or f 0 0) count h.0 s k h.1 short)
length_rejected (Some p) (Some q) (Some s) f new count errors.InvalidData g k h r missing = rw (length_all p q s f new count g h) (rejected_from_meet Lengths (new ++ s) (longer_meet new s r))
length_rejected (Some p) (Some q) (Some s) f new count errors.UnsupportedValue g k h r missing = rw (length_all p q s f new count g h) (rejected_from_meet Lengths (new ++ s) (longer_meet new s r))
length_rejected (Some p) (Some q) (Some s) f new count (errors.Io e) g k h r missing = tt

-- ---- an element
not_true : (b : Bool) → (b ≡ true → ⊥) → b ≡ false
not_true true h = absurd (h refl)
not_true false h = refl

not_empty : (t : ℕ) (q : List ℕ) → eqb (length (t ∷ q)) 0 ≡ false
not_empty t q = not_true (eqb (length (t ∷ q)) 0) (λ h. absurd (omega (arith, eqb-true (length (t ∷ q)) 0 h)))

pub tag_read : (f bs : List ℕ) {t : ℕ} → length bs ≡ 1 → f ≡ [] ++ bs → t ≡ get_or f 0 t → t ≡ get_or f 0 0
tag_read f bs {t} one e h = get_or_read f 0 t (omega (arith, one, ap length e)) h 0

pub element_taken : (a b d z : Option (List ℕ)) (f content : List ℕ) (L : ℕ) → Gathers 1 [] f a b → Consumes b d (len L) → Gathers L [] content d z → Consumes a z (tlv (get_or f 0 0) content)
unfolding tlv
element_taken a b d z f content L g h k =
    let x = one_octet g.0 g.1 in
    let all : Consumes a z (g.0 ++ (len L ++ k.0)) = Consumes-trans a b z g.0 (len L ++ k.0) g.3 (Consumes-trans b d z (len L) k.0 h k.3) in
    let same : f ≡ x.0 ∷ [] = g.2 ∙ x.1 in
    let size : length content ≡ L = ap length k.2 ∙ k.1 in
    rw (same, size, k.2) (rw x.1 at all)

module _ {A : Type 0} (is_value : A → Type 0) (enc : A → List ℕ) (first : ℕ → Bool) (element : (v : A) → is_value v → IsElement first (enc v)) where
  pub reader_none : (a : Option (List ℕ)) (e : Asn1DerError) → IsShort 1 a e → RejectsReader (Encodings is_value enc) a e
  reader_none None e s = tt
  reader_none (Some p) errors.OutOfMemory s = tt
  reader_none (Some []) errors.TruncatedData s = none_read is_value enc first element [] refl
  reader_none (Some (i ∷ is)) errors.TruncatedData s = absurd (omega (arith, s))
  reader_none (Some p) errors.InvalidData s = absurd s
  reader_none (Some p) errors.UnsupportedValue s = absurd s
  reader_none (Some p) (errors.Io e) s = tt

  pub reader_wrong : (a b : Option (List ℕ)) (f : List ℕ) → Gathers 1 [] f a b → first (get_or f 0 0) ≡ false → RejectsReader (Encodings is_value enc) a errors.InvalidData
  reader_wrong None b f g h = tt
  reader_wrong (Some p) None f g h = absurd g.3
  reader_wrong (Some p) (Some q) f g h = rw (tag_prefix f g.0 p q g.2 g.1 g.3) (wrong_first is_value enc first element (get_or f 0 0 ∷ q) (not_empty (get_or f 0 0) q) h)

  lifted : (t : ℕ) (p q : List ℕ) (e : Asn1DerError) → p ≡ t ∷ q → RejectsPrefix (Elements t) (t ∷ q) e → RejectsPrefix (Encodings is_value enc) p e
  lifted t p q e h r = rw h (no_element is_value enc first element t (t ∷ q) e (not_empty t q) refl r)

  pub reader_length : (a b : Option (List ℕ)) (f : List ℕ) (e : Asn1DerError) → Gathers 1 [] f a b → RejectsReader Lengths b e → RejectsReader (Encodings is_value enc) a e
  reader_length None b f e g r = tt
  reader_length (Some p) None f e g r = absurd g.3
  reader_length (Some p) (Some q) f errors.OutOfMemory g r = tt
  reader_length (Some p) (Some q) f errors.TruncatedData g r = let t = get_or f 0 0 in lifted t p q errors.TruncatedData (tag_prefix f g.0 p q g.2 g.1 g.3) (bad_length errors.TruncatedData t (t ∷ q) (not_empty t q) r)
  reader_length (Some p) (Some q) f errors.InvalidData g r = let t = get_or f 0 0 in lifted t p q errors.InvalidData (tag_prefix f g.0 p q g.2 g.1 g.3) (bad_length errors.InvalidData t (t ∷ q) (not_empty t q) r)
  reader_length (Some p) (Some q) f errors.UnsupportedValue g r = let t = get_or f 0 0 in lifted t p q errors.UnsupportedValue (tag_prefix f g.0 p q g.2 g.1 g.3) (bad_length errors.UnsupportedValue t (t ∷ q) (not_empty t q) r)
  reader_length (Some p) (Some q) f (errors.Io e) g r = tt

  cut_content : (t L : ℕ) (q r : List ℕ) → q ≡ len L ++ r → length r < L → NoPrefix (Elements t) (t ∷ q)
  cut_content t L q r h lt =
      let trailing : drop (length (len L)) q ≡ r = ap (λ (l : List ℕ). drop (length (len L)) l) h ∙ drop_at (len L) r (length (len L)) refl in
      short_content t L (length (len L)) (t ∷ q) (not_empty t q) (record { count = refl; prefix = rw trailing h }) (rw trailing lt)

  pub reader_content : (a b d : Option (List ℕ)) (f : List ℕ) (L : ℕ) (e : Asn1DerError) → Gathers 1 [] f a b → Consumes b d (len L) → IsShort L d e → RejectsReader (Encodings is_value enc) a e
  reader_content None b d f L e g h s = tt
  reader_content (Some p) None d f L e g h s = absurd g.3
  reader_content (Some p) (Some q) None f L e g h s = absurd h
  reader_content (Some p) (Some q) (Some r) f L errors.OutOfMemory g h s = tt
  reader_content (Some p) (Some q) (Some r) f L errors.TruncatedData g h s = let t = get_or f 0 0 in lifted t p q errors.TruncatedData (tag_prefix f g.0 p q g.2 g.1 g.3) (cut_content t L q r h s)
  reader_content (Some p) (Some q) (Some r) f L errors.InvalidData g h s = absurd s
  reader_content (Some p) (Some q) (Some r) f L errors.UnsupportedValue g h s = absurd s
  reader_content (Some p) (Some q) (Some r) f L (errors.Io e) g h s = tt

  took : (x p r : List ℕ) → p ≡ x ++ r → TakesPrefix x (length x) p
  took x p r h = record { count = refl; prefix = rw (ap (λ (l : List ℕ). drop (length x) l) h ∙ drop_at x r (length x) refl) h }

  pub reader_element : (a z : Option (List ℕ)) (t : ℕ) (content : List ℕ) (e : Asn1DerError) → Consumes a z (tlv t content) → RejectsAll is_value enc (tlv t content) e → RejectsReader (Encodings is_value enc) a e
  reader_element None z t content e h r = tt
  reader_element (Some p) None t content e h r = absurd h
  reader_element (Some p) (Some s) t content errors.OutOfMemory h r = tt
  reader_element (Some p) (Some s) t content errors.TruncatedData h r = trailing_element is_value enc first element t (length (tlv t content)) content p errors.TruncatedData (took (tlv t content) p s h) r
  reader_element (Some p) (Some s) t content errors.InvalidData h r = trailing_element is_value enc first element t (length (tlv t content)) content p errors.InvalidData (took (tlv t content) p s h) r
  reader_element (Some p) (Some s) t content errors.UnsupportedValue h r = trailing_element is_value enc first element t (length (tlv t content)) content p errors.UnsupportedValue (took (tlv t content) p s h) r
  reader_element (Some p) (Some s) t content (errors.Io e) h r = tt

-- ---- what was read is the value at the start
module _ {A : Type 0} (is_value : A → Type 0) (enc : A → List ℕ) where
  error_alone : (input : List ℕ) (e : Asn1DerError) → RejectsReader (Encodings is_value enc) (Some input) e → (v : A) (rest : List ℕ) → is_value v → length (enc v) < 2 ^ 64 → input ≡ enc v ++ rest → IsError e
  error_alone input errors.OutOfMemory r v rest hv lt q = tt
  error_alone input errors.TruncatedData r v rest hv lt q = r (enc v) rest (v, hv, lt, refl) q
  error_alone input errors.InvalidData r v rest hv lt q = r.0 (enc v) rest (v, hv, lt, refl) q
  error_alone input errors.UnsupportedValue r v rest hv lt q = r.0 (enc v) rest (v, hv, lt, refl) q
  error_alone input (errors.Io e) r v rest hv lt q = tt

  cut_alone : (input : List ℕ) (e : Asn1DerError) → RejectsReader (Encodings is_value enc) (Some input) e → (v : A) (rest : List ℕ) → is_value v → length (enc v) < 2 ^ 64 → enc v ≡ input ++ rest → (e ≡ errors.TruncatedData) ⊎ IsError e
  cut_alone input errors.OutOfMemory r v rest hv lt q = inr tt
  cut_alone input errors.TruncatedData r v rest hv lt q = inl refl
  cut_alone input errors.InvalidData r v rest hv lt q = absurd (r.1 (enc v) rest (v, hv, lt, refl) q)
  cut_alone input errors.UnsupportedValue r v rest hv lt q = absurd (r.1 (enc v) rest (v, hv, lt, refl) q)
  cut_alone input (errors.Io e) r v rest hv lt q = inr tt

  module _ (first : ℕ → Bool) (element : (v : A) → is_value v → IsElement first (enc v)) (one : OneValue is_value enc) where
    same_value : (b : Option (List ℕ)) (w v : A) (rest : List ℕ) → is_value w → is_value v → Consumes (Some (enc v ++ rest)) b (enc w) → w ≡ v
    same_value None w v rest hw hv h = absurd h
    same_value (Some y) w v rest hw hv h = sym (field_apart enc is_value first element one v w rest y hv hw h).0

    none_whole : (b : Option (List ℕ)) (w v : A) (prefix rest : List ℕ) → is_value w → is_value v → Consumes (Some prefix) b (enc w) → 0 < length rest → enc v ≡ prefix ++ rest → ⊥
    none_whole None w v prefix rest hw hv h some q = h
    none_whole (Some y) w v prefix rest hw hv h some q =
        let k : enc v ++ [] ≡ enc w ++ (y ++ rest) = append-nil (enc v) ∙ q ∙ ap (λ (l : List ℕ). l ++ rest) h ∙ append_assoc (enc w) y rest in
        let s = field_apart enc is_value first element one v w [] (y ++ rest) hv hw k in
        omega (arith, some, ap length s.1, length-append y rest)

    pub reads_prefix : (a b : Option (List ℕ)) (r : Result A Asn1DerError) → IfOk r is_value → IfOk r (λ v. Consumes a b (enc v)) → IfErr r (RejectsReader (Encodings is_value enc) a) → ReadsPrefix is_value enc a r
    reads_prefix a b (Ok w) hw found rejected v rest hv lt q = same_value b w v rest hw hv (rw q at found)
    reads_prefix a b (Err e) hw found rejected v rest hv lt q = error_alone (enc v ++ rest) e (rw q at rejected) v rest hv lt refl

    pub reports_early_end : (a b : Option (List ℕ)) (r : Result A Asn1DerError) → IfOk r is_value → IfOk r (λ v. Consumes a b (enc v)) → IfErr r (RejectsReader (Encodings is_value enc) a) → ReportsEarlyEnd is_value enc a r
    reports_early_end a b (Ok w) hw found rejected v prefix rest hv some lt q k = none_whole b w v prefix rest hw hv (rw q at found) some k
    reports_early_end a b (Err e) hw found rejected v prefix rest hv some lt q k = cut_alone prefix e (rw q at rejected) v rest hv lt k
