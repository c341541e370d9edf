-- Reading and writing sub-identifiers.
use Rattle.std.proofs.Common.{◌≡◌, ℕ, zero, suc, ◌+◌, ◌-◌, ◌*◌, ◌/◌, ◌%◌, ◌<◌, ◌≤◌, ◌^◌, List, [], ◌∷◌, ◌++◌, length, get_or, slice_index, take, drop, refl, sym, ap, ◌∙◌, append_assoc, arith, inl, inr, ◌⊎◌, slice_set, eqb, false, length-drop}
use Rattle.std.proofs.lemmas.Bool.{cases_lt}
use Rattle.std.proofs.lemmas.List.{append-nil, drop_more, drop_all, take_at, take-take, length-append}
use Rattle.std.specs.List.{flat_map, AllByRecursion}
use Rattle.std.specs.Int.Digits.{digits_of, number_from_digits_after}
use Rattle.std.proofs.lemmas.Int.Digits.{first_digits_of, number_after_append, number_after_ge, number_digits_of}
use Rattle.krb_der_core.specs.declared.error.Asn1DerError.{Asn1DerError}
use Rattle.krb_der_core.specs.declared.error.Asn1DerError.TheVariants as errors
use Rattle.krb_der_core.specs.DigitLaws.{digits_more}
use Rattle.krb_der_core.specs.Reading.{TakesPrefix, RejectsAll}
use Rattle.krb_der_core.specs.TlvLaws.{same_heads, same_conses}
use Rattle.krb_der_x509.specs.ObjectIdentifier.{continued, sub_identifier, sub_identifiers, arcs_content, IsArcs}
use Rattle.krb_der_x509.specs.ObjectIdentifierErrors.{IsTooLarge}
use Rattle.krb_der_x509.specs.ObjectIdentifierLaws.{decode, decode_more, decode_sub, decode_none, decode_large, sub_apart, sub_some}

-- the octets taken so far are the digits of n with more after them
pub record SubSoFar (octets : List ℕ) (taken n : ℕ) : Type 0 where
  pub within : taken ≤ length octets
  pub parts : octets ≡ continued (digits_of 128 n) ++ drop taken octets
  pub count : taken ≡ length (continued (digits_of 128 n))
  pub same : decode 0 octets ≡ decode n (drop taken octets)
  pub begun : 0 < taken → 0 < n

pub continued-append : (ds es : List ℕ) → continued (ds ++ es) ≡ continued ds ++ continued es
continued-append [] es = refl
continued-append (d ∷ ds) es = ap (λ (l : List ℕ). (128 + d) ∷ l) (continued-append ds es)

-- one digit more
continued_more : (n b : ℕ) → 0 < n * 128 + b → b < 128 → continued (digits_of 128 (n * 128 + b)) ≡ continued (digits_of 128 n) ++ (128 + b) ∷ []
continued_more n b p h = ap continued (digits_more 128 n b (omega arith) p h) ∙ continued-append (digits_of 128 n) (b ∷ [])

pub sub_begins : (octets : List ℕ) → SubSoFar octets 0 0
sub_begins octets = record { within = omega arith; parts = refl; count = refl; same = refl; begun = λ lt. absurd (omega (arith, lt)) }

-- n is more than nothing after an octet that is not 80 and not the last
more_begun : (octets : List ℕ) (taken n : ℕ) → SubSoFar octets taken n → (slice_index octets 0 ≡ 128 → ⊥) → 128 ≤ get_or octets taken 0 → 0 < n * 128 + (get_or octets taken 0 - 128)
more_begun octets zero n s first le = elim (cases_lt 128 (get_or octets 0 0)) [ inl lt ↦ omega (arith, lt) | inr ge ↦ absurd (first (omega (arith, ge, le))) ]
more_begun octets (suc taken) n s first le = omega (arith, s.begun (omega arith))

-- one octet more that is not the last
pub sub_step : (octets : List ℕ) (taken n m : ℕ) → SubSoFar octets taken n → (slice_index octets 0 ≡ 128 → ⊥) → taken < length octets → 128 ≤ get_or octets taken 0 → get_or octets taken 0 < 256
    → m ≡ n * 128 + get_or octets taken 0 % 128 → SubSoFar octets (taken + 1) m
sub_step octets taken n m s first lt le fits e =
    let b = get_or octets taken 0 - 128 in
    let same : m ≡ n * 128 + b = omega (arith, e) in
    let some : 0 < n * 128 + b = more_begun octets taken n s first le in
    let whole : 128 + b ≡ get_or octets taken 0 = omega arith in
    let digits : continued (digits_of 128 (n * 128 + b)) ≡ continued (digits_of 128 n) ++ get_or octets taken 0 ∷ [] = continued_more n b some (omega arith) ∙ ap (λ c. continued (digits_of 128 n) ++ c ∷ []) whole in
    let trailing : drop taken octets ≡ get_or octets taken 0 ∷ drop (taken + 1) octets = drop_more octets taken 0 lt in
    rw same (record {
      within = omega arith;
      parts = s.parts ∙ ap (λ (l : List ℕ). continued (digits_of 128 n) ++ l) trailing ∙ sym (ap (λ (l : List ℕ). l ++ drop (taken + 1) octets) digits ∙ append_assoc (continued (digits_of 128 n)) (get_or octets taken 0 ∷ []) (drop (taken + 1) octets));
      count = omega (arith, ap length digits, length-append (continued (digits_of 128 n)) (get_or octets taken 0 ∷ []), s.count);
      same = s.same ∙ ap (λ (l : List ℕ). decode n l) trailing ∙ decode_more n (get_or octets taken 0) (drop (taken + 1) octets) le;
      begun = λ q. some;
    })

-- the last octet ends a sub-identifier
pub sub_read : (octets : List ℕ) (taken n m : ℕ) → SubSoFar octets taken n → taken < length octets → get_or octets taken 0 < 128 → m ≡ n * 128 + get_or octets taken 0 % 128 → TakesPrefix (sub_identifier m) (taken + 1) octets
unfolding sub_identifier
sub_read octets taken n m s lt small e =
    let c = get_or octets taken 0 in
    let q : m / 128 ≡ n = omega (arith, e) in
    let r : m % 128 ≡ c = omega (arith, e) in
    let whole : sub_identifier m ≡ continued (digits_of 128 n) ++ c ∷ [] = ap (λ k. continued (digits_of 128 k) ++ m % 128 ∷ []) q ∙ ap (λ k. continued (digits_of 128 n) ++ k ∷ []) r in
    let trailing : drop taken octets ≡ c ∷ drop (taken + 1) octets = drop_more octets taken 0 lt in
    record {
      count = omega (arith, ap length whole, length-append (continued (digits_of 128 n)) (c ∷ []), s.count);
      prefix = s.parts ∙ ap (λ (l : List ℕ). continued (digits_of 128 n) ++ l) trailing ∙ sym (ap (λ (l : List ℕ). l ++ drop (taken + 1) octets) whole ∙ append_assoc (continued (digits_of 128 n)) (c ∷ []) (drop (taken + 1) octets));
    }

pub sub_long : (octets : List ℕ) (taken n m : ℕ) (rest : List ℕ) → SubSoFar octets taken n → 2 ^ 57 ≤ n → m < 2 ^ 64 → octets ≡ sub_identifier m ++ rest → ⊥
sub_long octets taken n m rest s le lt q =
    omega (arith, decode_large n m (drop taken octets) rest (sym s.same ∙ ap (λ (l : List ℕ). decode 0 l) q ∙ decode_sub m rest))

pub sub_cut : (octets : List ℕ) (taken n m : ℕ) (rest : List ℕ) → SubSoFar octets taken n → length octets ≤ taken → octets ≡ sub_identifier m ++ rest → ⊥
sub_cut octets taken n m rest s le q =
    decode_none n m rest (ap (λ (l : List ℕ). decode n l) (sym (drop_all taken octets le)) ∙ sym s.same ∙ ap (λ (l : List ℕ). decode 0 l) q ∙ decode_sub m rest)

pub sub_empty : (octets : List ℕ) (m : ℕ) (rest : List ℕ) → length octets ≡ 0 → octets ≡ sub_identifier m ++ rest → ⊥
sub_empty [] m rest h q = sub_some m rest q
sub_empty (b ∷ bs) m rest h q = omega (arith, h)

-- ---- sub-identifiers past 64 bits

pub too_large : (octets : List ℕ) (taken n : ℕ) → SubSoFar octets taken n → taken < length octets → 2 ^ 57 ≤ n → IsTooLarge octets
too_large octets taken n s lt le = (n, drop taken octets, s.parts, omega (arith, length-drop taken octets), le)

first_digit : (ds rest : List ℕ) → 0 < get_or ds 0 0 → slice_index (continued ds ++ rest) 0 ≡ 128 → ⊥
first_digit [] rest p e = omega (arith, p)
first_digit (d ∷ ds) rest p e = let k : 128 + d ≡ 128 = e in omega (arith, p)

pub leading_small : (octets : List ℕ) → slice_index octets 0 ≡ 128 → IsTooLarge octets → ⊥
leading_small octets e t = first_digit (digits_of 128 t.0) t.1 (first_digits_of 128 t.0 (omega arith) (omega (arith, t.4))) (ap (λ (l : List ℕ). slice_index l 0) (sym t.2) ∙ e)

pub empty_small : (octets : List ℕ) → length octets ≡ 0 → IsTooLarge octets → ⊥
empty_small octets e t = omega (arith, e, ap length t.2, length-append (continued (digits_of 128 t.0)) t.1, t.3)

-- digits that begin with others are these and more
more_digits : (ds es rest : List ℕ) → continued ds ≡ continued es ++ rest → 0 < length rest → (f : ℕ) × (fs : List ℕ) × (ds ≡ es ++ f ∷ fs)
more_digits [] [] rest e some = absurd (omega (arith, ap length e, some))
more_digits (d ∷ ds) [] rest e some = (d, ds, refl)
more_digits [] (e2 ∷ es) rest e some = absurd (omega (arith, ap length e))
more_digits (d ∷ ds) (e2 ∷ es) rest e some =
    let k = same_heads (128 + d) (128 + e2) (continued ds) (continued es ++ rest) e in
    let m = more_digits ds es rest k.1 some in
    (m.0, m.1, same_conses d e2 ds (es ++ m.0 ∷ m.1) (omega (arith, k.0)) m.2)

-- a number with such digits is that much larger
digits_larger : (m n f : ℕ) (fs : List ℕ) → digits_of 128 n ≡ digits_of 128 m ++ f ∷ fs → 128 * m ≤ n
digits_larger m n f fs e =
    let whole : number_from_digits_after 128 (number_from_digits_after 128 0 (digits_of 128 m)) (f ∷ fs) ≡ n = sym (number_after_append 128 0 (digits_of 128 m) (f ∷ fs)) ∙ ap (λ (l : List ℕ). number_from_digits_after 128 0 l) (sym e) ∙ number_digits_of 128 n (omega arith) in
    let prefix : number_from_digits_after 128 0 (digits_of 128 m) ≡ m = number_digits_of 128 m (omega arith) in
    let more : m * 128 + f ≤ number_from_digits_after 128 (m * 128 + f) fs = number_after_ge 128 (m * 128 + f) fs (omega arith) in
    let step : number_from_digits_after 128 (m * 128 + f) fs ≡ n = rw prefix at whole in
    omega (arith, more, step)

pub cut_small : (octets : List ℕ) (taken n : ℕ) → SubSoFar octets taken n → length octets ≤ taken → n < 2 ^ 64 → IsTooLarge octets → ⊥
cut_small octets taken n s le lt t =
    let all : octets ≡ continued (digits_of 128 n) = s.parts ∙ ap (λ (l : List ℕ). continued (digits_of 128 n) ++ l) (drop_all taken octets le) ∙ append-nil (continued (digits_of 128 n)) in
    let m = more_digits (digits_of 128 n) (digits_of 128 t.0) t.1 (sym all ∙ t.2) t.3 in
    omega (arith, digits_larger t.0 n m.0 m.1 m.2, t.4, lt)

-- ---- in a row

pub below_push : (v : List ℕ) (n : ℕ) → AllByRecursion (λ m. m < 2 ^ 64) v → n < 2 ^ 64 → AllByRecursion (λ m. m < 2 ^ 64) (v ++ n ∷ [])
below_push [] n h lt = (lt, tt)
below_push (m ∷ v) n h lt = (h.0, below_push v n h.1 lt)

pub positive : (n : ℕ) → eqb n 0 ≡ false → 0 < n
positive zero e = absurd cc
positive (suc n) e = omega arith

-- what was read is not in what follows
below_tail : (n : ℕ) (v : List ℕ) → ((i : ℕ) → slice_index (n ∷ v) i < 2 ^ 64) → (i : ℕ) → slice_index v i < 2 ^ 64
below_tail n v h i = h (suc i)

pub subs_stuck : (numbers v rest : List ℕ) → 0 < length rest → ((n : ℕ) (x : List ℕ) → n < 2 ^ 64 → rest ≡ sub_identifier n ++ x → ⊥) → ((i : ℕ) → slice_index v i < 2 ^ 64) → flat_map sub_identifier numbers ++ rest ≡ flat_map sub_identifier v → ⊥
subs_stuck [] [] rest some none below q = omega (arith, ap length q)
subs_stuck [] (n ∷ v) rest some none below q = none n (flat_map sub_identifier v) (below 0) q
subs_stuck (m ∷ numbers) [] rest some none below q = sub_some m (flat_map sub_identifier numbers ++ rest) (sym q ∙ append_assoc (sub_identifier m) (flat_map sub_identifier numbers) rest)
subs_stuck (m ∷ numbers) (n ∷ v) rest some none below q =
    subs_stuck numbers v rest some none (below_tail n v below) (sub_apart m n (flat_map sub_identifier numbers ++ rest) (flat_map sub_identifier v) (sym (append_assoc (sub_identifier m) (flat_map sub_identifier numbers) rest) ∙ q)).1

pub takes_some : (n taken : ℕ) (rest : List ℕ) → TakesPrefix (sub_identifier n) taken rest → 0 < taken
unfolding sub_identifier
takes_some n taken rest f = omega (arith, f.count, length-append (continued (digits_of 128 (n / 128))) (n % 128 ∷ []))

-- ---- writing

-- the prefix stays where some of more octets are written
pub cut : (out mid new x : List ℕ) → mid ≡ out ++ x → take (length mid) new ≡ mid → take (length out) new ≡ out
cut out mid new x e f =
    let long : length mid ≡ length out + length x = ap length e ∙ length-append out x in
    sym (take-take (length out) (length mid) new (omega (arith, long))) ∙ ap (λ (l : List ℕ). take (length out) l) (f ∙ e) ∙ take_at out x (length out) refl

-- ---- the arcs

below_concatenated : (a b : ℕ) (arcs : List ℕ) → IsArcs (a ∷ b ∷ arcs) → (i : ℕ) → slice_index ((40 * a + b) ∷ arcs) i < 2 ^ 64
below_concatenated a b arcs h zero = h.first
below_concatenated a b arcs h (suc i) = h.each (suc (suc i))

below : (arcs : List ℕ) → IsArcs arcs → (i : ℕ) → slice_index (sub_identifiers arcs) i < 2 ^ 64
below [] h i = absurd (omega (arith, h.some))
below (a ∷ []) h i = absurd (omega (arith, h.some))
below (a ∷ b ∷ arcs) h i = below_concatenated a b arcs h i

Stuck : List ℕ → Type 0
Stuck content = (v : List ℕ) → ((i : ℕ) → slice_index v i < 2 ^ 64) → content ≡ flat_map sub_identifier v → ⊥

none_of : (content : List ℕ) (e : Asn1DerError) → (e ≡ errors.OutOfMemory → ⊥) → (e ≡ errors.OutOfMemory) ⊎ ((v : List ℕ) → ((i : ℕ) → slice_index v i < 2 ^ 64) → content ≡ flat_map sub_identifier v → ⊥) → (v : List ℕ) → IsArcs v → content ≡ arcs_content v → ⊥
none_of content e other (inl m) v hv q = other m
none_of content e other (inr f) v hv q = f (sub_identifiers v) (below v hv) q

pub arcs_rejected : (content : List ℕ) (e : Asn1DerError) → (e ≡ errors.OutOfMemory) ⊎ ((e ≡ errors.InvalidData) ⊎ (e ≡ errors.UnsupportedValue))
    → (e ≡ errors.OutOfMemory) ⊎ ((v : List ℕ) → ((i : ℕ) → slice_index v i < 2 ^ 64) → content ≡ flat_map sub_identifier v → ⊥) → RejectsAll IsArcs arcs_content content e
arcs_rejected content errors.OutOfMemory f r = tt
arcs_rejected content errors.TruncatedData f r = none_of content errors.TruncatedData (λ k. cc) r
arcs_rejected content errors.InvalidData f r = none_of content errors.InvalidData (λ k. cc) r
arcs_rejected content errors.UnsupportedValue f r = none_of content errors.UnsupportedValue (λ k. cc) r
arcs_rejected content (errors.Io io) (inl k) r = absurd cc
arcs_rejected content (errors.Io io) (inr (inl k)) r = absurd cc
arcs_rejected content (errors.Io io) (inr (inr k)) r = absurd cc

-- no sub-identifiers are no arcs
pub no_arcs : (content numbers v : List ℕ) → length numbers ≡ 0 → content ≡ flat_map sub_identifier numbers → IsArcs v → content ≡ arcs_content v → ⊥
no_arcs content [] [] e f hv q = omega (arith, hv.some)
no_arcs content [] (a ∷ []) e f hv q = omega (arith, hv.some)
no_arcs content [] (a ∷ b ∷ arcs) e f hv q = sub_some (40 * a + b) (flat_map sub_identifier arcs) (sym f ∙ q)
no_arcs content (n ∷ numbers) v e f hv q = omega (arith, e)

-- the first sub-identifier is taken apart
pub concatenated : (root second : ℕ) (numbers : List ℕ) → 0 < length numbers → slice_index numbers 0 ≡ 40 * root + second → sub_identifiers (root ∷ slice_set numbers 0 second) ≡ numbers
concatenated root second [] h e = absurd (omega (arith, h))
concatenated root second (n ∷ numbers) h e = let k : n ≡ 40 * root + second = e in cc
