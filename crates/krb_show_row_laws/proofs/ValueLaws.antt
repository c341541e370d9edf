-- Texts, times, flags and numbers are told apart by what is written of them.
use Rattle.std.proofs.Common.{◌≡◌, ◌≢◌, ◌⊎◌, ℕ, zero, suc, ◌/◌, ◌%◌, ◌<◌, ◌≤◌, nat_eq, Bool, true, false, ◌&&◌, ◌||◌, if◌then◌else◌, inl, inr, refl, sym, ap, subst, ◌∙◌, ℤ, pos, negsuc, List, [], ◌∷◌, ◌++◌, codes, get_or, arith}
use Rattle.std.specs.Fmt.{decimal}
use Rattle.std.specs.Int.Digits.{AllBelowBase}
use Rattle.std.proofs.lemmas.Fmt.{decimal_injective}
use Rattle.std.proofs.lemmas.List.{append_assoc, append_cancel_left}
use Rattle.std.proofs.lemmas.Grind.{common_steps}
use Rattle.std.proofs.lemmas.Int.{ints}
use Rattle.krb_der_core.specs.Encoding.{IsOctets}
use Rattle.krb_der_core.specs.BitString.{Bits, IsBits}
use Rattle.krb_der_core.specs.GeneralizedTime.{Time, IsRealDate, IsRealTime}
use Rattle.krb_der_core.specs.Integer.{unsigned, inverted, shortest}
use Rattle.krb_der_core.specs.IntegerLaws.{unsigned_plain, inverted_below}
use Rattle.krb_show_text.specs.declared.escape.Style.TheVariants as style
use Rattle.krb_show.specs.Leaves.{digit, hex_octet, hex, two, time_word, flags_word, truth_word}
use Rattle.krb_show_text.specs.Text.{is_printable, escaped_octet, escaped, quoted}
use Rattle.krb_show_row_laws.specs.Telling.{all_of, Stops, other_than, is_word_octet}
use Rattle.krb_show_row_laws.proofs.SplitLaws.{and_left, and_both, head, tail, split, all_append, all_weaker}
use Rattle.krb_show_row_laws.proofs.WordLaws.{digit_injective, decimal_word, one_hex}

-- ---- texts in quotation marks

-- how an octet stands there
abbrev pub IsQuotedAs : ℕ → List ℕ → Type 0
IsQuotedAs x s = (((x ≡ 34) ⊎ (x ≡ 92)) × (s ≡ 92 ∷ x ∷ [])) ⊎ (((x ≢ 34) × (x ≢ 92) × (s ≡ x ∷ [])) ⊎ (s ≡ 92 ∷ 120 ∷ hex_octet x))

mark_is : (x : ℕ) → nat_eq x 34 || nat_eq x 92 ≡ true → (x ≡ 34) ⊎ (x ≡ 92)
mark_is x h = grind (arith, common_steps)

no_mark : (x : ℕ) → nat_eq x 34 || nat_eq x 92 ≡ false → (x ≢ 34) × (x ≢ 92)
no_mark x h = (λ e. grind (arith, common_steps), λ e. grind (arith, common_steps))

quoted_by : (x : ℕ) (b c : Bool) → nat_eq x 34 || nat_eq x 92 ≡ b → is_printable x ≡ c
    → IsQuotedAs x (if b then 92 ∷ x ∷ [] else (if c then x ∷ [] else codes "\\x" ++ hex_octet x))
quoted_by x true c h k = inl (mark_is x h, refl)
quoted_by x false true h k = let n = no_mark x h in inr (inl (n.0, n.1, refl))
quoted_by x false false h k = inr (inr refl)

quoted_as : (x : ℕ) → IsQuotedAs x (escaped_octet style.Quoted x)
quoted_as x = quoted_by x (nat_eq x 34 || nat_eq x 92) (is_printable x) refl refl

one_digits : (x y : ℕ) (a b : List ℕ) → x < 256 → y < 256 → hex_octet x ++ a ≡ hex_octet y ++ b → (x ≡ y) × (a ≡ b)
one_digits x y a b h k e =
    let behind = tail _ _ _ _ e in
    let high = digit_injective (x / 16) (y / 16) (omega arith) (omega arith) (head _ _ _ _ e) in
    let low = digit_injective (x % 16) (y % 16) (omega arith) (omega arith) (head _ _ _ _ behind) in
    (omega (arith, high, low), tail _ _ _ _ behind)

-- what stands there of an octet tells it, whatever follows
one_quoted : (x y : ℕ) (s t a b : List ℕ) → x < 256 → y < 256 → IsQuotedAs x s → IsQuotedAs y t → s ++ a ≡ t ++ b → (x ≡ y) × (a ≡ b)
one_quoted x y s t a b h k (inl (m, e)) (inl (n, f)) g =
    let same : 92 ∷ x ∷ a ≡ 92 ∷ y ∷ b = ap (λ (l : List ℕ). l ++ a) (sym e) ∙ g ∙ ap (λ (l : List ℕ). l ++ b) f in
    let behind = tail _ _ _ _ same in
    (head _ _ _ _ behind, tail _ _ _ _ behind)
one_quoted x y s t a b h k (inl (m, e)) (inr (inl (p, q, f))) g =
    let same : 92 ∷ x ∷ a ≡ y ∷ b = ap (λ (l : List ℕ). l ++ a) (sym e) ∙ g ∙ ap (λ (l : List ℕ). l ++ b) f in
    absurd (q (sym (head _ _ _ _ same)))
one_quoted x y s t a b h k (inl (inl m, e)) (inr (inr f)) g =
    let same : 92 ∷ x ∷ a ≡ 92 ∷ 120 ∷ (hex_octet y ++ b) = ap (λ (l : List ℕ). l ++ a) (sym e) ∙ g ∙ ap (λ (l : List ℕ). l ++ b) f in
    absurd (omega (arith, m, head _ _ _ _ (tail _ _ _ _ same)))
one_quoted x y s t a b h k (inl (inr m, e)) (inr (inr f)) g =
    let same : 92 ∷ x ∷ a ≡ 92 ∷ 120 ∷ (hex_octet y ++ b) = ap (λ (l : List ℕ). l ++ a) (sym e) ∙ g ∙ ap (λ (l : List ℕ). l ++ b) f in
    absurd (omega (arith, m, head _ _ _ _ (tail _ _ _ _ same)))
one_quoted x y s t a b h k (inr (inl (p, q, e))) (inl (n, f)) g =
    let same : x ∷ a ≡ 92 ∷ y ∷ b = ap (λ (l : List ℕ). l ++ a) (sym e) ∙ g ∙ ap (λ (l : List ℕ). l ++ b) f in
    absurd (q (head _ _ _ _ same))
one_quoted x y s t a b h k (inr (inl (p, q, e))) (inr (inl (m, n, f))) g =
    let same : x ∷ a ≡ y ∷ b = ap (λ (l : List ℕ). l ++ a) (sym e) ∙ g ∙ ap (λ (l : List ℕ). l ++ b) f in
    (head _ _ _ _ same, tail _ _ _ _ same)
one_quoted x y s t a b h k (inr (inl (p, q, e))) (inr (inr f)) g =
    let same : x ∷ a ≡ 92 ∷ 120 ∷ (hex_octet y ++ b) = ap (λ (l : List ℕ). l ++ a) (sym e) ∙ g ∙ ap (λ (l : List ℕ). l ++ b) f in
    absurd (q (head _ _ _ _ same))
one_quoted x y s t a b h k (inr (inr e)) (inl (inl n, f)) g =
    let same : 92 ∷ 120 ∷ (hex_octet x ++ a) ≡ 92 ∷ y ∷ b = ap (λ (l : List ℕ). l ++ a) (sym e) ∙ g ∙ ap (λ (l : List ℕ). l ++ b) f in
    absurd (omega (arith, n, head _ _ _ _ (tail _ _ _ _ same)))
one_quoted x y s t a b h k (inr (inr e)) (inl (inr n, f)) g =
    let same : 92 ∷ 120 ∷ (hex_octet x ++ a) ≡ 92 ∷ y ∷ b = ap (λ (l : List ℕ). l ++ a) (sym e) ∙ g ∙ ap (λ (l : List ℕ). l ++ b) f in
    absurd (omega (arith, n, head _ _ _ _ (tail _ _ _ _ same)))
one_quoted x y s t a b h k (inr (inr e)) (inr (inl (p, q, f))) g =
    let same : 92 ∷ 120 ∷ (hex_octet x ++ a) ≡ y ∷ b = ap (λ (l : List ℕ). l ++ a) (sym e) ∙ g ∙ ap (λ (l : List ℕ). l ++ b) f in
    absurd (q (sym (head _ _ _ _ same)))
one_quoted x y s t a b h k (inr (inr e)) (inr (inr f)) g =
    let same : 92 ∷ 120 ∷ (hex_octet x ++ a) ≡ 92 ∷ 120 ∷ (hex_octet y ++ b) = ap (λ (l : List ℕ). l ++ a) (sym e) ∙ g ∙ ap (λ (l : List ℕ). l ++ b) f in
    one_digits x y a b h k (tail _ _ _ _ (tail _ _ _ _ same))

-- and it is no quotation mark
no_end : (x : ℕ) (s a b : List ℕ) → IsQuotedAs x s → s ++ a ≡ 34 ∷ b → ⊥
no_end x s a b (inl (m, e)) g =
    let same : 92 ∷ x ∷ a ≡ 34 ∷ b = ap (λ (l : List ℕ). l ++ a) (sym e) ∙ g in
    omega (arith, head _ _ _ _ same)
no_end x s a b (inr (inl (p, q, e))) g =
    let same : x ∷ a ≡ 34 ∷ b = ap (λ (l : List ℕ). l ++ a) (sym e) ∙ g in
    p (head _ _ _ _ same)
no_end x s a b (inr (inr e)) g =
    let same : 92 ∷ 120 ∷ (hex_octet x ++ a) ≡ 34 ∷ b = ap (λ (l : List ℕ). l ++ a) (sym e) ∙ g in
    omega (arith, head _ _ _ _ same)

one_escaped : (xs ys : List ℕ) → IsOctets xs → IsOctets ys → escaped style.Quoted xs ++ 34 ∷ [] ≡ escaped style.Quoted ys ++ 34 ∷ [] → xs ≡ ys
one_escaped [] [] h k e = refl
one_escaped [] (y ∷ ys) h k e =
    absurd (no_end y (escaped_octet style.Quoted y) (escaped style.Quoted ys ++ 34 ∷ []) [] (quoted_as y)
    (sym (append_assoc (escaped_octet style.Quoted y) (escaped style.Quoted ys) (34 ∷ [])) ∙ sym e))
one_escaped (x ∷ xs) [] h k e =
    absurd (no_end x (escaped_octet style.Quoted x) (escaped style.Quoted xs ++ 34 ∷ []) [] (quoted_as x)
    (sym (append_assoc (escaped_octet style.Quoted x) (escaped style.Quoted xs) (34 ∷ [])) ∙ e))
one_escaped (x ∷ xs) (y ∷ ys) h k e =
    let first = one_quoted x y (escaped_octet style.Quoted x) (escaped_octet style.Quoted y) (escaped style.Quoted xs ++ 34 ∷ [])
    (escaped style.Quoted ys ++ 34 ∷ [])
    (h 0) (k 0) (quoted_as x) (quoted_as y)
    (sym (append_assoc (escaped_octet style.Quoted x) (escaped style.Quoted xs) (34 ∷ [])) ∙ e
    ∙ append_assoc (escaped_octet style.Quoted y) (escaped style.Quoted ys) (34 ∷ [])) in
    ap (λ z. z ∷ xs) first.0 ∙ ap (λ (l : List ℕ). y ∷ l) (one_escaped xs ys (λ i. h (suc i)) (λ i. k (suc i)) first.1)

pub one_text : (xs ys : List ℕ) → IsOctets xs → IsOctets ys → quoted style.Quoted xs ≡ quoted style.Quoted ys → xs ≡ ys
one_text xs ys h k e = one_escaped xs ys h k (tail _ _ _ _ e)

-- ---- numbers

below_octets : (c : List ℕ) → AllBelowBase 256 c → IsOctets c
below_octets [] h zero = omega arith
below_octets [] h (suc i) = omega arith
below_octets (x ∷ xs) h zero = h.0
below_octets (x ∷ xs) h (suc i) = below_octets xs h.1 i

pub shortest_octets : (z : ℤ) → IsOctets (shortest z)
shortest_octets (pos n) = let p = unsigned_plain n in subst IsOctets (sym p.is) (below_octets (p.b ∷ p.bs) p.below)
shortest_octets (negsuc n) = below_octets (inverted (unsigned n)) (inverted_below (unsigned n))

-- ---- truth values

pub truth_is_word : (b : Bool) → all_of is_word_octet (truth_word b) ≡ true
truth_is_word true = refl
truth_is_word false = refl

pub one_truth : (b c : Bool) → truth_word b ≡ truth_word c → b ≡ c
one_truth true true e = refl
one_truth true false e = absurd (omega (arith, head _ _ _ _ e))
one_truth false true e = absurd (omega (arith, head _ _ _ _ e))
one_truth false false e = refl

-- ---- times

month_bound : (y m d : ℕ) → IsRealDate y m d → m ≤ 12
month_bound y m d real = omega (arith, ints)

day_bound : (y m d : ℕ) → IsRealDate y m d → d ≤ 31
day_bound y m d real = grind (arith, ints)

digit_is_octet : (n : ℕ) → n < 16 → is_word_octet (digit n) ≡ true
digit_is_octet n small = grind (arith, common_steps)

-- numbers below 256 are those of their two digits by ten, where these are below 16
one_two : (m n : ℕ) → m < 100 → n < 100 → digit (m / 10) ≡ digit (n / 10) → digit (m % 10) ≡ digit (n % 10) → m ≡ n
one_two m n h k e f =
    let high = digit_injective (m / 10) (n / 10) (omega arith) (omega arith) e in
    let low = digit_injective (m % 10) (n % 10) (omega arith) (omega arith) f in
    omega (arith, high, low)

same_time : (t u : Time) → t.year ≡ u.year → t.month ≡ u.month → t.day ≡ u.day → t.hour ≡ u.hour → t.minute ≡ u.minute → t.second ≡ u.second → t ≡ u
same_time t u y m d h n s = λ i. record { year = y i; month = m i; day = d i; hour = h i; minute = n i; second = s i }

pub one_time : (t u : Time) → IsRealTime t → IsRealTime u → time_word t ≡ time_word u → t ≡ u
one_time t u p q e =
    let place : (i : ℕ) → get_or (time_word t) i 0 ≡ get_or (time_word u) i 0 = λ i. ap (λ (l : List ℕ). get_or l i 0) e in
    let months = month_bound t.year t.month t.day p.0 in
    let other_months = month_bound u.year u.month u.day q.0 in
    let days = day_bound t.year t.month t.day p.0 in
    let other_days = day_bound u.year u.month u.day q.0 in
    let century = one_two (t.year / 100) (u.year / 100) (omega (arith, p.0.0)) (omega (arith, q.0.0)) (place 0) (place 1) in
    let year = one_two (t.year % 100) (u.year % 100) (omega arith) (omega arith) (place 2) (place 3) in
    same_time t u (omega (arith, century, year))
    (one_two t.month u.month (omega (arith, months)) (omega (arith, other_months)) (place 5) (place 6))
    (one_two t.day u.day (omega (arith, days)) (omega (arith, other_days)) (place 8) (place 9))
    (one_two t.hour u.hour (omega (arith, p.1.0)) (omega (arith, q.1.0)) (place 11) (place 12))
    (one_two t.minute u.minute (omega (arith, p.1.1)) (omega (arith, q.1.1)) (place 14) (place 15))
    (one_two t.second u.second (omega (arith, p.1.2)) (omega (arith, q.1.2)) (place 17) (place 18))

two_is_word : (n : ℕ) → n < 100 → all_of is_word_octet (two n) ≡ true
two_is_word n h =
    and_both (is_word_octet (digit (n / 10))) (all_of is_word_octet (digit (n % 10) ∷ [])) (digit_is_octet (n / 10) (omega arith))
    (and_both (is_word_octet (digit (n % 10))) true (digit_is_octet (n % 10) (omega arith)) refl)

marked_is_word : (before : List ℕ) (mark n : ℕ) → all_of is_word_octet before ≡ true → is_word_octet mark ≡ true → n < 100
    → all_of is_word_octet (before ++ mark ∷ two n) ≡ true
marked_is_word before mark n h k small =
    all_append is_word_octet before (mark ∷ two n) h (and_both (is_word_octet mark) (all_of is_word_octet (two n)) k (two_is_word n small))

pub time_is_word : (t : Time) → IsRealTime t → all_of is_word_octet (time_word t) ≡ true
time_is_word t p =
    let months = month_bound t.year t.month t.day p.0 in
    let days = day_bound t.year t.month t.day p.0 in
    let years = all_append is_word_octet (two (t.year / 100)) (two (t.year % 100)) (two_is_word (t.year / 100) (omega (arith, p.0.0)))
    (two_is_word (t.year % 100) (omega arith)) in
    let with_month = marked_is_word (two (t.year / 100) ++ two (t.year % 100)) 45 t.month years refl (omega (arith, months)) in
    let with_day = marked_is_word (two (t.year / 100) ++ two (t.year % 100) ++ 45 ∷ two t.month) 45 t.day with_month refl (omega (arith, days)) in
    let with_hour = marked_is_word (two (t.year / 100) ++ two (t.year % 100) ++ 45 ∷ two t.month ++ 45 ∷ two t.day) 84 t.hour with_day refl
    (omega (arith, p.1.0)) in
    let with_minute = marked_is_word (two (t.year / 100) ++ two (t.year % 100) ++ 45 ∷ two t.month ++ 45 ∷ two t.day ++ 84 ∷ two t.hour) 58 t.minute with_hour
    refl (omega (arith, p.1.1)) in
    let with_second = marked_is_word (two (t.year / 100) ++ two (t.year % 100) ++ 45 ∷ two t.month ++ 45 ∷ two t.day ++ 84 ∷ two t.hour ++ 58 ∷ two t.minute) 58
    t.second with_minute refl (omega (arith, p.1.2)) in
    all_append is_word_octet (two (t.year / 100) ++ two (t.year % 100) ++ 45 ∷ two t.month ++ 45 ∷ two t.day ++ 84 ∷ two t.hour ++ 58 ∷ two t.minute ++ 58 ∷ two
    t.second) (90 ∷ []) with_second refl

-- ---- flags

-- an octet that stands in hexadecimal
abbrev pub is_hex_octet : ℕ → Bool
is_hex_octet octet = is_word_octet octet && other_than (nat_eq octet 47)

digit_is_hex : (n : ℕ) → n < 16 → is_hex_octet (digit n) ≡ true
digit_is_hex n small = grind (arith, common_steps)

hex_is_hex : (xs : List ℕ) → IsOctets xs → all_of is_hex_octet (hex xs) ≡ true
hex_is_hex [] h = refl
hex_is_hex (x ∷ xs) h =
    let small : x < 256 = h 0 in
    and_both (is_hex_octet (digit (x / 16))) (all_of is_hex_octet (digit (x % 16) ∷ hex xs)) (digit_is_hex (x / 16) (omega arith))
    (and_both (is_hex_octet (digit (x % 16))) (all_of is_hex_octet (hex xs)) (digit_is_hex (x % 16) (omega arith)) (hex_is_hex xs (λ i. h (suc i))))

hex_is_word : (x : ℕ) → is_hex_octet x ≡ true → is_word_octet x ≡ true
hex_is_word x h = and_left (is_word_octet x) (other_than (nat_eq x 47)) h

abbrev pub spare_word : ℕ → List ℕ
spare_word spare = if nat_eq spare 0 then [] else 47 ∷ decimal spare

spare_by : (spare : ℕ) (b : Bool) → all_of is_word_octet (if b then [] else 47 ∷ decimal spare) ≡ true
spare_by spare true = refl
spare_by spare false = decimal_word spare

spare_stops : (spare : ℕ) (b : Bool) → Stops is_hex_octet (if b then [] else 47 ∷ decimal spare)
spare_stops spare true = tt
spare_stops spare false = refl

one_spare : (m n : ℕ) (b c : Bool) → nat_eq m 0 ≡ b → nat_eq n 0 ≡ c → m ≤ 7 → n ≤ 7
    → (if b then [] else 47 ∷ decimal m) ≡ (if c then [] else 47 ∷ decimal n) → m ≡ n
one_spare m n true true h k p q e = grind (arith, common_steps)
one_spare m n true false h k p q e = absurd (cc)
one_spare m n false true h k p q e = absurd (cc)
one_spare m n false false h k p q e = decimal_injective m n (omega (arith, p)) (omega (arith, q)) (tail _ _ _ _ e)

pub flags_are_word : (b : Bits) → IsBits b → all_of is_word_octet (flags_word b) ≡ true
flags_are_word b h =
    all_append is_word_octet (codes "0x" ++ hex b.octets) (spare_word b.spare)
    (all_weaker is_hex_octet is_word_octet hex_is_word (hex b.octets) (hex_is_hex b.octets h.octets)) (spare_by b.spare (nat_eq b.spare 0))

same_bits : (b c : Bits) → b.octets ≡ c.octets → b.spare ≡ c.spare → b ≡ c
same_bits b c o s = λ i. record { octets = o i; spare = s i }

pub one_flags : (b c : Bits) → IsBits b → IsBits c → flags_word b ≡ flags_word c → b ≡ c
one_flags b c h k e =
    let parts = split is_hex_octet (codes "0x" ++ hex b.octets) (codes "0x" ++ hex c.octets) (spare_word b.spare) (spare_word c.spare)
    (hex_is_hex b.octets h.octets) (hex_is_hex c.octets k.octets) (spare_stops b.spare (nat_eq b.spare 0)) (spare_stops c.spare (nat_eq c.spare 0)) e in
    same_bits b c (one_hex b.octets c.octets h.octets k.octets (append_cancel_left (codes "0x") (hex b.octets) (hex c.octets) parts.0))
    (one_spare b.spare c.spare (nat_eq b.spare 0) (nat_eq c.spare 0) refl refl h.few k.few parts.1)
