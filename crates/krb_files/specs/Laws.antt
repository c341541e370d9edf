-- What is read is what is written, for each field, and for fields made of others.
use Rattle.std.proofs.Common.{◌≡◌, ℕ, zero, suc, ◌+◌, ◌*◌, ◌%◌, ◌<◌, ◌≤◌, Bool, true, false, cond, eqb, ltb, eq-eqb, List, [], ◌∷◌, ◌++◌, length, get_or, take, drop, Result, Ok, Err, refl, sym, ap, subst, ◌∙◌, append_assoc, arith, inl, inr}
use Rattle.std.specs.List.{flat_map, AllByRecursion}
use Rattle.std.proofs.lemmas.Bool.{cases_lt, eqb-true, ltb-false, le-ltb}
use Rattle.std.proofs.lemmas.List.{take_at, drop_at, take-append-drop, length-append, length-take, get_or-drop, get_or-take, get_or_past}
use Rattle.std.proofs.lemmas.List.Concat.{flat_map-cons}
use Rattle.std.proofs.lemmas.Nat.{be_bytes_2, be_bytes_4}
use Rattle.byteorder.specs.Endian.{big_number, big_bytes}
use Rattle.byteorder.specs.Numbers.{big_number-reads_back, length-bytes_high_first, big_from-lt, big_from-take}
use Rattle.krb_files.specs.declared.fields.error.FieldError.{FieldError}
use Rattle.krb_files.specs.declared.fields.error.FieldError.TheVariants.{Truncated, LengthPastEnd, CountPastEnd, RepetitionDiffers}
use Rattle.krb_files.specs.FieldReading.{◌>>=◌, number_at, counted_at, list_at, Principal, principal_at, followed_at, seen_at, Typed, typed_from, typed_at, typed_list_at, twice_at}
use Rattle.krb_files.specs.FieldWritten.{counted_octets, principal_octets, FitsNumber, FitsCounted, FitsPrincipal, typed_octets, FitsTyped, typed_list_octets, FitsTypedList, twice_octets}

abbrev pub IsOctets : List ℕ → Type 0
IsOctets b = (i : ℕ) → get_or b i 0 < 256

pub IsOctets-drop : (n : ℕ) (b : List ℕ) → IsOctets b → IsOctets (drop n b)
IsOctets-drop n b h i = rw get_or-drop (h (n + i))

pub IsOctets-take : (n : ℕ) (b : List ℕ) → IsOctets b → IsOctets (take n b)
IsOctets-take n b h i =
    elim (cases_lt i n) [
      | inl lt ↦ rw (get_or-take n b i 0 lt) (h i)
      | inr le ↦ rw (get_or_past (take n b) i 0 (omega (arith, length-take n b))) (omega arith)
    ]

-- the value of a step that did not fail
pub bind_ok : {A B E : Type 0} (r : Result A E) (f : A → Result B E) (y : B) → (r >>= f) ≡ Ok y → (x : A) × (r ≡ Ok x) × (f x ≡ Ok y)
bind_ok (Ok x) f y e = (x, refl, e)
bind_ok (Err d) f y e = absurd cc

-- a test that did not fail
pub guard_ok : {A E : Type 0} (b : Bool) (d : E) (r : Result A E) (y : A) → cond b (Err d) r ≡ Ok y → (b ≡ false) × (r ≡ Ok y)
guard_ok true d r y e = absurd cc
guard_ok false d r y e = (refl, e)

pub ok_is : {A : Type 0} (E : Type 0) (x y : A) → (let r : Result A E = Ok x in r ≡ Ok y) → x ≡ y
ok_is E x y e = cc

-- these octets were taken from the front
pub record Takes (b text rest : List ℕ) : Type 0 where
  pub parts : b ≡ text ++ rest
  pub rest_fits : IsOctets rest

pub Takes-then : (a x b y c : List ℕ) → Takes a x b → Takes b y c → Takes a (x ++ y) c
Takes-then a x b y c p q = record { parts = p.parts ∙ ap (λ (t : List ℕ). x ++ t) q.parts ∙ sym (append_assoc x y c); rest_fits = q.rest_fits }

-- What is read has been written so and fits its fields, and what fits is read again once it is written, whatever follows.
pub record IsReading {A E : Type 0} (read : List ℕ → Result (A × List ℕ) E) (octets : A → List ℕ) (Fits : A → Type 0) : Type 0 where
  pub takes : (b : List ℕ) (x : A) (rest : List ℕ) → IsOctets b → read b ≡ Ok (x, rest) → Takes b (octets x) rest × Fits x
  pub again : (x : A) (rest : List ℕ) → Fits x → read (octets x ++ rest) ≡ Ok (x, rest)

-- numbers of one, two and four octets
pub record IsWide (n : ℕ) : Type 0 where
  pub some : 0 < n
  pub back : (b : List ℕ) → length b ≡ n → IsOctets b → big_bytes n (big_number n b) ≡ b

one : (b : List ℕ) → length b ≡ 1 → get_or b 0 0 < 256 → big_bytes 1 (big_number 1 b) ≡ b
one [] e h = absurd (omega arith)
one (x ∷ []) e h =
    let same : (x * 1 + 0) % 256 ≡ x = omega arith in
    ap (λ (y : ℕ). y ∷ []) same
one (x ∷ y ∷ b) e h = absurd (omega arith)

pub wide1 : IsWide 1
wide1 = record {
  some = omega arith;
  back = λ b e fits. one b e (fits 0);
}

pub wide2 : IsWide 2
wide2 = record {
  some = omega arith;
  back = λ b e fits. be_bytes_2 b (big_number 2 b) e fits (omega arith);
}

pub wide4 : IsWide 4
wide4 = record {
  some = omega arith;
  back = λ b e fits. be_bytes_4 b (big_number 4 b) e fits (omega arith);
}

number_takes : (n : ℕ) → IsWide n → (b : List ℕ) (x : ℕ) (rest : List ℕ) → IsOctets b → number_at n b ≡ Ok (x, rest) → Takes b (big_bytes n x) rest × FitsNumber n x
number_takes n wide b x rest fits e =
    let g = guard_ok (ltb (length b) n) Truncated (Ok (big_number n b, drop n b)) (x, rest) e in
    let long : n ≤ length b = ltb-false _ _ g.0 in
    let pair = ok_is FieldError (big_number n b, drop n b) (x, rest) g.1 in
    let x-is : big_number n b ≡ x = ap (λ (p : ℕ × List ℕ). p.0) pair in
    let rest-is : drop n b ≡ rest = ap (λ (p : ℕ × List ℕ). p.1) pair in
    let len : length (take n b) ≡ n = omega (arith, length-take n b) in
    let same : big_number n (take n b) ≡ big_number n b = big_from-take 0 n n b (omega arith) in
    let front : big_bytes n x ≡ take n b = rw (← x-is, ← same) (wide.back (take n b) len (IsOctets-take n b fits)) in
    (record { parts = rw (front, ← rest-is) (sym (take-append-drop n b)); rest_fits = rw (← rest-is) (IsOctets-drop n b fits) }, rw (← x-is) (big_from-lt 0 n b fits))

number_again : (n x : ℕ) (rest : List ℕ) → FitsNumber n x → number_at n (big_bytes n x ++ rest) ≡ Ok (x, rest)
number_again n x rest lt =
    let len = length-bytes_high_first n x in
    let long : ltb (length (big_bytes n x ++ rest)) n ≡ false = le-ltb _ _ (omega (arith, length-append (big_bytes n x) rest)) in
    rw (long, drop_at (big_bytes n x) rest n len, big_number-reads_back n x rest lt) refl

pub number_reading : (n : ℕ) → IsWide n → IsReading (number_at n) (big_bytes n) (FitsNumber n)
number_reading n wide = record { takes = number_takes n wide; again = number_again n }

counted_takes : (n : ℕ) → IsWide n → (b x rest : List ℕ) → IsOctets b → counted_at n b ≡ Ok (x, rest) → Takes b (counted_octets n x) rest × FitsCounted n x
unfolding counted_at
counted_takes n wide b x rest fits e =
    let a = bind_ok (number_at n b) (λ l. cond (ltb (length l.1) l.0) (Err LengthPastEnd) (Ok (take l.0 l.1, drop l.0 l.1))) (x, rest) e in
    let l = a.0 in
    let t = number_takes n wide b l.0 l.1 fits a.1 in
    let g = guard_ok (ltb (length l.1) l.0) LengthPastEnd (Ok (take l.0 l.1, drop l.0 l.1)) (x, rest) a.2 in
    let long : l.0 ≤ length l.1 = ltb-false _ _ g.0 in
    let len : length (take l.0 l.1) ≡ l.0 = omega (arith, length-take l.0 l.1) in
    let second : Takes l.1 (take l.0 l.1) (drop l.0 l.1) = record { parts = sym (take-append-drop l.0 l.1); rest_fits = IsOctets-drop l.0 l.1 t.0.rest_fits } in
    let both = Takes-then b (big_bytes n l.0) l.1 (take l.0 l.1) (drop l.0 l.1) t.0 second in
    let whole : Takes b (counted_octets n (take l.0 l.1)) (drop l.0 l.1) = subst (λ (k : ℕ). Takes b (big_bytes n k ++ take l.0 l.1) (drop l.0 l.1)) (sym len) both in
    let short : FitsCounted n (take l.0 l.1) = subst (FitsNumber n) (sym len) t.1 in
    subst (λ (p : List ℕ × List ℕ). Takes b (counted_octets n p.0) p.1 × FitsCounted n p.0) (ok_is FieldError (take l.0 l.1, drop l.0 l.1) (x, rest) g.1) (whole, short)

counted_again : (n : ℕ) (x rest : List ℕ) → FitsCounted n x → counted_at n (counted_octets n x ++ rest) ≡ Ok (x, rest)
unfolding counted_at
counted_again n x rest lt =
    let long : ltb (length (x ++ rest)) (length x) ≡ false = le-ltb _ _ (omega (arith, length-append x rest)) in
    let regrouped : counted_octets n x ++ rest ≡ big_bytes n (length x) ++ (x ++ rest) = append_assoc (big_bytes n (length x)) x rest in
    ap (counted_at n) regrouped ∙ rw (number_again n (length x) (x ++ rest) lt, long, take_at x rest (length x) refl, drop_at x rest (length x) refl) refl

pub counted_reading : (n : ℕ) → IsWide n → IsReading (counted_at n) (counted_octets n) (FitsCounted n)
counted_reading n wide = record { takes = counted_takes n wide; again = counted_again n }

-- so many elements
list_takes : {A E : Type 0} (read : List ℕ → Result (A × List ℕ) E) (octets : A → List ℕ) (Fits : A → Type 0) → IsReading read octets Fits
    → (k : ℕ) (b : List ℕ) (x : List A × List ℕ) → IsOctets b → list_at read k b ≡ Ok x → Takes b (flat_map octets x.0) x.1 × (length x.0 ≡ k) × AllByRecursion Fits x.0
unfolding list_at
list_takes {A = A} {E = E} read octets Fits r zero b x fits e =
    let made : List A × List ℕ = ([], b) in
    subst (λ (y : List A × List ℕ). Takes b (flat_map octets y.0) y.1 × (length y.0 ≡ 0) × AllByRecursion Fits y.0) (ok_is E made x e) (record { parts = refl; rest_fits = fits }, refl, tt)
list_takes {A = A} {E = E} read octets Fits r (suc k) b x fits e =
    let a = bind_ok (read b) (λ first. list_at read k first.1 >>= λ others. Ok (first.0 ∷ others.0, others.1)) x e in
    let o = bind_ok (list_at read k a.0.1) (λ others. Ok (a.0.0 ∷ others.0, others.1)) x a.2 in
    let first = r.takes b a.0.0 a.0.1 fits a.1 in
    let second = list_takes read octets Fits r k a.0.1 o.0 first.0.rest_fits o.1 in
    let both = Takes-then b (octets a.0.0) a.0.1 (flat_map octets o.0.0) o.0.1 first.0 second.0 in
    let made : List A × List ℕ = (a.0.0 ∷ o.0.0, o.0.1) in
    subst (λ (y : List A × List ℕ). Takes b (flat_map octets y.0) y.1 × (length y.0 ≡ suc k) × AllByRecursion Fits y.0) (ok_is E made x o.2) (rw flat_map-cons both, ap suc second.1, (first.1, second.2))

list_again : {A E : Type 0} (read : List ℕ → Result (A × List ℕ) E) (octets : A → List ℕ) (Fits : A → Type 0) → IsReading read octets Fits
    → (xs : List A) (rest : List ℕ) → AllByRecursion Fits xs → list_at read (length xs) (flat_map octets xs ++ rest) ≡ Ok (xs, rest)
unfolding list_at
list_again read octets Fits r [] rest fits = refl
list_again read octets Fits r (x ∷ xs) rest fits =
    let regrouped : flat_map octets (x ∷ xs) ++ rest ≡ octets x ++ (flat_map octets xs ++ rest) = ap (λ (l : List ℕ). l ++ rest) (flat_map-cons octets x xs) ∙ append_assoc (octets x) (flat_map octets xs) rest in
    ap (list_at read (suc (length xs))) regrouped ∙ rw (r.again x (flat_map octets xs ++ rest) fits.0, list_again read octets Fits r xs rest fits.1) refl

-- elements that have an octet each are no more than the octets
pub enough : {A : Type 0} (octets : A → List ℕ) → ((x : A) → 0 < length (octets x)) → (xs : List A) → length xs ≤ length (flat_map octets xs)
enough octets some [] = omega arith
enough octets some (x ∷ xs) =
    rw flat_map-cons (omega (arith, some x, enough octets some xs, length-append (octets x) (flat_map octets xs)))

pub counted_some : (n : ℕ) → IsWide n → (x : List ℕ) → 0 < length (counted_octets n x)
counted_some n wide x = omega (arith, wide.some, length-bytes_high_first n (length x), length-append (big_bytes n (length x)) x)

principal_takes : (n : ℕ) → IsWide n → (b : List ℕ) (x : Principal) (rest : List ℕ) → IsOctets b → principal_at n b ≡ Ok (x, rest) → Takes b (principal_octets n x) rest × FitsPrincipal n x
unfolding principal_at
principal_takes n wide b x rest fits e =
    let later : ℕ → List ℕ → Result (List (List ℕ) × List ℕ) FieldError = λ count c. cond (ltb (length c) count) (Err CountPastEnd) (list_at (counted_at n) count c) in
    let make : List ℕ → List (List ℕ) × List ℕ → Result (Principal × List ℕ) FieldError = λ realm parts. Ok (record { realm = realm; components = parts.0 }, parts.1) in
    let a = bind_ok (number_at n b) (λ count. counted_at n count.1 >>= λ realm. later count.0 realm.1 >>= make realm.0) (x, rest) e in
    let r = bind_ok (counted_at n a.0.1) (λ realm. later a.0.0 realm.1 >>= make realm.0) (x, rest) a.2 in
    let p = bind_ok (later a.0.0 r.0.1) (make r.0.0) (x, rest) r.2 in
    let g = guard_ok (ltb (length r.0.1) a.0.0) CountPastEnd (list_at (counted_at n) a.0.0 r.0.1) p.0 p.1 in
    let t0 = number_takes n wide b a.0.0 a.0.1 fits a.1 in
    let t1 = counted_takes n wide a.0.1 r.0.0 r.0.1 t0.0.rest_fits r.1 in
    let t2 = list_takes (counted_at n) (counted_octets n) (FitsCounted n) (counted_reading n wide) a.0.0 r.0.1 p.0 t1.0.rest_fits g.1 in
    let e12 = Takes-then a.0.1 (counted_octets n r.0.0) r.0.1 (flat_map (counted_octets n) p.0.0) p.0.1 t1.0 t2.0 in
    let e02 = Takes-then b (big_bytes n a.0.0) a.0.1 (counted_octets n r.0.0 ++ flat_map (counted_octets n) p.0.0) p.0.1 t0.0 e12 in
    let made : Principal × List ℕ = (record { realm = r.0.0; components = p.0.0 }, p.0.1) in
    let whole : Takes b (principal_octets n made.0) p.0.1 = subst (λ (k : ℕ). Takes b (big_bytes n k ++ (counted_octets n r.0.0 ++ flat_map (counted_octets n) p.0.0)) p.0.1) (sym t2.1) e02 in
    subst (λ (y : Principal × List ℕ). Takes b (principal_octets n y.0) y.1 × FitsPrincipal n y.0) (ok_is FieldError made (x, rest) p.2)
    (whole, record { count = subst (FitsNumber n) (sym t2.1) t0.1; realm = t1.1; components = t2.2 })

principal_again : (n : ℕ) → IsWide n → (x : Principal) (rest : List ℕ) → FitsPrincipal n x → principal_at n (principal_octets n x ++ rest) ≡ Ok (x, rest)
unfolding principal_at
principal_again n wide x rest fits =
    let parts = flat_map (counted_octets n) x.components in
    let tail = parts ++ rest in
    let regrouped : principal_octets n x ++ rest ≡ big_bytes n (length x.components) ++ (counted_octets n x.realm ++ tail) =
    append_assoc (big_bytes n (length x.components)) (counted_octets n x.realm ++ parts) rest ∙ ap (λ (l : List ℕ). big_bytes n (length x.components) ++ l) (append_assoc (counted_octets n x.realm) parts rest) in
    let long : ltb (length tail) (length x.components) ≡ false = le-ltb _ _ (omega (arith, enough (counted_octets n) (counted_some n wide) x.components, length-append parts rest)) in
    let list = list_again (counted_at n) (counted_octets n) (FitsCounted n) (counted_reading n wide) x.components rest fits.components in
    ap (principal_at n) regrouped ∙ rw (number_again n (length x.components) (counted_octets n x.realm ++ tail) fits.count, counted_again n x.realm tail fits.realm, long, list) refl

pub principal_reading : (n : ℕ) → IsWide n → IsReading (principal_at n) (principal_octets n) (FitsPrincipal n)
principal_reading n wide = record { takes = principal_takes n wide; again = principal_again n wide }

-- a value, and one behind it
pub followed_reading : {A B E : Type 0} {first : List ℕ → Result (A × List ℕ) E} {second : List ℕ → Result (B × List ℕ) E} {p : A → List ℕ} {q : B → List ℕ} {F : A → Type 0} {G : B → Type 0}
    → IsReading first p F → IsReading second q G → IsReading (followed_at first second) (λ v. p v.0 ++ q v.1) (λ v. F v.0 × G v.1)
followed_reading {A = A} {B = B} {E = E} {first = first} {second = second} {p = p} {q = q} {F = F} {G = G} r s =
    let Both : List ℕ → (A × B) × List ℕ → Type 0 = λ b y. Takes b (p y.0.0 ++ q y.0.1) y.1 × (F y.0.0 × G y.0.1) in
    record {
      takes = λ b x rest fits e.
          let a = bind_ok (first b) (λ x. second x.1 >>= λ y. Ok ((x.0, y.0), y.1)) (x, rest) e in
          let c = bind_ok (second a.0.1) (λ y. Ok ((a.0.0, y.0), y.1)) (x, rest) a.2 in
          let t = r.takes b a.0.0 a.0.1 fits a.1 in
          let u = s.takes a.0.1 c.0.0 c.0.1 t.0.rest_fits c.1 in
          let made : (A × B) × List ℕ = ((a.0.0, c.0.0), c.0.1) in
          subst (Both b) (ok_is E made (x, rest) c.2) (Takes-then b (p a.0.0) a.0.1 (q c.0.0) c.0.1 t.0 u.0, (t.1, u.1));
      again = λ x rest fits.
          ap (followed_at first second) (append_assoc (p x.0) (q x.1) rest) ∙ rw (r.again x.0 (q x.1 ++ rest) fits.0, s.again x.1 rest fits.1) refl;
    }

-- a value, seen as another
pub seen_reading : {A B E : Type 0} (see : A → B) (back : B → A) → ((y : B) → see (back y) ≡ y) → ((x : A) → back (see x) ≡ x)
    → {read : List ℕ → Result (A × List ℕ) E} {p : A → List ℕ} {F : A → Type 0} → IsReading read p F → IsReading (seen_at see read) (λ y. p (back y)) (λ y. F (back y))
seen_reading {A = A} {B = B} {E = E} see back there here {read = read} {p = p} {F = F} r =
    let Seen : List ℕ → B × List ℕ → Type 0 = λ b y. Takes b (p (back y.0)) y.1 × F (back y.0) in
    record {
      takes = λ b x rest fits e.
          let a = bind_ok (read b) (λ x. Ok (see x.0, x.1)) (x, rest) e in
          let t = r.takes b a.0.0 a.0.1 fits a.1 in
          let made : B × List ℕ = (see a.0.0, a.0.1) in
          subst (Seen b) (ok_is E made (x, rest) a.2) (subst (λ (v : A). Takes b (p v) a.0.1 × F v) (sym (here a.0.0)) t);
      again = λ x rest fits. rw (r.again (back x) rest fits, there x) refl;
    }

-- octets with their type
pub typed_reading : (n : ℕ) → IsWide n → IsReading (typed_at n) (typed_octets n) (FitsTyped n)
typed_reading n wide = seen_reading typed_from (λ (t : Typed). (t.kind, t.octets)) (λ t. refl) (λ p. refl) (followed_reading (number_reading 2 wide2) (counted_reading n wide))

pub typed_some : (n : ℕ) → (t : Typed) → 0 < length (typed_octets n t)
typed_some n t = omega (arith, length-bytes_high_first 2 t.kind, length-append (big_bytes 2 t.kind) (counted_octets n t.octets))

typed_list_takes : (b : List ℕ) (x : List Typed) (rest : List ℕ) → IsOctets b → typed_list_at b ≡ Ok (x, rest) → Takes b (typed_list_octets x) rest × FitsTypedList x
unfolding typed_list_at
typed_list_takes b x rest fits e =
    let a = bind_ok (number_at 4 b) (λ count. cond (ltb (length count.1) count.0) (Err CountPastEnd) (list_at (typed_at 4) count.0 count.1)) (x, rest) e in
    let g = guard_ok (ltb (length a.0.1) a.0.0) CountPastEnd (list_at (typed_at 4) a.0.0 a.0.1) (x, rest) a.2 in
    let t = number_takes 4 wide4 b a.0.0 a.0.1 fits a.1 in
    let u = list_takes (typed_at 4) (typed_octets 4) (FitsTyped 4) (typed_reading 4 wide4) a.0.0 a.0.1 (x, rest) t.0.rest_fits g.1 in
    let both = Takes-then b (big_bytes 4 a.0.0) a.0.1 (flat_map (typed_octets 4) x) rest t.0 u.0 in
    (subst (λ (k : ℕ). Takes b (big_bytes 4 k ++ flat_map (typed_octets 4) x) rest) (sym u.1) both, (subst (FitsNumber 4) (sym u.1) t.1, u.2))

typed_list_again : (x : List Typed) (rest : List ℕ) → FitsTypedList x → typed_list_at (typed_list_octets x ++ rest) ≡ Ok (x, rest)
unfolding typed_list_at
typed_list_again x rest fits =
    let all = flat_map (typed_octets 4) x in
    let regrouped : typed_list_octets x ++ rest ≡ big_bytes 4 (length x) ++ (all ++ rest) = append_assoc (big_bytes 4 (length x)) all rest in
    let long : ltb (length (all ++ rest)) (length x) ≡ false = le-ltb _ _ (omega (arith, enough (typed_octets 4) (typed_some 4) x, length-append all rest)) in
    ap typed_list_at regrouped ∙ rw (number_again 4 (length x) (all ++ rest) fits.0, long, list_again (typed_at 4) (typed_octets 4) (FitsTyped 4) (typed_reading 4 wide4) x rest fits.1) refl

pub typed_list_reading : IsReading typed_list_at typed_list_octets FitsTypedList
typed_list_reading = record { takes = typed_list_takes; again = typed_list_again }

-- a number twice
same_number : {A : Type 0} (s : Bool) (r : Result A FieldError) (e : FieldError) (y : A) → cond s r (Err e) ≡ Ok y → (s ≡ true) × (r ≡ Ok y)
same_number true r e y h = (refl, h)
same_number false r e y h = absurd cc

twice_takes : (b : List ℕ) (x : ℕ) (rest : List ℕ) → IsOctets b → twice_at b ≡ Ok (x, rest) → Takes b (twice_octets x) rest × FitsNumber 2 x
unfolding twice_at
twice_takes b x rest fits e =
    let a = bind_ok (number_at 2 b) (λ first. number_at 2 first.1 >>= λ second. cond (eqb second.0 first.0) (Ok (first.0, second.1)) (Err RepetitionDiffers)) (x, rest) e in
    let o = bind_ok (number_at 2 a.0.1) (λ second. cond (eqb second.0 a.0.0) (Ok (a.0.0, second.1)) (Err RepetitionDiffers)) (x, rest) a.2 in
    let made : ℕ × List ℕ = (a.0.0, o.0.1) in
    let g = same_number (eqb o.0.0 a.0.0) (Ok made) RepetitionDiffers (x, rest) o.2 in
    let t = number_takes 2 wide2 b a.0.0 a.0.1 fits a.1 in
    let u = number_takes 2 wide2 a.0.1 o.0.0 o.0.1 t.0.rest_fits o.1 in
    let second : Takes a.0.1 (big_bytes 2 a.0.0) o.0.1 = subst (λ (k : ℕ). Takes a.0.1 (big_bytes 2 k) o.0.1) (eqb-true _ _ g.0) u.0 in
    let both = Takes-then b (big_bytes 2 a.0.0) a.0.1 (big_bytes 2 a.0.0) o.0.1 t.0 second in
    subst (λ (y : ℕ × List ℕ). Takes b (twice_octets y.0) y.1 × FitsNumber 2 y.0) (ok_is FieldError made (x, rest) g.1) (both, t.1)

twice_again : (x : ℕ) (rest : List ℕ) → FitsNumber 2 x → twice_at (twice_octets x ++ rest) ≡ Ok (x, rest)
unfolding twice_at
twice_again x rest fits =
    let same : eqb x x ≡ true = eq-eqb x x refl in
    ap twice_at (append_assoc (big_bytes 2 x) (big_bytes 2 x) rest) ∙ rw (number_again 2 x (big_bytes 2 x ++ rest) fits, number_again 2 x rest fits, same) refl

pub twice_reading : IsReading twice_at twice_octets (FitsNumber 2)
twice_reading = record { takes = twice_takes; again = twice_again }
