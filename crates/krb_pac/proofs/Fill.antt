-- What the loop that fills a PAC's octets keeps.
use Rattle.std.proofs.Common.{◌≡◌, ℕ, zero, suc, ◌+◌, ◌*◌, ◌^◌, ◌<◌, ◌≤◌, ◌⊎◌, inl, inr, ⊎_elim, List, [], ◌∷◌, ◌++◌, length, take, drop, get_or, slice_index, refl, sym, ap, ◌∙◌, subst, arith, length-append}
use Rattle.std.proofs.Math.Seq.{drop-cons}
use Rattle.std.proofs.lemmas.Bool.{cases_lt}
use Rattle.std.proofs.lemmas.Grind.{take_at_read}
use Rattle.std.proofs.lemmas.List.{take-append-drop, get_or-drop, length-drop}
use Rattle.byteorder.specs.Endian.{little_bytes, little_number, little_from}
use Rattle.byteorder.specs.Numbers.{little_number-reads_back}
use Rattle.krb_pac.specs.Kind.{code}
use Rattle.krb_pac.specs.Layout.{EntryAt, Buffer, BufferAt, Buffers}
use Rattle.krb_pac.specs.Stands.{Stands, KeepsOutside}
use Rattle.krb_pac.specs.Written.{AllOf, AreApart, AllApart, IsTrailing, IsFree, IsOutside, PacPut, HasRoom, PutTwice, BufferPut, entry_octets, FitsEntry, padded, head}
use Rattle.krb_pac.specs.Entry.{Entry}
use Rattle.krb_pac.proofs.Lists.{AllOf-push, AllOf-prefix, AllOf-at}

-- the entries and ranges of the buffers are in b, from entry i on
abbrev pub Placed : List ℕ → ℕ → List Buffer → Type 0
Placed b i [] = Unit {0}
Placed b i (p ∷ ps) = (Stands b (8 + 16 * i) (entry_octets p.info) × Stands b p.info.offset p.octets) × Placed b (suc i) ps

abbrev pub IsSized : Buffer → Type 0
IsSized p = length p.octets ≡ p.info.cb_buffer_size

abbrev pub IsWithin : ℕ → Buffer → Type 0
IsWithin n p = p.info.offset + p.info.cb_buffer_size ≤ n

pub record Filled (total h n : ℕ) (b : List ℕ) (ps : List Buffer) : Type 0 where
  pub len : length b ≡ total
  pub few : 8 + 16 * length ps ≤ h
  pub count : Stands b 0 (little_bytes 4 n)
  pub placed : Placed b 0 ps
  pub sized : AllOf IsSized ps
  pub fits : AllOf (λ (p : Buffer). FitsEntry p.info) ps
  pub within : AllOf (IsWithin total) ps
  pub trailing : AllOf (IsTrailing h) ps
  pub apart : AllApart ps
  pub rest : (k : ℕ) → ((4 ≤ k) × (k < 8)) ⊎ (8 + 16 * length ps ≤ k) → IsFree k ps → slice_index b k ≡ 0

pub AllApart-push : (ps : List Buffer) (p : Buffer) → AllApart ps → AllOf (λ (q : Buffer). AreApart q p) ps → AllApart (ps ++ p ∷ [])
AllApart-push [] p x y = (tt, tt)
AllApart-push (q ∷ ps) p x y = (AllOf-push (AreApart q) ps p x.0 y.0, AllApart-push ps p x.1 y.1)

pub AllApart-at : (ps : List Buffer) (p : Buffer) (qs : List Buffer) → AllApart (ps ++ p ∷ qs) → AllOf (λ (q : Buffer). AreApart q p) ps
AllApart-at [] p qs x = tt
AllApart-at (q ∷ ps) p qs x = (AllOf-at (AreApart q) ps p qs x.0, AllApart-at ps p qs x.1)

pub Buffers-at : (b : List ℕ) (i : ℕ) (ps : List Buffer) (p : Buffer) (qs : List Buffer) → Buffers b i (ps ++ p ∷ qs) → (at : ℕ) × BufferAt b at p
Buffers-at b i [] p qs x = (8 + 16 * i, x.0)
Buffers-at b i (q ∷ ps) p qs x = Buffers-at b (suc i) ps p qs x.1

-- an octet of the header is in no range after it
pub below : (h k : ℕ) (p : Buffer) → IsTrailing h p → k < h → IsOutside k p
below h k p x l = ⊎_elim
    (λ e. ⊎_elim (λ a. inl a) (λ a. inr (omega arith)) (cases_lt k p.info.offset))
    (λ e. inl (omega arith)) x

pub all_below : (h k : ℕ) (ps : List Buffer) → AllOf (IsTrailing h) ps → k < h → IsFree k ps
all_below h k [] x l = tt
all_below h k (p ∷ ps) x l = (below h k p x.0 l, all_below h k ps x.1 l)

-- octets that a write left alone are where they were
pub still : (old new : List ℕ) (at n place : ℕ) (xs : List ℕ) → length new ≡ length old → KeepsOutside at n old new → ((k : ℕ) → place ≤ k → k < place + length xs → (k < at) ⊎ (at + n ≤ k))
    → Stands old place xs → Stands new place xs
still old new at n place xs e keep out x =
    let room = x.room in
    record { room = omega arith; same = λ k l. keep (place + k) (out (place + k) (omega arith) (omega arith)) ∙ x.same k l }

-- a write to a range apart from q's leaves q's alone
pub range_still : (old new : List ℕ) (p q : Buffer) → length new ≡ length old → KeepsOutside p.info.offset p.info.cb_buffer_size old new → IsSized q → AreApart q p → Stands old q.info.offset q.octets → Stands new q.info.offset q.octets
range_still old new p q e keep s a x = still old new p.info.offset p.info.cb_buffer_size q.info.offset q.octets e keep
    (λ k l r. ⊎_elim
    (⊎_elim (λ z. absurd (omega (arith, z))) (λ z. ⊎_elim (λ y. inl y) (λ y. inr (omega arith)) (cases_lt k p.info.offset)))
    (⊎_elim (λ z. inl (omega arith)) (λ z. inr (omega arith))) a) x

placed_entry : (old new : List ℕ) (h i : ℕ) (at : ℕ) (ps : List Buffer) → length new ≡ length old → KeepsOutside at 16 old new → 8 + 16 * (i + length ps) ≤ at → at + 16 ≤ h → AllOf (IsTrailing h) ps → AllOf IsSized ps → Placed old i ps → Placed new i ps
placed_entry old new h i at [] e keep l r b s x = tt
placed_entry old new h i at (p ∷ ps) e keep l r b s x = (
  (
    still old new at 16 (8 + 16 * i) (entry_octets p.info) e keep (λ k y z. inl (omega arith)) x.0.0,
    still old new at 16 p.info.offset p.octets e keep (λ k y z. ⊎_elim (λ w. absurd (omega (arith, s.0))) (λ w. inr (omega arith)) b.0) x.0.1,
  ),
  placed_entry old new h (suc i) at ps e keep (omega arith) r b.1 s.1 x.1,
)

placed_range : (old new : List ℕ) (h i : ℕ) (p : Buffer) (ps : List Buffer) → length new ≡ length old → KeepsOutside p.info.offset p.info.cb_buffer_size old new → IsTrailing h p → 8 + 16 * (i + length ps) ≤ h
    → AllOf IsSized ps → AllOf (λ (q : Buffer). AreApart q p) ps → Placed old i ps → Placed new i ps
placed_range old new h i p [] e keep bp l s a x = tt
placed_range old new h i p (q ∷ ps) e keep bp l s a x = (
  (
    still old new p.info.offset p.info.cb_buffer_size (8 + 16 * i) (entry_octets q.info) e keep (λ k y z. below h k p bp (omega arith)) x.0.0,
    range_still old new p q e keep s.0 a.0 x.0.1,
  ),
  placed_range old new h (suc i) p ps e keep bp (omega arith) s.1 a.1 x.1,
)

Placed-push : (b : List ℕ) (i : ℕ) (ps : List Buffer) (p : Buffer) → Placed b i ps → Stands b (8 + 16 * (i + length ps)) (entry_octets p.info) → Stands b p.info.offset p.octets → Placed b i (ps ++ p ∷ [])
Placed-push b i [] p x y z = ((subst (λ (k : ℕ). Stands b (8 + 16 * k) (entry_octets p.info)) (omega arith) y, z), tt)
Placed-push b i (q ∷ ps) p x y z = (x.0, Placed-push b (suc i) ps p x.1 (subst (λ (k : ℕ). Stands b (8 + 16 * k) (entry_octets p.info)) (omega arith) y) z)

-- one buffer more
pub more_filled : (total h n : ℕ) (b d : List ℕ) (ps : List Buffer) (p : Buffer) (at : ℕ) → Filled total h n b ps → at ≡ 8 + 16 * length ps → at + 16 ≤ h → IsWithin total p → IsTrailing h p
    → AllOf (λ (q : Buffer). AreApart q p) ps → PutTwice at b d p → Filled total h n d (ps ++ p ∷ [])
more_filled total h n b d ps p at x place room w bp a put =
    let c = put.between in
    let s = put.sized in
    let fe = put.fits in
    let ec = put.entry_len in
    let hc = put.entry in
    let kc = put.entry_kept in
    let ed = put.range_len in
    let hd = put.range in
    let kd = put.range_kept in
    let few = x.few in
    let len = x.len in
    let long : length (ps ++ p ∷ []) ≡ length ps + 1 = length-append ps (p ∷ []) in
    let e : Stands d at (entry_octets p.info) = still c d p.info.offset p.info.cb_buffer_size at (entry_octets p.info) ed kd (λ k y z. below h k p bp (omega arith)) hc in
    let count1 : Stands c 0 (little_bytes 4 n) = still b c at 16 0 (little_bytes 4 n) ec kc (λ k y z. inl (omega arith)) x.count in
    let placed1 : Placed c 0 ps = placed_entry b c h 0 at ps ec kc (omega arith) room x.trailing x.sized x.placed in
    let placed2 : Placed d 0 ps = placed_range c d h 0 p ps ed kd bp (omega arith) x.sized a placed1 in
    let at2 : at ≡ 8 + 16 * (0 + length ps) = omega arith in
    record {
      len = omega arith;
      few = omega arith;
      count = still c d p.info.offset p.info.cb_buffer_size 0 (little_bytes 4 n) ed kd (λ k y z. below h k p bp (omega arith)) count1;
      placed = Placed-push d 0 ps p placed2 (subst (λ (k : ℕ). Stands d k (entry_octets p.info)) at2 e) hd;
      sized = AllOf-push IsSized ps p x.sized s;
      fits = AllOf-push (λ (q : Buffer). FitsEntry q.info) ps p x.fits fe;
      within = AllOf-push (IsWithin total) ps p x.within w;
      trailing = AllOf-push (IsTrailing h) ps p x.trailing bp;
      apart = AllApart-push ps p x.apart a;
      rest = λ k y f.
          let out : (k < at) ⊎ (at + 16 ≤ k) = ⊎_elim (λ z. inl (omega (arith, z.0, z.1))) (λ z. inr (omega arith)) y in
          let was : ((4 ≤ k) × (k < 8)) ⊎ (8 + 16 * length ps ≤ k) = ⊎_elim (λ z. inl z) (λ z. inr (omega arith)) y in
          kd k (AllOf-at (IsOutside k) ps p [] f) ∙ kc k out
          ∙ x.rest k was (AllOf-prefix (IsOutside k) ps (p ∷ []) f);
    }

-- before the first buffer
pub none_filled : (total h n : ℕ) (a b : List ℕ) → length b ≡ length a → length a ≡ total → 8 ≤ h → h ≤ total → Stands b 0 (little_bytes 4 n) → KeepsOutside 0 (length (little_bytes 4 n)) a b → ((k : ℕ) → slice_index a k ≡ 0)
    → Filled total h n b []
none_filled total h n a b e f g t s k z = record {
  len = omega arith;
  few = omega arith;
  count = s;
  placed = tt;
  sized = tt;
  fits = tt;
  within = tt;
  trailing = tt;
  apart = tt;
  rest = λ j y w. k j (inr (⊎_elim (λ l. omega (arith, l.0)) (λ l. omega arith) y)) ∙ z j;
}

-- octets that are in b are read out of it
number_from : (i n : ℕ) (b xs : List ℕ) (at j : ℕ) → Stands b at xs → j + i + n ≤ length xs → little_from i n (drop (at + j) b) ≡ little_from i n (drop j xs)
number_from i zero b xs at j x h = refl
number_from i (suc n) b xs at j x h =
    let e : at + (j + i) ≡ at + j + i = omega arith in
    let one : slice_index (drop (at + j) b) i ≡ slice_index (drop j xs) i =
    get_or-drop (at + j) b i 0 ∙ ap (λ (k : ℕ). slice_index b k) (sym e) ∙ x.same (j + i) (omega arith) ∙ sym (get_or-drop j xs i 0) in
    ap (λ (k : ℕ). k + 256 * little_from (suc i) n (drop (at + j) b)) one ∙ ap (λ (k : ℕ). slice_index (drop j xs) i + 256 * k) (number_from (suc i) n b xs at j x (omega arith))

take_same : (ys xs : List ℕ) → length xs ≤ length ys → ((k : ℕ) → k < length xs → slice_index ys k ≡ slice_index xs k) → take (length xs) ys ≡ xs
take_same ys [] h f = refl
take_same [] (x ∷ xs) h f = absurd (omega arith)
take_same (y ∷ ys) (x ∷ xs) h f =
    ap (λ (k : ℕ). k ∷ take (length xs) ys) (f 0 (omega arith)) ∙ ap (λ (z : List ℕ). x ∷ z) (take_same ys xs (omega arith) (λ k l. f (suc k) (omega arith)))

standing : (b xs : List ℕ) (at : ℕ) → Stands b at xs → take (length xs) (drop at b) ≡ xs
standing b xs at x =
    let room = x.room in
    let e = length-drop at b in
    take_same (drop at b) xs (omega arith) (λ k l. get_or-drop at b k 0 ∙ x.same k l)

entry_read : (b : List ℕ) (at : ℕ) (i : Entry) → FitsEntry i → Stands b at (entry_octets i) → EntryAt b at i
entry_read b at i f x = record {
  room = x.room;
  kind = ap (λ (k : ℕ). little_number 4 (drop k b)) (add_zero at) ∙ number_from 0 4 b (entry_octets i) at 0 x (omega arith) ∙ little_number-reads_back 4 (code i.ul_type) (little_bytes 4 i.cb_buffer_size ++ little_bytes 8 i.offset) (omega (arith, f.0));
  size = number_from 0 4 b (entry_octets i) at 4 x (omega arith) ∙ little_number-reads_back 4 i.cb_buffer_size (little_bytes 8 i.offset) f.1;
  offset = number_from 0 8 b (entry_octets i) at 8 x (omega arith) ∙ little_number-reads_back 8 i.offset [] f.2;
}
  where
    add_zero : (k : ℕ) → k ≡ k + 0
    add_zero k = omega arith

placed_read : (b : List ℕ) (i : ℕ) (ps : List Buffer) → AllOf IsSized ps → AllOf (λ (p : Buffer). FitsEntry p.info) ps → AllOf (IsWithin (length b)) ps → Placed b i ps → Buffers b i ps
placed_read b i [] s f w x = tt
placed_read b i (p ∷ ps) s f w x = (
  record {
    entry = entry_read b (8 + 16 * i) p.info f.0 x.0.0;
    inside = w.0;
    named = sym (standing b p.octets p.info.offset x.0.1) ∙ ap (λ (n : ℕ). take n (drop p.info.offset b)) s.0;
  },
  placed_read b (suc i) ps s.1 f.1 w.1 x.1,
)

-- after the last buffer
pub all_filled : (total h n : ℕ) (b : List ℕ) (ps : List Buffer) → h ≡ head ps → n ≡ length ps → n < 2 ^ 32 → total ≡ head ps + padded ps → Filled total h n b ps → PacPut ps b
all_filled total h n b ps eh en few et x =
    let len = x.len in
    let zero_at : (k : ℕ) → 4 ≤ k → k < 8 → slice_index b k ≡ 0 = λ k l r. x.rest k (inl (l, r)) (all_below h k ps x.trailing (omega arith)) in
    let z4 = get_or-drop 4 b 0 0 ∙ zero_at 4 (omega arith) (omega arith) in
    let z5 = get_or-drop 4 b 1 0 ∙ zero_at 5 (omega arith) (omega arith) in
    let z6 = get_or-drop 4 b 2 0 ∙ zero_at 6 (omega arith) (omega arith) in
    let z7 = get_or-drop 4 b 3 0 ∙ zero_at 7 (omega arith) (omega arith) in
    let count : little_number 4 b ≡ n = number_from 0 4 b (little_bytes 4 n) 0 0 x.count (omega arith) ∙ little_number-reads_back 4 n [] few in
    record {
      is = record {
        room = omega arith;
        count = count ∙ en;
        version = omega (arith, z4, z5, z6, z7);
        buffers = placed_read b 0 ps x.sized x.fits (subst (λ (k : ℕ). AllOf (IsWithin k) ps) (sym len) x.within) x.placed;
      };
      size = len ∙ et;
      trailing = subst (λ (k : ℕ). AllOf (IsTrailing k) ps) eh x.trailing;
      apart = x.apart;
      zero_else = λ k l f. x.rest k (inr (omega arith)) f;
    }

-- a buffer among the others
pub split_at_place : {A : Type 0} (xs : List A) (i : ℕ) (x : A) → i < length xs → x ≡ get_or xs i x → xs ≡ take i xs ++ x ∷ drop (suc i) xs
split_at_place {A = A} xs i x h e =
    sym (take-append-drop i xs) ∙ ap (λ (z : List A). take i xs ++ z) (drop-cons xs i x h ∙ ap (λ (z : A). z ∷ drop (suc i) xs) (sym e))

pub one_more : {A : Type 0} (xs : List A) (i : ℕ) (x : A) → i < length xs → x ≡ get_or xs i x → take (i + 1) xs ≡ take i xs ++ x ∷ []
one_more {A = A} xs i x h e = let t = take_at_read xs i x h in t.1 ∙ ap (λ (z : A). take i xs ++ z ∷ []) (sym e)

-- a range without a place
pub without_place : (b : List ℕ) (pac ps qs : List Buffer) (p : Buffer) (h total : ℕ) → pac ≡ ps ++ p ∷ qs → h ≡ head pac → total ≡ head pac + padded pac → PacPut pac b
    → (p.info.offset + p.info.cb_buffer_size ≤ total → IsTrailing h p → ⊥) → ⊥
without_place b pac ps qs p h total e eh et x f =
    let size = x.size in
    let at = Buffers-at b 0 ps p qs (subst (Buffers b 0) e x.is.buffers) in
    let trailing : IsTrailing h p = AllOf-at (IsTrailing h) ps p qs (subst (AllOf (IsTrailing h)) e (subst (λ (k : ℕ). AllOf (IsTrailing k) pac) (sym eh) x.trailing)) in
    f (omega (arith, at.1.inside)) trailing

-- a range that meets an earlier one
pub without_own : (b : List ℕ) (pac ps qs : List Buffer) (p : Buffer) → pac ≡ ps ++ p ∷ qs → PacPut pac b → (AllOf (λ (q : Buffer). AreApart q p) ps → ⊥) → ⊥
without_own b pac ps qs p e x f = f (AllApart-at ps p qs (subst AllApart e x.apart))

-- one buffer was put where it has room
pub buffer_put : (old new : List ℕ) (at : ℕ) (p : Buffer) → HasRoom at (length old) p → PutTwice at old new p → BufferPut at old new p
buffer_put old new at p x y =
    let inside = x.inside in
    let em = y.entry_len in
    let en = y.range_len in
    let there : Stands new at (entry_octets p.info) = still y.between new p.info.offset p.info.cb_buffer_size at (entry_octets p.info) en y.range_kept
    (λ k l r. ⊎_elim (λ none. ⊎_elim (λ y. inl y) (λ y. inr (omega arith)) (cases_lt k p.info.offset)) (⊎_elim (λ y. inr (omega arith)) (λ y. inl (omega arith))) x.apart) y.entry in
    record {
      is = record {
        entry = entry_read new at p.info y.fits there;
        inside = omega arith;
        named = sym (standing new p.octets p.info.offset y.range) ∙ ap (λ (n : ℕ). take n (drop p.info.offset new)) y.sized;
      };
      size = en ∙ em;
      kept = λ k l r. y.range_kept k r ∙ y.entry_kept k l;
    }
