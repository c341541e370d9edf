-- The place of a buffer of a PAC.
use Rattle.std.proofs.Common.{◌≡◌, ℕ, zero, suc, ◌+◌, ◌*◌, ◌<◌, ◌≤◌, List, [], ◌∷◌, ◌++◌, length, take, drop, get_or, Some, None, slice_get, slice_set, sym, ap, ◌∙◌, subst, arith}
use Rattle.std.specs.Prelude.{map}
use Rattle.std.proofs.lemmas.List.{length-drop, length-take-le}
use Rattle.krb_pac.specs.Layout.{Buffer, BufferAt, Buffers, PacIs}
use Rattle.krb_c_calls.specs.Pac.{AllStand}
use Rattle.krb_c_calls.specs.Places.{StandsAt}
use Rattle.krb_c_calls.proofs.PlacedItems.{placed}

-- each buffer is at its entry
at_entry : (b : List ℕ) (i n : ℕ) (ps : List Buffer) (p : Buffer) → Buffers b i ps → slice_get ps n ≡ Some p → BufferAt b (8 + 16 * (i + n)) p
at_entry b i n [] p x e = absurd (cc)
at_entry b i zero (q ∷ ps) p x e =
    let same : q ≡ p = (cc) in
    subst (λ (r : Buffer). BufferAt b (8 + 16 * (i + 0)) r) same (subst (λ (k : ℕ). BufferAt b (8 + 16 * k) q) (omega arith) x.0)
at_entry b i (suc n) (q ∷ ps) p x e = subst (λ (k : ℕ). BufferAt b (8 + 16 * k) p) (omega arith) (at_entry b (suc i) n ps p x.1 e)

-- and stands where the entry says
pub place_of_buffer : (b : List ℕ) (pac : List Buffer) (n : ℕ) (p : Buffer) → PacIs b pac → slice_get pac n ≡ Some p → StandsAt p.octets b p.info.offset p.info.cb_buffer_size
place_of_buffer b pac n p is there =
    let stands = at_entry b 0 n pac p is.buffers there in
    let inside = stands.inside in
    let fits : p.info.cb_buffer_size ≤ length (drop p.info.offset b) = rw length-drop (omega arith) in
    record {
      count = sym (ap length stands.named ∙ length-take-le p.info.cb_buffer_size (drop p.info.offset b) fits);
      inside = inside;
      octets = stands.named;
    }

-- a PAC that has no buffer n has not so many
pub none_past : (pac : List Buffer) (n : ℕ) → None ≡ slice_get pac n → length pac ≤ n
none_past [] n e = omega arith
none_past (p ∷ ps) zero e = absurd (cc)
none_past (p ∷ ps) (suc n) e = let h = none_past ps n e in omega arith

-- the place that is told
pub told_place : (b : List ℕ) (pac : List Buffer) (n offset size : ℕ) (p : Buffer) → PacIs b pac → slice_get pac n ≡ Some p → offset ≡ p.info.offset → size ≡ p.info.cb_buffer_size
    → StandsAt p.octets b offset size
told_place b pac n offset size p is there same_offset same_size =
    subst (λ (o : ℕ). StandsAt p.octets b o size) (sym same_offset)
    (subst (λ (s : ℕ). StandsAt p.octets b p.info.offset s) (sym same_size) (place_of_buffer b pac n p is there))

-- the octets of each buffer stand at its place
pub all_stand : (b : List ℕ) (pac : List Buffer) → PacIs b pac → AllStand b pac
all_stand b pac is n p there = place_of_buffer b pac n p is there

-- ---- places put

nth_is : {A : Type 0} (xs : List A) (n : ℕ) (x : A) → slice_get xs n ≡ Some x → get_or xs n x ≡ x
nth_is [] n x e = absurd (cc)
nth_is (y ∷ xs) zero x e = (cc)
nth_is (y ∷ xs) (suc n) x e = nth_is xs n x e

-- one more record, of the next buffer
pub one_more : {A B : Type 0} (f : A → B) (from : List A) (before : List B) (n : ℕ) (x : A) → slice_get from n ≡ Some x → n < length from → n < length before
    → slice_set (map f (take n from) ++ drop n before) n (f x) ≡ map f (take (n + 1) from) ++ drop (n + 1) before
one_more {B = B} f from before n x there within room =
    ap (λ v. slice_set (map f (take n from) ++ drop n before) n (f v)) (sym (nth_is from n x there)) ∙ placed f from before n x within room
