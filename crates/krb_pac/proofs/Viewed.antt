-- The buffers that are computed from octets.
use borrow.Author.Count.{below_more}
use Rattle.std.proofs.Common.{◌≡◌, ℕ, zero, suc, ◌+◌, ◌*◌, ◌<◌, ◌≤◌, List, [], ◌∷◌, length, drop, Some, None, Result, Ok, Err, IfOk, IfErr, slice_get, refl, sym, ap, ◌∙◌, subst, arith}
use Rattle.std.specs.Result.{result_ok}
use Rattle.std.proofs.lemmas.List.{drop_more}
use Rattle.std.proofs.lemmas.Option.{get_or_from_slice_get, slice_get_within}
use Rattle.byteorder.specs.Endian.{little_number}
use Rattle.krb_pac.specs.Entry.{Entry}
use Rattle.krb_pac.specs.Kind.{named, named_code}
use Rattle.krb_pac.specs.Layout.{EntryAt, Buffer, BufferAt, Buffers, PacIs}
use Rattle.krb_pac.specs.OnePac.{one_pac}
use Rattle.krb_pac.specs.Rejected.{AreAlike, Before, BufferRejected, IsNotMemory, PacRejected}
use Rattle.krb_pac.specs.View.{entry_of, named_by, buffer_of, buffers_of}
use Rattle.krb_pac.proofs.Entries.{no_buffer, no_pac, rejected_there}
use Rattle.krb_pac.proofs.OneRejection.{one_rejection}
use Rattle.krb_pac.specs.declared.kind.PacBufferType.{PacBufferType}
use Rattle.krb_pac.specs.declared.error.PacError.{PacError}

pub length_buffers : (b : List ℕ) (i n : ℕ) → length (buffers_of b i n) ≡ n
unfolding buffers_of
length_buffers b i zero = refl
length_buffers b i (suc n) = ap suc (length_buffers b (suc i) n)

pub get_buffers : (b : List ℕ) (i n k : ℕ) → k < n → slice_get (buffers_of b i n) k ≡ Some (buffer_of b (8 + 16 * (i + k)))
unfolding buffers_of
get_buffers b i zero k h = absurd (omega arith)
get_buffers b i (suc n) zero h = ap (λ (j : ℕ). Some (buffer_of b (8 + 16 * j))) (omega arith)
get_buffers b i (suc n) (suc k) h = get_buffers b (suc i) n k (omega arith) ∙ ap (λ (j : ℕ). Some (buffer_of b (8 + 16 * j))) (omega arith)

same_entry_of : (b : List ℕ) (at : ℕ) (i : Entry) → EntryAt b at i → i ≡ entry_of b at
same_entry_of b at i x =
    let mk : PacBufferType → ℕ → ℕ → Entry = λ k s o. record { ul_type = k; cb_buffer_size = s; offset = o } in
    let k : i.ul_type ≡ named (little_number 4 (drop at b)) = sym (named_code i.ul_type) ∙ ap named (sym x.kind) in
    ap (λ (z : PacBufferType). mk z i.cb_buffer_size i.offset) k ∙ ap (λ (z : ℕ). mk (named (little_number 4 (drop at b))) z i.offset) (sym x.size)
    ∙ ap (λ (z : ℕ). mk (named (little_number 4 (drop at b))) (little_number 4 (drop (at + 4) b)) z) (sym x.offset)

-- the buffer at a place is the one that is computed
pub is_computed : (b : List ℕ) (at : ℕ) (p : Buffer) → BufferAt b at p → p ≡ buffer_of b at
unfolding buffer_of
is_computed b at p x =
    let mk : Entry → List ℕ → Buffer = λ i o. record { info = i; octets = o } in
    ap (λ (o : List ℕ). mk p.info o) x.named ∙ ap (named_by b) (same_entry_of b at p.info x.entry)

pub computed_at : (b : List ℕ) (at : ℕ) (p : Buffer) → BufferAt b at p → BufferAt b at (buffer_of b at)
computed_at b at p x = subst (BufferAt b at) (is_computed b at p x) x

all_buffers : (b : List ℕ) (i n : ℕ) → ((k : ℕ) → k < i + n → BufferAt b (8 + 16 * k) (buffer_of b (8 + 16 * k))) → Buffers b i (buffers_of b i n)
unfolding buffers_of
all_buffers b i zero f = tt
all_buffers b i (suc n) f = (f i (omega arith), all_buffers b (suc i) n (λ k h. f k (omega arith)))

pub buffers_there : (b : List ℕ) (n : ℕ) → ((k : ℕ) → k < n → BufferAt b (8 + 16 * k) (buffer_of b (8 + 16 * k))) → Buffers b 0 (buffers_of b 0 n)
buffers_there b n f = all_buffers b 0 n (λ k h. f k (omega arith))

-- the result of looking at an entry that is there
pub looked_up : (b : List ℕ) (n count : ℕ) (xs : List Buffer) (r : Result Buffer PacError) → buffers_of b 0 count ≡ xs → n < count → BufferAt b (8 + 16 * n) (buffer_of b (8 + 16 * n))
    → IfOk r (BufferAt b (8 + 16 * n)) → IfErr r (BufferRejected b (8 + 16 * n)) → IfErr r IsNotMemory → result_ok r ≡ slice_get xs n
looked_up b n count xs (Ok p) e h x found rejected memory =
    let same : 0 + n ≡ n = omega arith in
    let there : slice_get (buffers_of b 0 count) n ≡ Some (buffer_of b (8 + 16 * n)) = get_buffers b 0 count n h ∙ ap (λ (j : ℕ). Some (buffer_of b (8 + 16 * j))) same in
    ap Some (is_computed b (8 + 16 * n) p found) ∙ sym there ∙ ap (λ (l : List Buffer). slice_get l n) e
looked_up b n count xs (Err f) e h x found rejected memory = absurd (subst IsNotMemory (no_buffer b (8 + 16 * n) (buffer_of b (8 + 16 * n)) f x rejected) memory)

-- the first of what is left
pub first_left : {A : Type 0} (xs : List A) (n : ℕ) (x : A) → Some x ≡ slice_get xs n → drop n xs ≡ x ∷ drop (n + 1) xs
first_left xs n x e = drop_more xs n x (slice_get_within xs n x (sym e)) ∙ ap (λ z. z ∷ drop (n + 1) xs) (get_or_from_slice_get xs n x x (sym e))

pub none_left : {A : Type 0} (xs : List A) (n : ℕ) → None ≡ slice_get xs n → drop n xs ≡ []
none_left [] zero e = refl
none_left [] (suc n) e = refl
none_left (y ∷ xs) zero e = absurd cc
none_left (y ∷ xs) (suc n) e = none_left xs n e

-- the octets are the PAC of the buffers that are computed
pub computed_pac : (b : List ℕ) (count version : ℕ) → (4 ≤ length b) × (little_number 4 b ≡ count) → (8 ≤ length b) × (little_number 4 (drop 4 b) ≡ version) → version ≡ 0
    → ((k : ℕ) → k < count → BufferAt b (8 + 16 * k) (buffer_of b (8 + 16 * k))) → PacIs b (buffers_of b 0 count)
computed_pac b count version x y z f = record {
  room = y.0;
  count = x.1 ∙ sym (length_buffers b 0 count);
  version = y.1 ∙ z;
  buffers = buffers_there b count f;
}

-- the first error of an entry, after entries that are there, is the PAC's
pub rejected_after : (b : List ℕ) (count version n : ℕ) (e : PacError) → (4 ≤ length b) × (little_number 4 b ≡ count) → (8 ≤ length b) × (little_number 4 (drop 4 b) ≡ version) → version ≡ 0
    → n < count → ((k : ℕ) → k < n → BufferAt b (8 + 16 * k) (buffer_of b (8 + 16 * k))) → BufferRejected b (8 + 16 * n) e → PacRejected b e
rejected_after b count version n e x y z h f r =
    let long : length (buffers_of b 0 n) ≡ n = length_buffers b 0 n in
    let before : Before b (buffers_of b 0 n) = record { room = y.0; version = y.1 ∙ z; buffers = buffers_there b n f; more = omega (arith, x.1) } in
    rejected_there b (buffers_of b 0 n) e before (subst (λ (k : ℕ). BufferRejected b (8 + 16 * k) e) (sym long) r)

-- one more entry is there
pub one_more : (b : List ℕ) (n : ℕ) (p : Buffer) → ((k : ℕ) → k < n → BufferAt b (8 + 16 * k) (buffer_of b (8 + 16 * k))) → BufferAt b (8 + 16 * n) p
    → (k : ℕ) → k < n + 1 → BufferAt b (8 + 16 * k) (buffer_of b (8 + 16 * k))
one_more b n p f x = below_more (λ k. BufferAt b (8 + 16 * k) (buffer_of b (8 + 16 * k))) n f (computed_at b (8 + 16 * n) p x)

-- where the octets are a PAC, no error but an allocation failure is theirs
pub no_other : (b : List ℕ) (pac : List Buffer) (e : PacError) → PacIs b pac → PacRejected b e → IsNotMemory e → ⊥
no_other b pac e x r m = subst IsNotMemory (no_pac b pac e x r) m

-- two readings of the same octets
pub alike : (b : List ℕ) (r s : Result (List Buffer) PacError) → IfOk r (PacIs b) → IfErr r (PacRejected b) → IfOk s (PacIs b) → IfErr s (PacRejected b) → AreAlike r s
alike b (Ok p) (Ok q) x y z w = one_pac b p q x z
alike b (Ok p) (Err f) x y z w = no_pac b p f x w
alike b (Err e) (Ok q) x y z w = no_pac b q e z y
alike b (Err e) (Err f) x y z w = one_rejection b e f y w
