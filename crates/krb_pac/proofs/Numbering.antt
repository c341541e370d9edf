-- PACs with buffers of all types.
use borrow.Author.Count.{below_more}
use Rattle.std.proofs.Common.{◌≡◌, ℕ, zero, suc, ◌+◌, ◌*◌, ◌<◌, ◌≤◌, List, [], ◌∷◌, length, map, take, drop, Some, Result, Ok, Err, IfOk, IfErr, slice_get, refl, sym, ap, ◌∙◌, subst, ⊎_elim, inr, arith}
use Rattle.std.specs.List.{range_with_len}
use Rattle.std.specs.Result.{result_ok}
use Rattle.std.proofs.lemmas.List.{length-map}
use Rattle.std.proofs.lemmas.List.FromFn.{length-map-range_with_len, get_or-map-range_with_len}
use Rattle.std.proofs.lemmas.Option.{slice_get-get_or}
use Rattle.byteorder.specs.Endian.{little_number}
use Rattle.krb_pac.specs.Entry.{Entry}
use Rattle.krb_pac.specs.Kind.{code}
use Rattle.krb_pac.specs.Layout.{Buffer, Buffers, EntryAt, PacIs}
use Rattle.krb_pac.specs.Numbered.{AreNumbered, IsOfNumber, NumberedAt, NumberedBefore, NumberedBuffer, NumberedBufferAt, NumberedBufferRejected, NumberedPacIs, NumberedPacRejected, all_numbered, numbered, with_number}
use Rattle.krb_pac.specs.Rejected.{IsNotMemory, PacRejected}
use Rattle.krb_pac.specs.declared.error.PacError.{PacError}
use Rattle.krb_pac.specs.declared.error.PacError.TheVariants as errors
use Rattle.krb_pac.specs.declared.numbered.NumberedInfoBuffer.{NumberedInfoBuffer}

-- ---- one entry, one buffer, one PAC

same_entry : (b : List ℕ) (at : ℕ) (i j : NumberedInfoBuffer) → NumberedAt b at i → NumberedAt b at j → i ≡ j
same_entry b at i j p q =
    let mk : ℕ → ℕ → ℕ → NumberedInfoBuffer = λ k s o. record { ul_type = k; cb_buffer_size = s; offset = o } in
    let k : i.ul_type ≡ j.ul_type = sym p.kind ∙ q.kind in
    let s : i.cb_buffer_size ≡ j.cb_buffer_size = sym p.size ∙ q.size in
    let o : i.offset ≡ j.offset = sym p.offset ∙ q.offset in
    ap (λ (x : ℕ). mk x i.cb_buffer_size i.offset) k ∙ ap (λ (x : ℕ). mk j.ul_type x i.offset) s ∙ ap (λ (x : ℕ). mk j.ul_type j.cb_buffer_size x) o

same_buffer : (b : List ℕ) (at : ℕ) (p q : NumberedBuffer) → NumberedBufferAt b at p → NumberedBufferAt b at q → p ≡ q
same_buffer b at p q x y =
    let mk : NumberedInfoBuffer → List ℕ → NumberedBuffer = λ i o. record { info = i; octets = o } in
    let e : p.info ≡ q.info = same_entry b at p.info q.info x.entry y.entry in
    let o : p.octets ≡ q.octets = x.named ∙ ap (λ (i : NumberedInfoBuffer). take i.cb_buffer_size (drop i.offset b)) e ∙ sym y.named in
    ap (λ (i : NumberedInfoBuffer). mk i p.octets) e ∙ ap (λ (l : List ℕ). mk q.info l) o

same_buffers : (b : List ℕ) (i : ℕ) (ps qs : List NumberedBuffer) → length ps ≡ length qs → AreNumbered b i ps → AreNumbered b i qs → ps ≡ qs
same_buffers b i [] [] e x y = refl
same_buffers b i [] (q ∷ qs) e x y = absurd (omega arith)
same_buffers b i (p ∷ ps) [] e x y = absurd (omega arith)
same_buffers b i (p ∷ ps) (q ∷ qs) e x y =
    ap (λ (z : NumberedBuffer). z ∷ ps) (same_buffer b (8 + 16 * i) p q x.0 y.0) ∙ ap (λ (zs : List NumberedBuffer). q ∷ zs) (same_buffers b (suc i) ps qs (omega arith) x.1 y.1)

pub one_pac : (b : List ℕ) (p q : List NumberedBuffer) → NumberedPacIs b p → NumberedPacIs b q → p ≡ q
one_pac b p q x y = same_buffers b 0 p q (sym x.count ∙ y.count) x.buffers y.buffers

-- ---- those that are computed

pub length_numbered : (b : List ℕ) (n : ℕ) → length (all_numbered b n) ≡ n
length_numbered b n = length-map-range_with_len (numbered b) 0 n

get_numbered : (b : List ℕ) (n k : ℕ) → k < n → slice_get (all_numbered b n) k ≡ Some (numbered b k)
get_numbered b n k h =
    let same : 0 + k ≡ k = omega arith in
    slice_get-get_or (all_numbered b n) k (numbered b 0) (omega (arith, length_numbered b n))
    ∙ ap (λ (p : NumberedBuffer). Some p) (get_or-map-range_with_len (numbered b) 0 n k k (numbered b 0) h same)

-- each of so many entries is there
abbrev pub AreThere : List ℕ → ℕ → Type 0
AreThere b n = (k : ℕ) → k < n → NumberedBufferAt b (8 + 16 * k) (numbered b k)

-- the buffer at a place is the one that is computed
is_computed : (b : List ℕ) (k : ℕ) (p : NumberedBuffer) → NumberedBufferAt b (8 + 16 * k) p → p ≡ numbered b k
unfolding numbered
is_computed b k p x =
    let mk : NumberedInfoBuffer → List ℕ → NumberedBuffer = λ i o. record { info = i; octets = o } in
    let at = 8 + 16 * k in
    let there : NumberedAt b at (record { ul_type = little_number 4 (drop at b); cb_buffer_size = little_number 4 (drop (at + 4) b); offset = little_number 8 (drop (at + 8) b) }) =
    record { room = x.entry.room; kind = refl; size = refl; offset = refl } in
    let e = same_entry b at p.info _ x.entry there in
    ap (λ (o : List ℕ). mk p.info o) x.named ∙ ap (λ (i : NumberedInfoBuffer). mk i (take i.cb_buffer_size (drop i.offset b))) e

-- one more entry is there
pub one_more : (b : List ℕ) (n : ℕ) (p : NumberedBuffer) → AreThere b n → NumberedBufferAt b (8 + 16 * n) p → AreThere b (n + 1)
one_more b n p f x = below_more (λ k. NumberedBufferAt b (8 + 16 * k) (numbered b k)) n f (subst (NumberedBufferAt b (8 + 16 * n)) (is_computed b n p x) x)

computed_from : (b : List ℕ) (i n : ℕ) → AreThere b (i + n) → AreNumbered b i (map (numbered b) (range_with_len i n))
computed_from b i zero f = tt
computed_from b i (suc n) f =
    let next : suc i ≡ i + 1 = omega arith in
    (f i (omega arith), subst (λ (j : ℕ). AreNumbered b (suc i) (map (numbered b) (range_with_len j n))) next (computed_from b (suc i) n (λ k h. f k (omega (arith, h)))))

all_there : (b : List ℕ) (n : ℕ) → AreThere b n → AreNumbered b 0 (all_numbered b n)
all_there b n f = computed_from b 0 n (λ k h. f k (omega (arith, h)))

-- the octets are the PAC of the buffers that are computed
pub computed_pac : (b : List ℕ) (count version : ℕ) → (4 ≤ length b) × (little_number 4 b ≡ count) → (8 ≤ length b) × (little_number 4 (drop 4 b) ≡ version) → version ≡ 0
    → AreThere b count → NumberedPacIs b (all_numbered b count)
computed_pac b count version x y z f = record { room = y.0; count = x.1 ∙ sym (length_numbered b count); version = y.1 ∙ z; buffers = all_there b count f }

-- ---- first errors

pub no_buffer : (b : List ℕ) (at : ℕ) (p : NumberedBuffer) (e : PacError) → NumberedBufferAt b at p → NumberedBufferRejected b at e → ⊥
no_buffer b at p errors.OutOfMemory x r = r
no_buffer b at p (errors.PacBufferType n) x r = r
no_buffer b at p (errors.Version n) x r = r
no_buffer b at p (errors.InvalidVersion n) x r = r
no_buffer b at p (errors.IoError err) x r = let room = x.entry.room in omega (arith, r.1)
no_buffer b at p errors.InvalidRange x r =
    let e = same_entry b at r.0 p.info r.1 x.entry in
    let inside : r.0.offset + r.0.cb_buffer_size ≤ length b = rw e x.inside in
    omega (arith, r.2)

-- one of the buffers
nth : (b : List ℕ) (i k : ℕ) (ps : List NumberedBuffer) → AreNumbered b i ps → k < length ps → (p : NumberedBuffer) × NumberedBufferAt b (8 + 16 * (i + k)) p
nth b i k [] x h = absurd (omega arith)
nth b i zero (p ∷ ps) x h = (p, subst (λ (j : ℕ). NumberedBufferAt b (8 + 16 * j) p) (omega arith) x.0)
nth b i (suc k) (p ∷ ps) x h =
    let r = nth b (suc i) k ps x.1 (omega arith) in
    (r.0, subst (λ (j : ℕ). NumberedBufferAt b (8 + 16 * j) r.0) (omega arith) r.1)

at_place : (b : List ℕ) (pac : List NumberedBuffer) (n : ℕ) → NumberedPacIs b pac → n < little_number 4 b → (p : NumberedBuffer) × NumberedBufferAt b (8 + 16 * n) p
at_place b pac n x h =
    let one = nth b 0 n pac x.buffers (omega (arith, x.count, h)) in
    (one.0, subst (λ (j : ℕ). NumberedBufferAt b (8 + 16 * j) one.0) (omega arith) one.1)

none_after : (b : List ℕ) (pac ps : List NumberedBuffer) (e : PacError) → NumberedPacIs b pac → NumberedBefore b ps → NumberedBufferRejected b (8 + 16 * length ps) e → ⊥
none_after b pac ps e x y r =
    let one = at_place b pac (length ps) x y.more in
    no_buffer b (8 + 16 * length ps) one.0 e one.1 r

-- octets that are a PAC have no error but an allocation failure
pub no_pac : (b : List ℕ) (pac : List NumberedBuffer) (e : PacError) → NumberedPacIs b pac → NumberedPacRejected b e → IsNotMemory e → ⊥
no_pac b pac errors.OutOfMemory x r m = m
no_pac b pac (errors.PacBufferType n) x r m = r
no_pac b pac (errors.Version n) x r m = r
no_pac b pac (errors.InvalidVersion n) x r m = omega (arith, r.1, r.2, x.version)
no_pac b pac (errors.IoError err) x r m = ⊎_elim (λ h. omega (arith, h.1, x.room)) (λ h. none_after b pac h.0 (errors.IoError err) x h.1 h.2) r
no_pac b pac errors.InvalidRange x r m = none_after b pac r.0 errors.InvalidRange x r.1 r.2

rejected_there : (b : List ℕ) (ps : List NumberedBuffer) (e : PacError) → NumberedBefore b ps → NumberedBufferRejected b (8 + 16 * length ps) e → NumberedPacRejected b e
rejected_there b ps errors.OutOfMemory x r = tt
rejected_there b ps (errors.PacBufferType n) x r = r
rejected_there b ps (errors.Version n) x r = r
rejected_there b ps (errors.InvalidVersion n) x r = absurd r
rejected_there b ps (errors.IoError err) x r = inr (ps, x, r)
rejected_there b ps errors.InvalidRange x r = (ps, x, r)

-- the first error of an entry, after entries that are there, is the PAC's
pub rejected_after : (b : List ℕ) (count version n : ℕ) (e : PacError) → (4 ≤ length b) × (little_number 4 b ≡ count) → (8 ≤ length b) × (little_number 4 (drop 4 b) ≡ version) → version ≡ 0
    → n < count → AreThere b n → NumberedBufferRejected b (8 + 16 * n) e → NumberedPacRejected b e
rejected_after b count version n e x y z h f r =
    let long : length (all_numbered b n) ≡ n = length_numbered b n in
    let before : NumberedBefore b (all_numbered b n) = record { room = y.0; version = y.1 ∙ z; buffers = all_there b n f; more = omega (arith, x.1) } in
    rejected_there b (all_numbered b n) e before (subst (λ (k : ℕ). NumberedBufferRejected b (8 + 16 * k) e) (sym long) r)

-- the result of looking at an entry that is there
pub looked_up : (b : List ℕ) (n count : ℕ) (xs : List NumberedBuffer) (r : Result NumberedBuffer PacError) → all_numbered b count ≡ xs → n < count → NumberedBufferAt b (8 + 16 * n) (numbered b n)
    → IfOk r (NumberedBufferAt b (8 + 16 * n)) → IfErr r (NumberedBufferRejected b (8 + 16 * n)) → result_ok r ≡ slice_get xs n
looked_up b n count xs (Ok p) e h x found rejected =
    ap (λ (q : NumberedBuffer). Some q) (is_computed b n p found) ∙ sym (get_numbered b count n h) ∙ ap (λ (l : List NumberedBuffer). slice_get l n) e
looked_up b n count xs (Err f) e h x found rejected = absurd (no_buffer b (8 + 16 * n) (numbered b n) f x rejected)

-- ---- beside PACs whose types are all listed

entry_numbered : (b : List ℕ) (at : ℕ) (i : Entry) → EntryAt b at i → NumberedAt b at (record { ul_type = code i.ul_type; cb_buffer_size = i.cb_buffer_size; offset = i.offset })
entry_numbered b at i x = record { room = x.room; kind = x.kind; size = x.size; offset = x.offset }

buffers_numbered : (b : List ℕ) (i : ℕ) (ps : List Buffer) → Buffers b i ps → AreNumbered b i (map with_number ps)
buffers_numbered b i [] x = tt
buffers_numbered b i (p ∷ ps) x =
    (record { entry = entry_numbered b (8 + 16 * i) p.info x.0.entry; inside = x.0.inside; named = x.0.named }, buffers_numbered b (suc i) ps x.1)

pub pac_numbered : (b : List ℕ) (pac : List Buffer) → PacIs b pac → NumberedPacIs b (map with_number pac)
pac_numbered b pac x = record { room = x.room; count = x.count ∙ sym (length-map pac with_number); version = x.version; buffers = buffers_numbered b 0 pac x.buffers }

not_cut : (b : List ℕ) (pac : List NumberedBuffer) (n : ℕ) → NumberedPacIs b pac → n < little_number 4 b → 8 + 16 * n + 16 ≤ length b
not_cut b pac n x h = (at_place b pac n x h).1.entry.room

not_outside : (b : List ℕ) (pac : List NumberedBuffer) (n : ℕ) (i : Entry) → NumberedPacIs b pac → n < little_number 4 b → EntryAt b (8 + 16 * n) i
    → length b < i.offset + i.cb_buffer_size → ⊥
not_outside b pac n i x h y outside =
    let one = at_place b pac n x h in
    let e = same_entry b (8 + 16 * n) one.0.info (record { ul_type = code i.ul_type; cb_buffer_size = i.cb_buffer_size; offset = i.offset }) one.1.entry (entry_numbered b (8 + 16 * n) i y) in
    omega (arith, one.1.inside, ap (λ (j : NumberedInfoBuffer). j.offset) e, ap (λ (j : NumberedInfoBuffer). j.cb_buffer_size) e, outside)

-- what is refused beside is so for a number
pub only_numbers : (b : List ℕ) (pac : List NumberedBuffer) (e : PacError) → NumberedPacIs b pac → PacRejected b e → IsOfNumber e
only_numbers b pac errors.OutOfMemory x r = tt
only_numbers b pac (errors.PacBufferType n) x r = tt
only_numbers b pac (errors.Version n) x r = r
only_numbers b pac (errors.InvalidVersion n) x r = omega (arith, r.1, r.2, x.version)
only_numbers b pac (errors.IoError err) x r = ⊎_elim (λ h. omega (arith, h.1, x.room))
    (λ h. let room = not_cut b pac (length h.0) x h.1.more in ⊎_elim (λ cut. omega (arith, cut, room)) (λ cut. omega (arith, cut.1, room)) h.2.1) r
only_numbers b pac errors.InvalidRange x r = not_outside b pac (length r.0) r.2.0 x r.1.more r.2.1 r.2.2
