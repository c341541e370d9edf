-- Reading the buffers one after the other, and what an error rules out.
use Rattle.std.proofs.Common.{◌≡◌, ℕ, zero, suc, ◌+◌, ◌*◌, ◌<◌, ◌≤◌, ◌⊎◌, inl, inr, List, [], ◌∷◌, ◌++◌, length, refl, sym, ap, ◌∙◌, subst, ⊎_elim, arith, length-append, Result, Ok, Err, IfOk, IfErr}
use Rattle.std.proofs.lemmas.Bool.{cases_lt}
use Rattle.krb_pac.specs.Entry.{Entry}
use Rattle.krb_pac.specs.Layout.{EntryAt, Buffer, BufferAt, Buffers, PacIs}
use Rattle.krb_pac.specs.OnePac.{same_entry}
use Rattle.krb_pac.specs.Rejected.{BufferRejected, Before, PacRejected, NamesOutside, RejectsUnlessError}
use Rattle.krb_pac.proofs.EntriesRead.{EntriesRead}
use Rattle.krb_pac.specs.declared.error.PacError.{PacError}
use Rattle.krb_pac.specs.declared.error.PacError.TheVariants as errors

pub Buffers-push : (b : List ℕ) (i : ℕ) (ps : List Buffer) (p : Buffer) → Buffers b i ps → BufferAt b (8 + 16 * (i + length ps)) p → Buffers b i (ps ++ p ∷ [])
Buffers-push b i [] p x y = (subst (λ (k : ℕ). BufferAt b (8 + 16 * k) p) (omega arith) y, tt)
Buffers-push b i (q ∷ ps) p x y = (x.0, Buffers-push b (suc i) ps p x.1 (subst (λ (k : ℕ). BufferAt b (8 + 16 * k) p) (omega arith) y))

-- one of the buffers
pub nth : (b : List ℕ) (i k : ℕ) (ps : List Buffer) → Buffers b i ps → k < length ps → (p : Buffer) × BufferAt b (8 + 16 * (i + k)) p
nth b i k [] x h = absurd (omega arith)
nth b i zero (p ∷ ps) x h = (p, subst (λ (j : ℕ). BufferAt b (8 + 16 * j) p) (omega arith) x.0)
nth b i (suc k) (p ∷ ps) x h =
    let r = nth b (suc i) k ps x.1 (omega arith) in
    (r.0, subst (λ (j : ℕ). BufferAt b (8 + 16 * j) r.0) (omega arith) r.1)

-- where there is a buffer, the only error is an allocation failure
pub no_buffer : (b : List ℕ) (at : ℕ) (p : Buffer) (e : PacError) → BufferAt b at p → BufferRejected b at e → e ≡ errors.OutOfMemory
no_buffer b at p errors.OutOfMemory x r = refl
no_buffer b at p (errors.IoError err) x r = let room = x.entry.room in absurd (⊎_elim (λ h. omega arith) (λ h. omega arith) r.1)
no_buffer b at p (errors.PacBufferType n) x r = absurd (r.2 p.info.ul_type (sym x.entry.kind ∙ sym r.1))
no_buffer b at p errors.InvalidRange x r =
    let e = same_entry b at r.0 p.info r.1 x.entry in
    let inside : r.0.offset + r.0.cb_buffer_size ≤ length b = rw e x.inside in
    absurd (omega (arith, r.2))
no_buffer b at p (errors.Version n) x r = absurd r
no_buffer b at p (errors.InvalidVersion n) x r = absurd r

before_none : (b : List ℕ) (ps pac : List Buffer) (e : PacError) → PacIs b pac → Before b ps → BufferRejected b (8 + 16 * length ps) e → e ≡ errors.OutOfMemory
before_none b ps pac e x y r =
    let one = nth b 0 (length ps) pac x.buffers (omega (arith, x.count, y.more)) in
    no_buffer b (8 + 16 * length ps) one.0 e (subst (λ (j : ℕ). BufferAt b (8 + 16 * j) one.0) (omega arith) one.1) r

-- where there is a PAC, the only error is an allocation failure
pub no_pac : (b : List ℕ) (pac : List Buffer) (e : PacError) → PacIs b pac → PacRejected b e → e ≡ errors.OutOfMemory
no_pac b pac errors.OutOfMemory x r = refl
no_pac b pac (errors.InvalidVersion n) x r = absurd (omega (arith, r.1, r.2, x.version))
no_pac b pac (errors.IoError err) x r = ⊎_elim (λ h. absurd (omega (arith, h.1, x.room))) (λ h. before_none b h.0 pac (errors.IoError err) x h.1 h.2) r
no_pac b pac (errors.PacBufferType n) x r = before_none b r.0 pac (errors.PacBufferType n) x r.1 r.2
no_pac b pac errors.InvalidRange x r = before_none b r.0 pac errors.InvalidRange x r.1 r.2
no_pac b pac (errors.Version n) x r = absurd r

-- a buffer's first error is the PAC's
pub rejected_there : (b : List ℕ) (ps : List Buffer) (e : PacError) → Before b ps → BufferRejected b (8 + 16 * length ps) e → PacRejected b e
rejected_there b ps errors.OutOfMemory x r = tt
rejected_there b ps (errors.IoError err) x r = inr (ps, x, r)
rejected_there b ps (errors.PacBufferType n) x r = (ps, x, r)
rejected_there b ps errors.InvalidRange x r = (ps, x, r)
rejected_there b ps (errors.Version n) x r = absurd r
rejected_there b ps (errors.InvalidVersion n) x r = absurd r

-- one more buffer was read
pub more_read : (b : List ℕ) (at next i : ℕ) (ps : List Buffer) (p : Buffer) (qs : List Buffer) → qs ≡ ps ++ p ∷ [] → next ≡ at + 16 → EntriesRead b at i ps → BufferAt b at p → EntriesRead b next (i + 1) qs
more_read b at next i ps p qs e moved x found =
    let n : length qs ≡ length ps + 1 = ap length e ∙ length-append ps (p ∷ []) in
    let place = x.place in
    let count = x.count in
    let all : Buffers b 0 (ps ++ p ∷ []) = Buffers-push b 0 ps p x.buffers (subst (λ (k : ℕ). BufferAt b k p) (omega arith) found) in
    record { place = omega arith; count = omega arith; buffers = subst (Buffers b 0) (sym e) all }

-- a range outside is the error that is reported
outside_there : (b : List ℕ) (at : ℕ) (i : Entry) (e : PacError) → EntryAt b at i → length b < i.offset + i.cb_buffer_size → BufferRejected b at e → (e ≡ errors.InvalidRange) ⊎ (e ≡ errors.OutOfMemory)
outside_there b at i errors.OutOfMemory x o r = inr refl
outside_there b at i (errors.IoError err) x o r = let room = x.room in absurd (⊎_elim (λ h. omega arith) (λ h. omega arith) r.1)
outside_there b at i (errors.PacBufferType n) x o r = absurd (r.2 i.ul_type (sym x.kind ∙ sym r.1))
outside_there b at i errors.InvalidRange x o r = inl refl
outside_there b at i (errors.Version n) x o r = absurd r
outside_there b at i (errors.InvalidVersion n) x o r = absurd r

not_a_buffer : (b : List ℕ) (at : ℕ) (i : Entry) (p : Buffer) → EntryAt b at i → length b < i.offset + i.cb_buffer_size → BufferAt b at p → ⊥
not_a_buffer b at i p x o y =
    let e = same_entry b at p.info i y.entry x in
    let inside : i.offset + i.cb_buffer_size ≤ length b = rw (← e) y.inside in
    omega arith

-- the first error after some buffers, where the range after others is outside
outside_before : (b : List ℕ) (qs : List Buffer) (e : PacError) → (x : NamesOutside b) → Before b qs → BufferRejected b (8 + 16 * length qs) e → (e ≡ errors.InvalidRange) ⊎ (e ≡ errors.OutOfMemory)
outside_before b qs e x y r = ⊎_elim
    (λ less. let one = nth b 0 (length qs) x.earlier x.before.buffers less in
    inr (no_buffer b (8 + 16 * length qs) one.0 e (subst (λ (j : ℕ). BufferAt b (8 + 16 * j) one.0) (omega arith) one.1) r))
    (λ most. ⊎_elim
    (λ less. let one = nth b 0 (length x.earlier) qs y.buffers less in
    absurd (not_a_buffer b (8 + 16 * length x.earlier) x.info one.0 x.entry x.outside (subst (λ (j : ℕ). BufferAt b (8 + 16 * j) one.0) (omega arith) one.1)))
    (λ more. let n : length qs ≡ length x.earlier = omega arith in
    outside_there b (8 + 16 * length x.earlier) x.info e x.entry x.outside (subst (λ (j : ℕ). BufferRejected b (8 + 16 * j) e) n r))
    (cases_lt (length x.earlier) (length qs)))
    (cases_lt (length qs) (length x.earlier))

pub outside_rejected : (b : List ℕ) (e : PacError) → NamesOutside b → PacRejected b e → (e ≡ errors.InvalidRange) ⊎ (e ≡ errors.OutOfMemory)
outside_rejected b errors.OutOfMemory x r = inr refl
outside_rejected b (errors.InvalidVersion n) x r = let v = x.before.version in absurd (omega (arith, r.1, r.2))
outside_rejected b (errors.IoError err) x r = ⊎_elim (λ h. let room = x.before.room in absurd (omega (arith, h.1))) (λ h. outside_before b h.0 (errors.IoError err) x h.1 h.2) r
outside_rejected b (errors.PacBufferType n) x r = outside_before b r.0 (errors.PacBufferType n) x r.1 r.2
outside_rejected b errors.InvalidRange x r = inl refl
outside_rejected b (errors.Version n) x r = absurd r

pub outside_no_pac : (b : List ℕ) (pac : List Buffer) → NamesOutside b → PacIs b pac → ⊥
outside_no_pac b pac x y =
    let count = y.count in
    let more = x.before.more in
    let one = nth b 0 (length x.earlier) pac y.buffers (omega arith) in
    not_a_buffer b (8 + 16 * length x.earlier) x.info one.0 x.entry x.outside (subst (λ (j : ℕ). BufferAt b (8 + 16 * j) one.0) (omega arith) one.1)

-- the result where a range is outside
pub outside_answers : (b : List ℕ) (r : Result (List Buffer) PacError) → IfOk r (PacIs b) → IfErr r (PacRejected b) → NamesOutside b → RejectsUnlessError r errors.InvalidRange
outside_answers b (Ok pac) found rejected x = outside_no_pac b pac x found
outside_answers b (Err e) found rejected x = ⊎_elim (λ y. inl y) (λ y. inr (rw y tt)) (outside_rejected b e x rejected)
