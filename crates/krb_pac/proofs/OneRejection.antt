-- Octets have one first error.
use Rattle.std.proofs.Common.{◌≡◌, ℕ, ◌+◌, ◌*◌, ◌<◌, ◌≤◌, ◌⊎◌, inl, inr, List, length, drop, refl, sym, ap, ◌∙◌, subst, ⊎_elim, arith}
use Rattle.std.proofs.lemmas.Bool.{cases_lt}
use Rattle.byteorder.specs.Endian.{little_number}
use Rattle.krb_pac.specs.Kind.{IsUnlisted}
use Rattle.krb_pac.specs.Layout.{EntryAt, Buffer, BufferAt}
use Rattle.krb_pac.specs.Rejected.{IsCut, IsEof, BufferRejected, Before, PacRejected, AreOne, AreOneOrMemory}
use Rattle.krb_pac.proofs.Entries.{nth, no_buffer}
use Rattle.krb_pac.specs.declared.error.PacError.{PacError}
use Rattle.krb_pac.specs.Entry.{Entry}
use Rattle.krb_pac.specs.declared.error.PacError.TheVariants as errors

-- the four octets at `at` are the number of no type
abbrev pub NoType : List ℕ → ℕ → ℕ → Type 0
NoType b at n = (at + 4 ≤ length b) × (n ≡ little_number 4 (drop at b)) × IsUnlisted n

cut_type : (b : List ℕ) (at n : ℕ) → IsCut b at → NoType b at n → ⊥
cut_type b at n x y = ⊎_elim (λ h. omega (arith, y.0)) (λ h. y.2 h.0.1.0 (h.0.1.1 ∙ sym y.1)) x

cut_entry : (b : List ℕ) (at : ℕ) (i : Entry) → IsCut b at → EntryAt b at i → ⊥
cut_entry b at i x y = let room = y.room in ⊎_elim (λ h. omega arith) (λ h. omega arith) x

type_entry : (b : List ℕ) (at n : ℕ) (i : Entry) → NoType b at n → EntryAt b at i → ⊥
type_entry b at n i x y = x.2 i.ul_type (sym y.kind ∙ sym x.1)

one_there : (b : List ℕ) (at : ℕ) (e f : PacError) → BufferRejected b at e → BufferRejected b at f → AreOneOrMemory e f
one_there b at errors.OutOfMemory f r s = inr (inl refl)
one_there b at (errors.Version n) f r s = absurd r
one_there b at (errors.InvalidVersion n) f r s = absurd r
one_there b at (errors.IoError x) errors.OutOfMemory r s = inr (inr refl)
one_there b at (errors.IoError x) (errors.IoError y) r s = inl (r.0 ∙ sym s.0)
one_there b at (errors.IoError x) (errors.PacBufferType m) r s = absurd (cut_type b at m r.1 s)
one_there b at (errors.IoError x) errors.InvalidRange r s = absurd (cut_entry b at s.0 r.1 s.1)
one_there b at (errors.IoError x) (errors.Version m) r s = absurd s
one_there b at (errors.IoError x) (errors.InvalidVersion m) r s = absurd s
one_there b at (errors.PacBufferType n) errors.OutOfMemory r s = inr (inr refl)
one_there b at (errors.PacBufferType n) (errors.IoError y) r s = absurd (cut_type b at n s.1 r)
one_there b at (errors.PacBufferType n) (errors.PacBufferType m) r s = inl (ap errors.PacBufferType (r.1 ∙ sym s.1))
one_there b at (errors.PacBufferType n) errors.InvalidRange r s = absurd (type_entry b at n s.0 r s.1)
one_there b at (errors.PacBufferType n) (errors.Version m) r s = absurd s
one_there b at (errors.PacBufferType n) (errors.InvalidVersion m) r s = absurd s
one_there b at errors.InvalidRange errors.OutOfMemory r s = inr (inr refl)
one_there b at errors.InvalidRange (errors.IoError y) r s = absurd (cut_entry b at r.0 s.1 r.1)
one_there b at errors.InvalidRange (errors.PacBufferType m) r s = absurd (type_entry b at m r.0 s r.1)
one_there b at errors.InvalidRange errors.InvalidRange r s = inl refl
one_there b at errors.InvalidRange (errors.Version m) r s = absurd s
one_there b at errors.InvalidRange (errors.InvalidVersion m) r s = absurd s

one_before : (b : List ℕ) (ps qs : List Buffer) (e f : PacError) → Before b ps → Before b qs → BufferRejected b (8 + 16 * length ps) e → BufferRejected b (8 + 16 * length qs) f → AreOneOrMemory e f
one_before b ps qs e f x y r s = ⊎_elim
    (λ less. let one = nth b 0 (length ps) qs y.buffers less in
    inr (inl (no_buffer b (8 + 16 * length ps) one.0 e (subst (λ (j : ℕ). BufferAt b (8 + 16 * j) one.0) (omega arith) one.1) r)))
    (λ most. ⊎_elim
    (λ less. let one = nth b 0 (length qs) ps x.buffers less in
    inr (inr (no_buffer b (8 + 16 * length qs) one.0 f (subst (λ (j : ℕ). BufferAt b (8 + 16 * j) one.0) (omega arith) one.1) s)))
    (λ more. let n : length ps ≡ length qs = omega arith in
    one_there b (8 + 16 * length qs) e f (subst (λ (j : ℕ). BufferRejected b (8 + 16 * j) e) n r) s)
    (cases_lt (length qs) (length ps)))
    (cases_lt (length ps) (length qs))

-- rejected before the first entry
abbrev pub IsEarly : List ℕ → PacError → Type 0
IsEarly b (errors.IoError x) = IsEof (errors.IoError x) × (length b < 8)
IsEarly b (errors.InvalidVersion n) = (8 ≤ length b) × (0 < n) × (n ≡ little_number 4 (drop 4 b))
IsEarly b e = ⊥

-- rejected at an entry, or at the slice that it names
abbrev pub IsLate : List ℕ → PacError → Type 0
IsLate b e = (ps : List Buffer) × Before b ps × BufferRejected b (8 + 16 * length ps) e

staged : (b : List ℕ) (e : PacError) → PacRejected b e → (e ≡ errors.OutOfMemory) ⊎ (IsEarly b e ⊎ IsLate b e)
staged b errors.OutOfMemory r = inl refl
staged b (errors.IoError x) r = inr r
staged b (errors.InvalidVersion n) r = inr (inl r)
staged b (errors.PacBufferType n) r = inr (inr r)
staged b errors.InvalidRange r = inr (inr r)
staged b (errors.Version n) r = absurd r

early_late : (b : List ℕ) (ps : List Buffer) (e : PacError) → IsEarly b e → Before b ps → ⊥
early_late b ps (errors.IoError x) r y = let room = y.room in omega (arith, r.1)
early_late b ps (errors.InvalidVersion n) r y = let version = y.version in omega (arith, r.1, r.2)
early_late b ps errors.OutOfMemory r y = r
early_late b ps (errors.PacBufferType n) r y = r
early_late b ps errors.InvalidRange r y = r
early_late b ps (errors.Version n) r y = r

early_early : (b : List ℕ) (e f : PacError) → IsEarly b e → IsEarly b f → AreOne e f
early_early b (errors.IoError x) (errors.IoError y) r s = r.0 ∙ sym s.0
early_early b (errors.IoError x) (errors.InvalidVersion m) r s = absurd (omega (arith, r.1, s.0))
early_early b (errors.IoError x) errors.OutOfMemory r s = absurd s
early_early b (errors.IoError x) (errors.PacBufferType m) r s = absurd s
early_early b (errors.IoError x) errors.InvalidRange r s = absurd s
early_early b (errors.IoError x) (errors.Version m) r s = absurd s
early_early b (errors.InvalidVersion n) (errors.InvalidVersion m) r s = ap errors.InvalidVersion (r.2 ∙ sym s.2)
early_early b (errors.InvalidVersion n) (errors.IoError y) r s = absurd (omega (arith, s.1, r.0))
early_early b (errors.InvalidVersion n) errors.OutOfMemory r s = absurd s
early_early b (errors.InvalidVersion n) (errors.PacBufferType m) r s = absurd s
early_early b (errors.InvalidVersion n) errors.InvalidRange r s = absurd s
early_early b (errors.InvalidVersion n) (errors.Version m) r s = absurd s
early_early b errors.OutOfMemory f r s = absurd r
early_early b (errors.PacBufferType n) f r s = absurd r
early_early b errors.InvalidRange f r s = absurd r
early_early b (errors.Version n) f r s = absurd r

pub one_rejection : (b : List ℕ) (e f : PacError) → PacRejected b e → PacRejected b f → AreOneOrMemory e f
one_rejection b e f r s = ⊎_elim
    (λ none. inr (inl none))
    (λ x. ⊎_elim
    (λ none. inr (inr none))
    (λ y. ⊎_elim
    (λ early. ⊎_elim (λ soon. inl (early_early b e f early soon)) (λ late. absurd (early_late b late.0 e early late.1)) y)
    (λ late. ⊎_elim (λ soon. absurd (early_late b late.0 f soon late.1)) (λ then. one_before b late.0 then.0 e f late.1 then.1 late.2 then.2) y)
    x)
    (staged b f s))
    (staged b e r)
