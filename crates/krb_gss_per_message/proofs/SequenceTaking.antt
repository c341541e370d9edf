-- A number that was missing is taken.
use Rattle.std.proofs.Common.{◌≡◌, ℕ, ◌+◌, ◌%◌, ◌<◌, ◌≤◌, Some, length, slice_set, refl, sym, ◌∙◌, ap, arith}
use Rattle.krb_gss_per_message.specs.Sequence.{AreHighest, IsLate, Takes, Window, has_in, next}
use Rattle.krb_gss_per_message.proofs.SequenceSlots.{marked_keeps, marked_only}

same_next : (old new : Window) → new.first ≡ old.first → new.last ≡ old.last → next new ≡ next old
same_next old new first last = rw first (rw last refl)

near : (a b c : ℕ) → a < c → c ≤ b + 64 → a < b + 64
near a b c below above = omega (arith, below, above)

highest : (old new : Window) (n : ℕ) → IsLate old n → next new ≡ next old → AreHighest old n new
highest old new n late same = (λ _. same, λ above. absurd (omega (arith, late.1, above)))

pub fills : (old new : Window) (n : ℕ) → length old.slots ≡ 64 → IsLate old n → new.first ≡ old.first → new.last ≡ old.last
    → new.slots ≡ slice_set old.slots (n % 64) (Some n) → Takes old n new
fills old new n size late first last slots =
    let same : next new ≡ next old = same_next old new first last in
    record {
      first = first;
      highest = highest old new n late same;
      only = λ m there. marked_only old.slots n m size (sym (ap (λ s. has_in s m) slots) ∙ there);
      keeps = λ m within there. ap (λ s. has_in s m) slots
          ∙ marked_keeps old.slots n m size (near m n (next old) (omega (arith, within.1, same)) late.2) (near n m (next old) late.1 (omega (arith, within.2, same))) there;
    }
