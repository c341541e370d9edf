-- In which order tokens come, by their sequence numbers (RFC 2743, 1.2.3; RFC 4121, 4.2.1).
use Rattle.std.specs.Prelude.{◌≡◌, ◌⊎◌, ℕ, ◌+◌, ◌%◌, ◌<◌, ◌≤◌, nat_eq, Bool, true, false, Option, None, Some, List, [], ◌∷◌, slice_index_or}
use Rattle.krb_gss_per_message.specs.declared.sequence.Order.{Order}
use Rattle.krb_gss_per_message.specs.declared.sequence.Order.TheVariants as order

-- The number of the other side's first token; the highest that was taken, if one was; and of each rest by 64 the number that was taken last.
pub record Window : Type 0 where
  pub first : ℕ
  pub last : Option ℕ
  pub slots : List (Option ℕ)

abbrev pub is_number : Option ℕ → ℕ → Bool
is_number None number = false
is_number (Some found) number = nat_eq found number

abbrev pub has_in : List (Option ℕ) → ℕ → Bool
has_in slots number = is_number (slice_index_or slots (number % 64) None) number

-- the number is known to be taken
abbrev pub has : Window → ℕ → Bool
has w number = has_in w.slots number

-- the number that comes in order
abbrev pub next_behind : ℕ → Option ℕ → ℕ
next_behind first None = first
next_behind first (Some last) = last + 1

abbrev pub next : Window → ℕ
next w = next_behind w.first w.last

-- a number before this one that may still be told from one that was taken: one of the 64 up to the highest, and none before the first
abbrev pub IsLate : Window → ℕ → Type 0
IsLate w number = (w.first ≤ number) × (number < next w) × (next w ≤ number + 64)

-- it is too old to be told from one that was taken
abbrev pub IsOld : Window → ℕ → Type 0
IsOld w number = (number < w.first) ⊎ (number + 64 < next w)

-- what a number is to a window (RFC 2743, 1.2.3: GSS_S_GAP_TOKEN, GSS_S_UNSEQ_TOKEN, GSS_S_DUPLICATE_TOKEN, GSS_S_OLD_TOKEN)
abbrev pub IsOrder : Window → ℕ → Order → Type 0
IsOrder w number order.InOrder = number ≡ next w
IsOrder w number order.Gap = next w < number
IsOrder w number order.OutOfOrder = IsLate w number × (has w number ≡ false)
IsOrder w number order.Replayed = IsLate w number × (has w number ≡ true)
IsOrder w number order.Old = IsOld w number

-- the highest that was taken, with this one
abbrev pub AreHighest : Window → ℕ → Window → Type 0
AreHighest old number new = (number < next old → next new ≡ next old) × (next old ≤ number → next new ≡ number + 1)

-- The number is taken: what is known to be taken was before, or is this one; and of the 64 up to the highest nothing is forgotten.
pub record Takes (old : Window) (number : ℕ) (new : Window) : Type 0 where
  pub first : new.first ≡ old.first
  pub highest : AreHighest old number new
  pub only : (n : ℕ) → has new n ≡ true → (has old n ≡ true) ⊎ (n ≡ number)
  pub keeps : (n : ℕ) → IsLate new n → (has old n ≡ true) ⊎ (n ≡ number) → has new n ≡ true

-- what becomes of a window: a token that was taken before, or is too old, changes nothing
abbrev pub Becomes : Order → Window → ℕ → Window → Type 0
Becomes order.InOrder old number new = Takes old number new
Becomes order.Gap old number new = Takes old number new
Becomes order.OutOfOrder old number new = Takes old number new
Becomes order.Replayed old number new = new ≡ old
Becomes order.Old old number new = new ≡ old

-- ---- many tokens

-- a number that came, and what it was
pub record Arrival : Type 0 where
  pub number : ℕ
  pub was : Order

-- one after another, these came to a window, which is another then
abbrev pub AreTaken : Window → List Arrival → Window → Type 0
AreTaken old [] new = new ≡ old
AreTaken old (a ∷ rest) new = (between : Window) × IsOrder old a.number a.was × Becomes a.was old a.number between × AreTaken between rest new

-- the number was taken, whatever its order
abbrev pub IsTaken : Order → Type 0
IsTaken order.InOrder = Unit {0}
IsTaken order.Gap = Unit {0}
IsTaken order.OutOfOrder = Unit {0}
IsTaken order.Replayed = ⊥
IsTaken order.Old = ⊥

-- among these, the number was taken
abbrev pub WasTaken : ℕ → List Arrival → Type 0
WasTaken number [] = ⊥
WasTaken number (a ∷ rest) = ((a.number ≡ number) × IsTaken a.was) ⊎ WasTaken number rest

-- the number is not taken among these
abbrev pub NeverTaken : ℕ → List Arrival → Type 0
NeverTaken number [] = Unit {0}
NeverTaken number (a ∷ rest) = (a.number ≡ number → IsTaken a.was → ⊥) × NeverTaken number rest
