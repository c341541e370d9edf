-- Times in seconds, compared with a skew (RFC 4120, 3.2.3).
use Rattle.std.specs.Prelude.{ℕ, ℤ, pos, ◌+ℤ◌, ◌≤ℤ◌, Option, None, Some}

-- the time differs from the clock by no more than the skew
abbrev pub IsWithin : ℤ → ℕ → ℤ → Type 0
IsWithin clock skew time = (time ≤ℤ (clock +ℤ pos skew)) × (clock ≤ℤ (time +ℤ pos skew))

-- An authenticator of this time was not accepted before the cache was whole: at a clock before, its time would have been out of the skew.
abbrev pub IsOfWhole : Option ℤ → ℕ → ℤ → Type 0
IsOfWhole None skew time = Unit {0}
IsOfWhole (Some since) skew time = (since +ℤ pos skew) ≤ℤ time
