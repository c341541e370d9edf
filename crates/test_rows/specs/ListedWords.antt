-- What the generator of the tests gives.
use Rattle.std.specs.Prelude.{ℕ, ◌+◌, ◌%◌, ◌^◌, List, slice_index}

-- the word at this place of the list, which begins again after its end, and the next place
abbrev pub listed : List ℕ → ℕ → ℕ × ℕ
listed words place = (slice_index words (place % 8), (place + 1) % 2 ^ 32)
