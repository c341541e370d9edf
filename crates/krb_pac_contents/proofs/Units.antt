-- One step over units, and their end.
use Rattle.std.proofs.Common.{◌≡◌, ℕ, ◌+◌, ◌*◌, ◌<◌, ◌≤◌, List, [], ◌∷◌, ◌++◌, length, drop, slice_index, refl, arith}
use Rattle.std.proofs.lemmas.List.{append_assoc, append-nil}
use Rattle.krb_pac_contents.specs.Names.{units_of}

-- two octets are a unit, and units follow
units_more : (b : List ℕ) → 2 ≤ length b → units_of b ≡ (slice_index b 0 + 256 * slice_index b 1) ∷ units_of (drop 2 b)
unfolding units_of
units_more [] h = absurd (omega (arith, h))
units_more (low ∷ []) h = absurd (omega (arith, h))
units_more (low ∷ high ∷ rest) h = refl

-- fewer than two octets are no unit
units_none : (b : List ℕ) → length b < 2 → units_of b ≡ []
unfolding units_of
units_none [] h = refl
units_none (low ∷ []) h = refl
units_none (low ∷ high ∷ rest) h = absurd (omega (arith, h))

pub units_step : (us b : List ℕ) → 2 ≤ length b → (us ++ (slice_index b 0 + 256 * slice_index b 1) ∷ []) ++ units_of (drop 2 b) ≡ us ++ units_of b
units_step us b h = rw (units_more b h) (append_assoc us ((slice_index b 0 + 256 * slice_index b 1) ∷ []) (units_of (drop 2 b)))

pub units_end : (us b : List ℕ) → length b < 2 → us ++ units_of b ≡ us
units_end us b h = rw (units_none b h) (append-nil us)
