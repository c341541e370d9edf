-- Entries in the order of their times.
use Rattle.std.specs.Prelude.{ℤ, ◌≤ℤ◌, ◌<ℤ◌, List, [], ◌∷◌}
use Rattle.std.specs.List.{AllByRecursion}
use Rattle.krb_accept_rules.specs.declared.cache.Entry.{Entry}

-- of this time or later
abbrev pub IsFrom : ℤ → Entry → Type 0
IsFrom seconds e = seconds ≤ℤ e.seconds

-- before this time
abbrev pub IsEarlier : ℤ → Entry → Type 0
IsEarlier seconds e = e.seconds <ℤ seconds

-- none is of an earlier time than one before it
abbrev pub IsInOrder : List Entry → Type 0
IsInOrder [] = Unit {0}
IsInOrder (e ∷ es) = AllByRecursion (IsFrom e.seconds) es × IsInOrder es
