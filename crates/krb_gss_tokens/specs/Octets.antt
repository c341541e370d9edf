-- Vectors of octets that may be absent.
use Rattle.std.specs.Prelude.{ℕ, List, Option, None, Some, Vec}
use Rattle.std.specs.declared.alloc.Global.{Global}

-- the octets of the vector, where there is one
abbrev pub octets_of : Option (Vec ℕ Global) → Option (List ℕ)
octets_of None = None
octets_of (Some v) = Some v.items
