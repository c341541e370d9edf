-- Channel bindings (RFC 4121, 4.1.1.2).
use Rattle.std.specs.Prelude.{◌≡◌, ℕ, List, Option, None, Some}

-- the client's bindings are the service's, where the service has some
abbrev pub FitsBindings : Option (List ℕ) → List ℕ → Type 0
FitsBindings None bindings = Unit {0}
FitsBindings (Some own) bindings = bindings ≡ own
