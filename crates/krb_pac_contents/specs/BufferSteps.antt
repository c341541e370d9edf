-- Steps that look at octets, each of which may refuse.
use Rattle.std.specs.Prelude.{Bool, if◌then◌else◌, List, [], ◌∷◌, Result, Ok, Err}
use Rattle.krb_pac_contents.specs.declared.buffers.error.BufferError.{BufferError}

-- the first of the tests that holds refuses; where none does, there is this value
abbrev pub first_fault : {A : Type 0} → List (Bool × BufferError) → A → Result A BufferError
first_fault [] v = Ok v
first_fault (t ∷ ts) v = if t.0 then Err t.1 else first_fault ts v

-- a step, and then one over what it gave
infixl 10 ◌>>=◌
abbrev pub ◌>>=◌ : {A B : Type 0} → Result A BufferError → (A → Result B BufferError) → Result B BufferError
(Ok v) >>= f = f v
(Err e) >>= f = Err e
