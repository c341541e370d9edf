-- Steps that take octets, each of which may refuse.
use Rattle.std.specs.Prelude.{ℕ, Bool, if◌then◌else◌, List, [], ◌∷◌, Result, Ok, Err}
use Rattle.krb_pac_contents.specs.declared.error.LogonError.{LogonError}

-- octets that were taken, and those after them
pub record Read : Type 0 where
  pub octets : List ℕ
  pub rest : List ℕ

-- the first of the tests that holds refuses; where none does, there is this value
abbrev pub first_fault : {A : Type 0} → List (Bool × LogonError) → A → Result A LogonError
first_fault [] v = Ok v
first_fault (t ∷ ts) v = if t.0 then Err t.1 else first_fault ts v

-- a step, and then one over what it gave
infixl 10 ◌>>=◌
abbrev pub ◌>>=◌ : {A B : Type 0} → Result A LogonError → (A → Result B LogonError) → Result B LogonError
(Ok v) >>= f = f v
(Err e) >>= f = Err e
