-- What is written of a text octet by octet, by what each means where it stands.
use Rattle.std.specs.Prelude.{ℕ, List, [], ◌∷◌, ◌++◌}

-- From a state on: `writes` says what is written of an octet, `next` which state follows it, and `left` what is written at the end.
abbrev pub written_from : {S : Type 0} → (S → ℕ → List ℕ) → (S → ℕ → S) → (S → List ℕ) → S → List ℕ → List ℕ
written_from writes next left state [] = left state
written_from writes next left state (octet ∷ octets) = writes state octet ++ written_from writes next left (next state octet) octets
