-- The passwords that the options name.
use Rattle.std.specs.List.{position_or_len}
use Rattle.std.specs.Prelude.{◌≡◌, ◌⊎◌, ℕ, nat_eq, Bool, ◌||◌, List, [], ◌∷◌, ◌++◌, take, Ok}
use Rattle.jolmurig.specs.Failures.{IsUnread}
use Rattle.jolmurig.specs.Files.{Gives}
use Rattle.jolmurig.specs.declared.files.Purpose.TheVariants as purpose
use Rattle.jolmurig.specs.declared.failure.Failure.{Failure}

-- a line feed (10) or a carriage return (13)
abbrev pub is_line_end : ℕ → Bool
is_line_end octet = nat_eq octet 10 || nat_eq octet 13

-- the octets before the first of these
abbrev pub first_line : List ℕ → List ℕ
first_line octets = take (position_or_len is_line_end octets) octets

-- one more stands behind those that there were
abbrev pub pushes : (List ℕ → Type 0) → List (List ℕ) → List (List ℕ) → Type 0
pushes is old new = (one : List ℕ) × is one × (new ≡ old ++ one ∷ [])

-- What files give, by their names: octets, or why one is not read.
module _ (gives : Gives) where
  -- the password that a file holds
  abbrev pub password_gives : List ℕ → List ℕ → Type 0
  password_gives name password = (octets : List ℕ) × gives name (Ok octets) × (password ≡ first_line octets)

  -- those of files, in their order
  abbrev pub ArePasswords : List (List ℕ) → List (List ℕ) → Type 0
  ArePasswords [] passwords = passwords ≡ []
  ArePasswords (name ∷ names) passwords =
      (one : List ℕ) × (more : List (List ℕ)) × password_gives name one × ArePasswords names more × (passwords ≡ one ∷ more)

  -- the first file that is not read
  abbrev pub HasNoPassword : List (List ℕ) → Failure → Type 0
  HasNoPassword [] e = ⊥
  HasNoPassword (name ∷ names) e =
      IsUnread gives purpose.PasswordFile name e ⊎ ((octets : List ℕ) × gives name (Ok octets) × HasNoPassword names e)
