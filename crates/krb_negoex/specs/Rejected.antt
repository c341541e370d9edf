-- Which octets say no value, by the first error, and which values have no place.
use Rattle.std.specs.Prelude.{◌≡◌, ℕ, ◌+◌, ◌*◌, ◌<◌, ◌≤◌, ◌⊎◌, List, length, drop}
use Rattle.std.specs.IoError.{error_kind}
use Rattle.std.specs.declared.io.Error.{Error}
use Rattle.std.specs.declared.io.ErrorKind.TheVariants.{UnexpectedEof, InvalidData, InvalidInput, OutOfMemory}
use Rattle.byteorder.specs.Endian.{little_number}
use Rattle.krb_negoex.specs.Parts.{Elements}

-- an allocation failed
abbrev pub IsMemory : Error → Type 0
IsMemory e = error_kind e ≡ OutOfMemory

-- a number does not fit its field
abbrev pub IsUnfit : Error → Type 0
IsUnfit e = error_kind e ≡ InvalidInput

-- octets end before a fixed part of that width does
abbrev pub IsCut : ℕ → List ℕ → Error → Type 0
IsCut width f e = (error_kind e ≡ UnexpectedEof) × (length f < width)

-- two errors of one kind, allocation failure aside
abbrev pub OneError : Error → Error → Type 0
OneError e g = IsMemory e ⊎ (IsMemory g ⊎ (error_kind e ≡ error_kind g))

-- where the first rejected element is
pub record ElementRejected {A : Type 0} (part : List ℕ → List ℕ → A → Type 0) (rejects : List ℕ → List ℕ → Error → Type 0) (width : ℕ) (f m : List ℕ) (e : Error) : Type 0 where
  pub room : 8 ≤ length f
  pub inside : little_number 4 f ≤ length m
  pub before : List A
  pub more : length before < little_number 4 (drop 4 f)
  pub elements : Elements part width m (little_number 4 f) before
  pub error : rejects (drop (little_number 4 f + width * length before) m) m e

-- the offset lies past the message
abbrev pub IsOutside : List ℕ → List ℕ → Error → Type 0
IsOutside f m e = (error_kind e ≡ InvalidData) × (8 ≤ length f) × (length m < little_number 4 f)

-- the first error of a vector
abbrev pub VectorRejected : {A : Type 0} → (List ℕ → List ℕ → A → Type 0) → (List ℕ → List ℕ → Error → Type 0) → ℕ → List ℕ → List ℕ → Error → Type 0
VectorRejected part rejects width f m e =
    IsMemory e ⊎ (IsCut 8 f e ⊎ (IsOutside f m e ⊎ ElementRejected part rejects width f m e))

-- a value can not be laid where an allocation fails, or because an offset or a count does not fit its field
abbrev pub LayRejected : Type 0 → Error → Type 0
LayRejected laid e = IsMemory e ⊎ (IsUnfit e × (laid → ⊥))

-- an error made of one that is an allocation failure or a number that does not fit its field
abbrev pub IsUnlaidBy : {E : Type 0} → (Error → E → Type 0) → E → Type 0
IsUnlaidBy gives e = (x : Error) × gives x e × (IsMemory x ⊎ IsUnfit x)
