-- What a reader has given and a writer has taken, where these octets are known.
use Rattle.std.specs.Prelude.{◌≡◌, ◌≢◌, ℕ, ◌<◌, List, ◌++◌, length, take, drop, Option, Some, IfSome}
use Rattle.std.specs.Io.KnownBytes.{Appends, Consumes}
use Rattle.std.specs.IoError.{error_kind}
use Rattle.std.specs.declared.io.Error.{Error}
use Rattle.std.specs.declared.io.ErrorKind.TheVariants as kinds
use Rattle.krb_io.specs.declared.error.ReadError.{ReadError}
use Rattle.krb_io.specs.declared.error.ReadError.TheVariants as errors

-- not the error of a call that a signal interrupted
abbrev pub IsNotInterrupted : Error → Type 0
IsNotInterrupted error = error_kind error ≢ kinds.Interrupted

-- fewer than so many octets were read
pub record IsShortRead (count : ℕ) (before after : Option (List ℕ)) : Type 0 where
  pub octets : List ℕ
  pub fewer : length octets < count
  pub read : Consumes before after octets

-- a proper prefix of the octets was written
pub record IsPrefixWritten (octets : List ℕ) (before after : Option (List ℕ)) : Type 0 where
  pub prefix : List ℕ
  pub rest : List ℕ
  pub whole : octets ≡ prefix ++ rest
  pub more : 0 < length rest
  pub written : Appends before after prefix

-- so many octets were read, and a vector that held `old` holds them after these
abbrev pub IsReadOnto : ℕ → List ℕ → List ℕ → Option (List ℕ) → Option (List ℕ) → Type 0
IsReadOnto count old new before after = (octets : List ℕ) × (length octets ≡ count) × (new ≡ old ++ octets) × Consumes before after octets

-- the octets are the first `count` that there were, or all of them, and were read
abbrev pub IsPrefixRead : ℕ → List ℕ → Option (List ℕ) → Option (List ℕ) → Type 0
IsPrefixRead count octets before after = IfSome before (λ all. (octets ≡ take count all) × (after ≡ Some (drop count all)))

-- the reader failed before it gave so many octets, or a vector could not grow
abbrev pub IsReadRejected : ℕ → Option (List ℕ) → Option (List ℕ) → ReadError → Type 0
IsReadRejected count before after (errors.Io error) = IsNotInterrupted error × IsShortRead count before after
IsReadRejected count before after errors.OutOfMemory = Unit {0}

-- the same error as one of a reader: its own, or one of the kind `OutOfMemory`
abbrev pub IsSameError : ReadError → Error → Type 0
IsSameError (errors.Io error) same = same ≡ error
IsSameError errors.OutOfMemory same = error_kind same ≡ kinds.OutOfMemory
