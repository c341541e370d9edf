-- What a reader has given and a writer has taken before an error.
use Rattle.std.specs.Prelude.{◌≡◌, ℕ, ◌≤◌, List, length, drop, Option, Some, IfSome}
use Rattle.std.specs.declared.io.Error.{Error}
use Rattle.byteorder.specs.Endian.{little_number}
use Rattle.krb_io.specs.declared.error.ReadError.{ReadError}
use Rattle.krb_io.specs.declared.error.ReadError.TheVariants as reading
use Rattle.krb_io.specs.Transfer.{IsNotInterrupted, IsPrefixWritten, IsShortRead}
use Rattle.krb_pac.specs.Kind.{IsUnlisted}
use Rattle.krb_pac.specs.declared.error.PacError.{PacError}
use Rattle.krb_pac.specs.declared.error.PacError.TheVariants as errors

-- what holds of an I/O error; other errors are free
abbrev pub IfIo : (Error → Type 0) → PacError → Type 0
IfIo P (errors.IoError x) = P x
IfIo P e = Unit {0}

-- an I/O error, of which this holds
abbrev pub IsIo : (Error → Type 0) → PacError → Type 0
IsIo P (errors.IoError x) = P x
IsIo P e = ⊥

-- why an entry was not read: the reader gave fewer than 16 octets, or the first four, which alone were read, are no type's number
abbrev pub EntryRejected : Option (List ℕ) → Option (List ℕ) → PacError → Type 0
EntryRejected old new (errors.IoError x) = IsNotInterrupted x × IsShortRead 16 old new
EntryRejected old new (errors.PacBufferType n) = IsUnlisted n × IfSome old (λ f. (4 ≤ length f) × (n ≡ little_number 4 f) × (new ≡ Some (drop 4 f)))
EntryRejected old new e = ⊥

-- an I/O error is the writer's, which took a proper prefix of octets of which this holds
abbrev pub StopsInside : (List ℕ → Type 0) → Option (List ℕ) → Option (List ℕ) → PacError → Type 0
StopsInside P old new e = IfIo (λ x. IsNotInterrupted x × ((b : List ℕ) × P b × IsPrefixWritten b old new)) e

-- an error of reading into a vector, as an error of a PAC
abbrev pub IsReadError : ReadError → PacError → Type 0
IsReadError (reading.Io x) e = e ≡ errors.IoError x
IsReadError reading.OutOfMemory e = e ≡ errors.OutOfMemory
