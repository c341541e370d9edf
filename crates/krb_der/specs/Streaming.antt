-- What is read from a reader, where the octets that it has left are known.
use Rattle.std.specs.Prelude.{◌≡◌, ℕ, ◌<◌, List, ◌++◌, length, Option, None, Some, ◌^◌, ◌⊎◌, Result, MatchResult}
use Rattle.std.specs.Io.KnownBytes.{Consumes}
use Rattle.krb_der_core.specs.declared.error.Asn1DerError.{Asn1DerError}
use Rattle.krb_der_core.specs.declared.error.Asn1DerError.TheVariants as errors
use Rattle.krb_der_core.specs.Reading.{RejectsPrefix}

-- an allocation failed, or a reader or a writer
abbrev pub IsError : Asn1DerError → Type 0
IsError errors.OutOfMemory = Unit {0}
IsError errors.TruncatedData = ⊥
IsError errors.InvalidData = ⊥
IsError errors.UnsupportedValue = ⊥
IsError (errors.Io e) = Unit {0}

-- so many octets were taken from the reader, and appended to those that were there
abbrev pub Gathers : ℕ → List ℕ → List ℕ → Option (List ℕ) → Option (List ℕ) → Type 0
Gathers count old new before after = (bs : List ℕ) × (length bs ≡ count) × (new ≡ old ++ bs) × Consumes before after bs

-- the reader had fewer octets, unless it failed or memory ran out
abbrev pub IsShort : ℕ → Option (List ℕ) → Asn1DerError → Type 0
IsShort count None e = Unit {0}
IsShort count (Some xs) errors.OutOfMemory = Unit {0}
IsShort count (Some xs) errors.TruncatedData = length xs < count
IsShort count (Some xs) errors.InvalidData = ⊥
IsShort count (Some xs) errors.UnsupportedValue = ⊥
IsShort count (Some xs) (errors.Io e) = Unit {0}

-- Which octets of a reader have this error, unless it failed.
abbrev pub RejectsReader : (List ℕ → Type 0) → Option (List ℕ) → Asn1DerError → Type 0
RejectsReader P None e = Unit {0}
RejectsReader P (Some xs) errors.OutOfMemory = Unit {0}
RejectsReader P (Some xs) errors.TruncatedData = RejectsPrefix P xs errors.TruncatedData
RejectsReader P (Some xs) errors.InvalidData = RejectsPrefix P xs errors.InvalidData
RejectsReader P (Some xs) errors.UnsupportedValue = RejectsPrefix P xs errors.UnsupportedValue
RejectsReader P (Some xs) (errors.Io e) = Unit {0}

-- Where the octets that are left begin with the encoding of a value, that value is read, unless the reader or an allocation fails. The encoding has
-- fewer than 2^64 octets: from there on the length octets are nine, which is a form that is not supported.
abbrev pub ReadsPrefix : {A : Type 0} → (A → Type 0) → (A → List ℕ) → Option (List ℕ) → Result A Asn1DerError → Type 0
ReadsPrefix {A} is_value enc left r = (v : A) (rest : List ℕ) → is_value v → length (enc v) < 2 ^ 64 → left ≡ Some (enc v ++ rest) → MatchResult r (λ w. w ≡ v) IsError

-- where the octets that are left are a proper prefix of an encoding, octets are missing, unless the reader or an allocation fails
abbrev pub ReportsEarlyEnd : {A : Type 0} → (A → Type 0) → (A → List ℕ) → Option (List ℕ) → Result A Asn1DerError → Type 0
ReportsEarlyEnd {A} is_value enc left r =
    (v : A) (prefix rest : List ℕ) → is_value v → 0 < length rest → length (enc v) < 2 ^ 64 → left ≡ Some prefix → enc v ≡ prefix ++ rest
    → MatchResult r (λ w. ⊥) (λ e. (e ≡ errors.TruncatedData) ⊎ IsError e)

-- Unless the reader failed, the error is the first one of the octets that it had left.
abbrev pub ReaderError : (List ℕ → Asn1DerError → Type 0) → Option (List ℕ) → Asn1DerError → Type 0
ReaderError error None e = Unit {0}
ReaderError error (Some xs) e = IsError e ⊎ error xs e
