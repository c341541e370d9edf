-- What octets are no PAC, each by its first error.
use Rattle.std.specs.Prelude.{◌≡◌, ℕ, ◌+◌, ◌*◌, ◌<◌, ◌≤◌, ◌⊎◌, List, length, drop, Result, Ok, Err, MatchResult}
use Rattle.std.specs.IoError.{error_kind}
use Rattle.std.specs.declared.io.ErrorKind.TheVariants.{UnexpectedEof}
use Rattle.byteorder.specs.Endian.{little_number}
use Rattle.krb_pac.specs.Kind.{code, IsUnlisted}
use Rattle.krb_pac.specs.Layout.{EntryAt, Buffer, Buffers}
use Rattle.krb_pac.specs.declared.kind.PacBufferType.{PacBufferType}
use Rattle.krb_pac.specs.Entry.{Entry}
use Rattle.krb_pac.specs.declared.error.PacError.{PacError}
use Rattle.krb_pac.specs.declared.error.PacError.TheVariants as errors

-- the four octets at `at` are a listed type
abbrev pub IsListed : List ℕ → ℕ → Type 0
IsListed b at = (at + 4 ≤ length b) × ((k : PacBufferType) × (code k ≡ little_number 4 (drop at b)))

-- the entry at `at` is cut short, and no field of it before the cut is rejected
abbrev pub IsCut : List ℕ → ℕ → Type 0
IsCut b at = (length b < at + 4) ⊎ (IsListed b at × (length b < at + 16))

-- not an allocation failure
abbrev pub IsNotMemory : PacError → Type 0
IsNotMemory errors.OutOfMemory = ⊥
IsNotMemory e = Unit {0}

abbrev pub IsEof : PacError → Type 0
IsEof (errors.IoError x) = error_kind x ≡ UnexpectedEof
IsEof e = ⊥

-- a number is read as its type, and one that no type has is rejected with it (MS-PAC 2.4)
abbrev pub IsTypeOf : ℕ → Result PacBufferType PacError → Type 0
IsTypeOf n answer = MatchResult answer (λ k. code k ≡ n) (λ e. (e ≡ errors.PacBufferType n) × IsUnlisted n)

-- the first error of the entry at `at` and of the slice that it names
abbrev pub BufferRejected : List ℕ → ℕ → PacError → Type 0
BufferRejected b at errors.OutOfMemory = Unit {0}
BufferRejected b at (errors.IoError x) = (error_kind x ≡ UnexpectedEof) × IsCut b at
BufferRejected b at (errors.PacBufferType n) = (at + 4 ≤ length b) × (n ≡ little_number 4 (drop at b)) × IsUnlisted n
BufferRejected b at errors.InvalidRange = (i : Entry) × EntryAt b at i × (length b < i.offset + i.cb_buffer_size)
BufferRejected b at (errors.Version n) = ⊥
BufferRejected b at (errors.InvalidVersion n) = ⊥

-- what is before the first rejected buffer
pub record Before (b : List ℕ) (ps : List Buffer) : Type 0 where
  pub room : 8 ≤ length b
  pub version : little_number 4 (drop 4 b) ≡ 0
  pub buffers : Buffers b 0 ps
  pub more : length ps < little_number 4 b

-- the first error of a PAC
abbrev pub PacRejected : List ℕ → PacError → Type 0
PacRejected b (errors.InvalidVersion n) = (8 ≤ length b) × (0 < n) × (n ≡ little_number 4 (drop 4 b))
PacRejected b errors.OutOfMemory = Unit {0}
PacRejected b (errors.IoError x) = (IsEof (errors.IoError x) × (length b < 8)) ⊎ ((ps : List Buffer) × Before b ps × BufferRejected b (8 + 16 * length ps) (errors.IoError x))
PacRejected b (errors.PacBufferType n) = (ps : List Buffer) × Before b ps × BufferRejected b (8 + 16 * length ps) (errors.PacBufferType n)
PacRejected b errors.InvalidRange = (ps : List Buffer) × Before b ps × BufferRejected b (8 + 16 * length ps) errors.InvalidRange
PacRejected b (errors.Version n) = ⊥

-- buffers are before an entry that names octets past the end
pub record NamesOutside (b : List ℕ) : Type 0 where
  pub earlier : List Buffer
  pub before : Before b earlier
  pub info : Entry
  pub entry : EntryAt b (8 + 16 * length earlier) info
  pub outside : length b < info.offset + info.cb_buffer_size

-- the result is this value, unless memory ran out
abbrev pub Answers : {A : Type 0} → Result A PacError → A → Type 0
Answers r v = MatchResult r (λ w. w ≡ v) (λ e. e ≡ errors.OutOfMemory)

-- a reader's error, or an allocation failure
abbrev pub IsError : PacError → Type 0
IsError errors.OutOfMemory = Unit {0}
IsError (errors.IoError x) = Unit {0}
IsError e = ⊥

abbrev pub AnswersUnlessError : {A : Type 0} → Result A PacError → A → Type 0
AnswersUnlessError r v = MatchResult r (λ w. w ≡ v) IsError

-- the result is this error, a reader's error, or an allocation failure
abbrev pub RejectsUnlessError : {A : Type 0} → Result A PacError → PacError → Type 0
RejectsUnlessError r rejection = MatchResult r (λ w. ⊥) (λ e. (e ≡ rejection) ⊎ IsError e)

-- the errors are one, whatever text an I/O error has
abbrev pub AreOne : PacError → PacError → Type 0
AreOne (errors.IoError x) (errors.IoError y) = error_kind x ≡ error_kind y
AreOne e f = e ≡ f

-- the errors are one, or one of them is an allocation failure
abbrev pub AreOneOrMemory : PacError → PacError → Type 0
AreOneOrMemory e f = AreOne e f ⊎ ((e ≡ errors.OutOfMemory) ⊎ (f ≡ errors.OutOfMemory))

-- Two calls read the same: equal values, or one error; or memory ran out in one of them.
abbrev pub AreAlike : {A : Type 0} → Result A PacError → Result A PacError → Type 0
AreAlike (Ok v) (Ok w) = v ≡ w
AreAlike (Ok v) (Err f) = f ≡ errors.OutOfMemory
AreAlike (Err e) (Ok w) = e ≡ errors.OutOfMemory
AreAlike (Err e) (Err f) = AreOneOrMemory e f
