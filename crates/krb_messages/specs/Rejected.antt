-- Which octets are read as no frame, each by its first error (RFC 3244, 2), and what the errors of a reader and a writer say.
use Rattle.std.specs.Prelude.{◌≡◌, ℕ, ◌<◌, ◌≤◌, ◌^◌, List, [], ◌∷◌, ◌++◌, length, Option, Some, None, ◌⊎◌}
use Rattle.std.specs.Io.KnownBytes.{Consumes, Keeps}
use Rattle.std.specs.IoError.{error_kind}
use Rattle.std.specs.declared.io.Error.{Error}
use Rattle.std.specs.declared.io.ErrorKind.{ErrorKind}
use Rattle.std.specs.declared.io.ErrorKind.TheVariants as kinds
use Rattle.krb_der_core.specs.declared.der.DerEncode.{Ghosts as EncodingOf}
use Rattle.krb_der_core.specs.declared.error.Asn1DerError.{Asn1DerError}
use Rattle.krb_der_core.specs.declared.error.Asn1DerError.TheVariants as errors
use Rattle.krb_der_core.specs.Errors.{PrefixError}
use Rattle.krb_der_core.specs.Reading.{Encodings, RejectsPrefix}
use Rattle.krb_io.specs.Transfer.{IsNotInterrupted, IsPrefixWritten}
use Rattle.krb_messages.specs.declared.kpasswd.error.MessageError.{MessageError}
use Rattle.krb_messages.specs.declared.kpasswd.error.MessageError.TheVariants as message_errors
use Rattle.krb_messages.specs.declared.kpasswd.error.ReadFrameError.{ReadFrameError}
use Rattle.krb_messages.specs.declared.kpasswd.error.ReadFrameError.TheVariants as unread
use Rattle.krb_messages.specs.declared.kpasswd.error.WriteFrameError.{WriteFrameError}
use Rattle.krb_messages.specs.declared.kpasswd.error.WriteFrameError.TheVariants as unwritten
use Rattle.krb_messages.specs.declared.kpasswd.rejection.Rejection.{Rejection}
use Rattle.krb_messages.specs.declared.kpasswd.rejection.Rejection.TheVariants as rejections

-- ---- octets

-- two octets of the frame's length, and what follows them
pub record TrailingLength (octets rest : List ℕ) : Type 0 where
  pub whole : List ℕ
  pub whole_long : length whole ≡ 2
  pub parts : octets ≡ whole ++ rest

-- the six octets before the messages, of which the version is 1, and what follows them
pub record TrailingHeader (octets rest : List ℕ) : Type 0 where
  pub whole : List ℕ
  pub first : List ℕ
  pub whole_long : length whole ≡ 2
  pub first_long : length first ≡ 2
  pub parts : octets ≡ whole ++ (0 ∷ 1 ∷ (first ++ rest))

-- the octets end in the first length, in the version, or after the version 1 in the second length
abbrev pub IsCut : List ℕ → Type 0
IsCut octets = (length octets < 4) ⊎ ((rest : List ℕ) × TrailingLength octets (0 ∷ 1 ∷ rest) × (length rest < 2))

-- the version is another than 1
abbrev pub IsOfOtherVersion : List ℕ → Type 0
IsOfOtherVersion octets = (version rest : List ℕ) × TrailingLength octets (version ++ rest) × (length version ≡ 2) × (version ≡ 0 ∷ 1 ∷ [] → ⊥)

-- a message's error, as the error of an encoding
abbrev pub der_error : MessageError → Asn1DerError
der_error message_errors.InvalidData = errors.InvalidData
der_error message_errors.TruncatedData = errors.TruncatedData
der_error message_errors.UnsupportedValue = errors.UnsupportedValue

-- the error of an encoding in a slice, as that of the message in this place; it is never an I/O error
abbrev pub reported_in : (MessageError → ReadFrameError) → Asn1DerError → ReadFrameError
reported_in place errors.InvalidData = place message_errors.InvalidData
reported_in place errors.TruncatedData = place message_errors.TruncatedData
reported_in place errors.UnsupportedValue = place message_errors.UnsupportedValue
reported_in place errors.OutOfMemory = unread.OutOfMemory
reported_in place (errors.Io e) = unread.OutOfMemory

-- This is the first error of the octets as a message, from the left. So no message is at their start, and they are the start of
-- one only where the error says that octets are missing.
abbrev pub MessageRejected : {A : Type 0} → EncodingOf A → List ℕ → MessageError → Type 0
MessageRejected a octets e = PrefixError a.first a.error octets (der_error e) × RejectsPrefix (Encodings a.is_value a.enc) octets (der_error e)

-- The first error of octets that begin with no frame, from the left. The first message is of type A, and the second of type B.
abbrev pub FrameError : {A B : Type 0} → EncodingOf A → EncodingOf B → List ℕ → ReadFrameError → Type 0
FrameError a b octets unread.Cut = IsCut octets
FrameError a b octets unread.Version = IsOfOtherVersion octets
FrameError a b octets (unread.ApMessage e) = (rest : List ℕ) × TrailingHeader octets rest × MessageRejected a rest e
FrameError {A} a b octets (unread.KrbPriv e) = (v : A) × ((rest : List ℕ) × a.is_value v × TrailingHeader octets (a.enc v ++ rest) × MessageRejected b rest e)
FrameError a b octets unread.OutOfMemory = ⊥

-- the octets begin with no frame, by this error, or an allocation failed after the six octets before the messages
abbrev pub FrameRejected : {A B : Type 0} → EncodingOf A → EncodingOf B → List ℕ → ReadFrameError → Type 0
FrameRejected a b octets e = ((e ≡ unread.OutOfMemory) × ((rest : List ℕ) × TrailingHeader octets rest)) ⊎ FrameError a b octets e

-- this is the error of the six octets before the messages
abbrev pub HeaderError : List ℕ → ReadFrameError → Type 0
HeaderError octets unread.Cut = IsCut octets
HeaderError octets unread.Version = IsOfOtherVersion octets
HeaderError octets (unread.ApMessage e) = ⊥
HeaderError octets (unread.KrbPriv e) = ⊥
HeaderError octets unread.OutOfMemory = ⊥

-- ---- readers

-- The reader failed: it had given octets that are cut short in the six before the messages, or the six are there.
abbrev pub ReaderFailed : List ℕ → Option (List ℕ) → Type 0
ReaderFailed octets after = ((taken : List ℕ) × IsCut taken × Consumes (Some octets) after taken) ⊎ ((rest : List ℕ) × TrailingHeader octets rest)

-- this is the error of a reader's octets, where they are known
abbrev pub ReaderRejected : {A B : Type 0} → EncodingOf A → EncodingOf B → Option (List ℕ) → Option (List ℕ) → Rejection → Type 0
ReaderRejected a b None after why = Unit {0}
ReaderRejected a b (Some octets) after (rejections.Frame e) = FrameRejected a b octets e
ReaderRejected a b (Some octets) after (rejections.Device e) = ReaderFailed octets after

-- the error of an encoding from a reader, as that of the message in this place
abbrev pub reader_reported_in : (MessageError → ReadFrameError) → Asn1DerError → Rejection
reader_reported_in place errors.InvalidData = rejections.Frame (place message_errors.InvalidData)
reader_reported_in place errors.TruncatedData = rejections.Frame (place message_errors.TruncatedData)
reader_reported_in place errors.UnsupportedValue = rejections.Frame (place message_errors.UnsupportedValue)
reader_reported_in place errors.OutOfMemory = rejections.Frame unread.OutOfMemory
reader_reported_in place (errors.Io e) = rejections.Device e

-- the reader failed, or an allocation
abbrev pub IsFailure : Rejection → Type 0
IsFailure (rejections.Frame unread.Cut) = ⊥
IsFailure (rejections.Frame unread.Version) = ⊥
IsFailure (rejections.Frame (unread.ApMessage e)) = ⊥
IsFailure (rejections.Frame (unread.KrbPriv e)) = ⊥
IsFailure (rejections.Frame unread.OutOfMemory) = Unit {0}
IsFailure (rejections.Device e) = Unit {0}

-- the kind of the I/O error that reports an error of a frame
abbrev pub frame_kind : ReadFrameError → ErrorKind
frame_kind unread.Cut = kinds.UnexpectedEof
frame_kind unread.Version = kinds.InvalidData
frame_kind (unread.ApMessage e) = kinds.InvalidData
frame_kind (unread.KrbPriv e) = kinds.InvalidData
frame_kind unread.OutOfMemory = kinds.OutOfMemory

-- the I/O error that reports this: the reader's own, or one of the frame's kind
abbrev pub IsAnswered : Rejection → Error → Type 0
IsAnswered (rejections.Frame why) error = error_kind error ≡ frame_kind why
IsAnswered (rejections.Device e) error = error ≡ e

-- the reader was at its end; or it failed, and gave nothing
abbrev pub EndsOrFails : Option (List ℕ) → Option (List ℕ) → Rejection → Type 0
EndsOrFails None after why = Unit {0}
EndsOrFails (Some octets) after (rejections.Frame unread.Cut) = octets ≡ []
EndsOrFails (Some octets) after (rejections.Frame unread.Version) = ⊥
EndsOrFails (Some octets) after (rejections.Frame (unread.ApMessage e)) = ⊥
EndsOrFails (Some octets) after (rejections.Frame (unread.KrbPriv e)) = ⊥
EndsOrFails (Some octets) after (rejections.Frame unread.OutOfMemory) = ⊥
EndsOrFails (Some octets) after (rejections.Device e) = Keeps (Some octets) after

-- the reader had fewer than two octets; or it failed, and gave fewer
abbrev pub IsShort : Option (List ℕ) → Option (List ℕ) → Rejection → Type 0
IsShort None after why = Unit {0}
IsShort (Some octets) after (rejections.Frame unread.Cut) = length octets < 2
IsShort (Some octets) after (rejections.Frame unread.Version) = ⊥
IsShort (Some octets) after (rejections.Frame (unread.ApMessage e)) = ⊥
IsShort (Some octets) after (rejections.Frame (unread.KrbPriv e)) = ⊥
IsShort (Some octets) after (rejections.Frame unread.OutOfMemory) = ⊥
IsShort (Some octets) after (rejections.Device e) = (taken : List ℕ) × (length taken < 2) × Consumes (Some octets) after taken

-- this is the error of the six octets before the messages; or the reader failed, and those that it gave are cut short
abbrev pub HeaderRejected : Option (List ℕ) → Option (List ℕ) → Rejection → Type 0
HeaderRejected None after why = Unit {0}
HeaderRejected (Some octets) after (rejections.Frame e) = HeaderError octets e
HeaderRejected (Some octets) after (rejections.Device e) = (taken : List ℕ) × IsCut taken × Consumes (Some octets) after taken

-- the six octets before the messages were read from a reader, and the version is 1
abbrev pub HeaderTaken : Option (List ℕ) → Option (List ℕ) → Type 0
HeaderTaken None after = Unit {0}
HeaderTaken (Some octets) None = ⊥
HeaderTaken (Some octets) (Some rest) = TrailingHeader octets rest

-- ---- writers

-- the kind of the I/O error that reports why a frame was not written
abbrev pub unwritten_kind : WriteFrameError → ErrorKind
unwritten_kind unwritten.TooLong = kinds.InvalidInput
unwritten_kind unwritten.OutOfMemory = kinds.OutOfMemory

-- an allocation failed, or a frame of these octets is too long
abbrev pub IsUnwritten : List ℕ → WriteFrameError → Type 0
IsUnwritten octets e = (e ≡ unwritten.OutOfMemory) ⊎ ((e ≡ unwritten.TooLong) × (2 ^ 16 ≤ length octets))

-- Why a frame of these octets was not written: an allocation failed, or it is too long, and the writer is as before; or it fits, and
-- the writer failed, which had taken a proper prefix of it.
pub data WriterRejected {W : Type 0} (contents : W → Option (List ℕ)) (before after : W) (octets : List ℕ) (e : Error) : Type 0 where
  no_memory : error_kind e ≡ kinds.OutOfMemory → after ≡ before → WriterRejected contents before after octets e
  too_long : error_kind e ≡ kinds.InvalidInput → 2 ^ 16 ≤ length octets → after ≡ before → WriterRejected contents before after octets e
  writer_failed : length octets < 2 ^ 16 → IsNotInterrupted e → IsPrefixWritten octets (contents before) (contents after) → WriterRejected contents before after octets e
