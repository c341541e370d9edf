-- Which octets are rejected as a token, by the first field that is wrong (RFC 4121, 4.2.6).
use Rattle.std.specs.Prelude.{◌≡◌, ℕ, ◌<◌, List, [], ◌∷◌, ◌++◌, length, Option, Some, IfSome, ◌⊎◌, Result, MatchResult}
use Rattle.std.specs.IoError.{error_kind}
use Rattle.std.specs.declared.io.ErrorKind.TheVariants as kinds
use Rattle.krb_io.specs.Transfer.{IsNotInterrupted, IsPrefixWritten}
use Rattle.krb_gss_tokens.specs.Layout.{mic_id, mic_filler, mic_header, wrap_id, wrap_header}
use Rattle.krb_gss_tokens.specs.declared.error.GssApiMessageError.{GssApiMessageError}
use Rattle.krb_gss_tokens.specs.declared.error.GssApiMessageError.TheVariants as errors

-- these octets are at the start
abbrev pub Begins : List ℕ → List ℕ → Type 0
Begins octets prefix = (rest : List ℕ) × (octets ≡ prefix ++ rest)

-- The octets end inside a field of a MIC token, and no field before it is wrong: inside the id, inside the flags and the filler,
-- or inside the number.
abbrev pub MicIsCut : List ℕ → Type 0
MicIsCut octets = (length octets < 2) ⊎ ((Begins octets mic_id × (length octets < 8)) ⊎ (((flags : ℕ) × Begins octets (mic_id ++ (flags ∷ []) ++ mic_filler)) × (length octets < 16)))

-- How a MIC token is rejected whose octets are these, where they are known: the id is another, the filler is another, or memory
-- ran out after a whole header. An I/O error, and a field that is cut short, are an `IoError`.
abbrev pub MicRejected : Option (List ℕ) → GssApiMessageError → Type 0
MicRejected known (errors.InvalidId expected got) = (expected ≡ mic_id) × (got ≡ mic_id → ⊥) × (length got ≡ 2) × IfSome known (λ octets. Begins octets got)
MicRejected known (errors.InvalidMechanismOid expected got) = ⊥
MicRejected known (errors.IoError error) = Unit {0}
MicRejected known (errors.InvalidMicFiller got) = (got ≡ mic_filler → ⊥) × (length got ≡ 5) × IfSome known (λ octets. (flags : ℕ) × Begins octets (mic_id ++ (flags ∷ []) ++ got))
MicRejected known (errors.InvalidWrapFiller got) = ⊥
MicRejected known (errors.Asn1Error e) = ⊥
MicRejected known errors.OutOfMemory = IfSome known (λ octets. (flags number : ℕ) × Begins octets (mic_header flags number))

-- The first error of octets that are no MIC token, or an allocation failure after a whole header. An I/O error is an early end.
abbrev pub MicFirstError : List ℕ → GssApiMessageError → Type 0
MicFirstError octets (errors.InvalidId expected got) = MicRejected (Some octets) (errors.InvalidId expected got)
MicFirstError octets (errors.InvalidMechanismOid expected got) = ⊥
MicFirstError octets (errors.IoError error) = (error_kind error ≡ kinds.UnexpectedEof) × MicIsCut octets
MicFirstError octets (errors.InvalidMicFiller got) = MicRejected (Some octets) (errors.InvalidMicFiller got)
MicFirstError octets (errors.InvalidWrapFiller got) = ⊥
MicFirstError octets (errors.Asn1Error e) = ⊥
MicFirstError octets errors.OutOfMemory = MicRejected (Some octets) errors.OutOfMemory

-- The octets end inside a field of a Wrap token, and no field before it is wrong: inside the id, inside the flags and the filler,
-- or inside the three numbers.
abbrev pub WrapIsCut : List ℕ → Type 0
WrapIsCut octets = (length octets < 2) ⊎ ((Begins octets wrap_id × (length octets < 4)) ⊎ (((flags : ℕ) × Begins octets (wrap_id ++ (flags ∷ 255 ∷ []))) × (length octets < 16)))

-- How a Wrap token is rejected whose octets are these, where they are known.
abbrev pub WrapRejected : Option (List ℕ) → GssApiMessageError → Type 0
WrapRejected known (errors.InvalidId expected got) = (expected ≡ wrap_id) × (got ≡ wrap_id → ⊥) × (length got ≡ 2) × IfSome known (λ octets. Begins octets got)
WrapRejected known (errors.InvalidMechanismOid expected got) = ⊥
WrapRejected known (errors.IoError error) = Unit {0}
WrapRejected known (errors.InvalidMicFiller got) = ⊥
WrapRejected known (errors.InvalidWrapFiller got) = (got ≡ 255 → ⊥) × IfSome known (λ octets. (flags : ℕ) × Begins octets (wrap_id ++ (flags ∷ got ∷ [])))
WrapRejected known (errors.Asn1Error e) = ⊥
WrapRejected known errors.OutOfMemory = IfSome known (λ octets. (flags ec rrc number : ℕ) × Begins octets (wrap_header flags ec rrc number))

-- The first error of octets that are no Wrap token, or an allocation failure after a whole header. An I/O error is an early end.
abbrev pub WrapFirstError : List ℕ → GssApiMessageError → Type 0
WrapFirstError octets (errors.InvalidId expected got) = WrapRejected (Some octets) (errors.InvalidId expected got)
WrapFirstError octets (errors.InvalidMechanismOid expected got) = ⊥
WrapFirstError octets (errors.IoError error) = (error_kind error ≡ kinds.UnexpectedEof) × WrapIsCut octets
WrapFirstError octets (errors.InvalidMicFiller got) = ⊥
WrapFirstError octets (errors.InvalidWrapFiller got) = WrapRejected (Some octets) (errors.InvalidWrapFiller got)
WrapFirstError octets (errors.Asn1Error e) = ⊥
WrapFirstError octets errors.OutOfMemory = WrapRejected (Some octets) errors.OutOfMemory

-- a reader's or a writer's error
abbrev pub IsIo : GssApiMessageError → Type 0
IsIo (errors.IoError error) = Unit {0}
IsIo e = ⊥

-- a reader's error, or an allocation failure
abbrev pub IsError : GssApiMessageError → Type 0
IsError errors.OutOfMemory = Unit {0}
IsError (errors.IoError error) = Unit {0}
IsError e = ⊥

-- the result is this value, unless memory ran out
abbrev pub Answers : {A : Type 0} → Result A GssApiMessageError → A → Type 0
Answers answer v = MatchResult answer (λ w. w ≡ v) (λ e. e ≡ errors.OutOfMemory)

-- the result is this value, unless the reader failed or memory ran out
abbrev pub AnswersUnlessError : {A : Type 0} → Result A GssApiMessageError → A → Type 0
AnswersUnlessError answer v = MatchResult answer (λ w. w ≡ v) IsError

-- the result is an `IoError`
abbrev pub RejectsAsIo : {A : Type 0} → Result A GssApiMessageError → Type 0
RejectsAsIo answer = MatchResult answer (λ w. ⊥) IsIo

-- octets that end too early
abbrev pub IsEof : GssApiMessageError → Type 0
IsEof (errors.IoError error) = error_kind error ≡ kinds.UnexpectedEof
IsEof e = ⊥

-- the result is that the octets end too early
abbrev pub RejectsAsEof : {A : Type 0} → Result A GssApiMessageError → Type 0
RejectsAsEof answer = MatchResult answer (λ w. ⊥) IsEof

-- Why a token of these octets was not written: there was no memory for them, and the writer is as before; or the writer failed, which
-- had taken a proper prefix of them.
abbrev pub IsUnwritten : {W : Type 0} → (W → Option (List ℕ)) → W → W → List ℕ → GssApiMessageError → Type 0
IsUnwritten contents before after octets (errors.IoError error) =
    ((error_kind error ≡ kinds.OutOfMemory) × (after ≡ before)) ⊎ (IsNotInterrupted error × IsPrefixWritten octets (contents before) (contents after))
IsUnwritten contents before after octets e = ⊥
