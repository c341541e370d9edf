-- What a run of the program did, and with which status it ended.
use Rattle.std.specs.Prelude.{◌≡◌, ◌⊎◌, ℕ, Bool, List, take, ⊤, Option, Result, Ok, Err, OnOk, IfErr, IfSome, MatchResult}
use Rattle.std.specs.Io.KnownBytes.{Keeps, Appends, IsAtEnd}
use Rattle.krb_crypto_hash.specs.declared.error.KerberosCryptoError.TheVariants.{AlgorithmIdentifier}
use Rattle.krb_der_core.specs.declared.error.Asn1DerError.{Asn1DerError}
use Rattle.krbtool_engine.specs.declared.command.Command.{Command}
use Rattle.krbtool_engine.specs.declared.failure.Failure.{Failure}
use Rattle.krbtool_engine.specs.declared.failure.Failure.TheVariants.{Arguments, Crypto, Memory, Read, Write}
use Rattle.krbtool_engine.specs.Failures.{line_of}
use Rattle.krbtool_engine.specs.Commands.{IsRejection}
use Rattle.krbtool_engine.specs.Arguments.{AreArguments, IsCommand, NameUnknown, AreNoArguments, RejectsArguments, Answers}

-- the status of an error
abbrev pub rejection_status : Failure → ℕ
rejection_status Arguments = 2
rejection_status e = 1

-- the status of a run
abbrev pub status_of : Result ⊤ Failure → ℕ
status_of (Ok t) = 0
status_of (Err e) = rejection_status e

-- What a run writes to standard error, where its octets are known (before and after): nothing where it succeeds, and else the
-- line of its error, or a prefix of it where the writer fails.
abbrev pub IsLineWritten : Option (List ℕ) → Option (List ℕ) → Result ⊤ Failure → Type 0
IsLineWritten before after (Ok t) = Keeps before after
IsLineWritten before after (Err e) = (count : ℕ) × Appends before after (take count (line_of e))

-- an allocation, the reader or the writer failed
abbrev pub IsOutside : Failure → Type 0
IsOutside e = (e ≡ Memory) ⊎ (e ≡ Read) ⊎ (e ≡ Write)

-- The error of a run: the input could not be read; the arguments are wrong; a result could not be written; or the command's error
-- for the input.
abbrev pub IsReason : {V : Type 0} → (V → Type 0) → (V → List ℕ) → (ℕ → Bool) → (ℕ → List ℕ → Asn1DerError → Type 0) → List (List ℕ) → Option (List ℕ) → Failure → Type 0
IsReason is_value enc first error arguments input e =
    (e ≡ Read) ⊎ RejectsArguments arguments e
    ⊎ ((e ≡ Write) × IfSome input (λ octets. (answer : List ℕ) × Answers is_value enc arguments octets answer))
    ⊎ IfSome input (λ octets. (command : Command) × IsCommand arguments command × IsRejection is_value enc first error command octets e)

-- With these arguments: what was read of the input, where its octets are known (`rest` of it is left), and what was
-- written, where the octets of the output are known (before and after).
pub record IsRun {V : Type 0} (is_value : V → Type 0) (enc : V → List ℕ) (first : ℕ → Bool) (error : ℕ → List ℕ → Asn1DerError → Type 0) (arguments : List (List ℕ)) (input rest before after : Option (List ℕ)) (outcome : Result ⊤ Failure) : Type 0 where
  -- the arguments are an error only where they are of no command, and then they are, but for an allocation failure
  pub rejected : IfErr outcome (λ e. e ≡ Arguments → AreNoArguments arguments)
  pub told : AreNoArguments arguments → MatchResult outcome (λ _. ⊥) (λ e. (e ≡ Arguments) ⊎ (e ≡ Memory))
  -- so is an encryption type that the program does not know
  pub unknown : (n : ℕ) → NameUnknown arguments n → MatchResult outcome (λ _. ⊥) (λ e. (e ≡ Crypto (AlgorithmIdentifier n)) ⊎ (e ≡ Memory))
  -- and then nothing is read
  pub unread : (AreArguments arguments → ⊥) → Keeps input rest
  -- all of the input is read before a result
  pub read : OnOk outcome (IsAtEnd rest)
  -- what is written is the result to all of the input
  pub written : OnOk outcome (IfSome input (λ octets. (answer : List ℕ) × Answers is_value enc arguments octets answer × Appends before after answer))
  -- where there is a result, it is written, unless an allocation, the reader or the writer fails
  pub answered : IfSome input (λ octets. (answer : List ℕ) → Answers is_value enc arguments octets answer → MatchResult outcome (λ _. Appends before after answer) IsOutside)
  -- nothing is written where there is an error, but for one of writing a result, before which all of the input is read
  pub kept : IfErr outcome (λ e. Keeps before after ⊎ ((e ≡ Write) × IsAtEnd rest × IfSome input (λ octets. (answer : List ℕ) × Answers is_value enc arguments octets answer)))
  -- each error has its reason
  pub because : IfErr outcome (IsReason is_value enc first error arguments input)
