-- The KRB-ERROR for a client that is refused, handed out (RFC 4120, 5.9.1; RFC 4121, 4.1.3).
use Rattle.std.specs.Prelude.{◌≡◌, ◌⊎◌, ℕ, ℤ, ◌<◌, Bool, true, false, List, [], ◌∷◌, None}
use Rattle.krb_accept.specs.ErrorReplies.{IsErrorReply, IsErrorReplyToken}
use Rattle.krb_accept_rules.specs.declared.key.ServiceKey.{ServiceKey}
use Rattle.krb_build.specs.Times.{IsNoTime}
use Rattle.krb_build.specs.declared.error.BuildError.{BuildError}
use Rattle.krb_build.specs.declared.error.BuildError.TheVariants as errors
use Rattle.krb_build.specs.declared.messages.errors.ErrorParts.{ErrorParts}
use Rattle.krb_der_core.specs.declared.der.DerEncode.{Ghosts as EncodingOf}
use Rattle.krb_messages.specs.declared.messages.errors.KrbErrorInner.{KrbErrorInner}
use Rattle.krb_c_calls.specs.declared.call_error.CallError.{CallError}
use Rattle.krb_c_calls.specs.declared.call_error.CallError.TheVariants as refusals
use Rattle.krb_c_accept.specs.Prepared.{AreKeys, IsNoKeytab}
use Rattle.krb_c_accept.specs.declared.error_message.ErrorAsked.{ErrorAsked}

-- the time, the code, the realm and the name of a key; no text and no data
abbrev pub error_parts : ErrorAsked → ServiceKey → ErrorParts
error_parts a key = record {
  code = a.code;
  seconds = a.clock;
  microseconds = a.microseconds;
  realm = key.realm;
  sname = key.name;
  text = None;
  «data» = None;
}

-- in a frame, or alone
abbrev pub IsErrorMade : EncodingOf KrbErrorInner → Bool → ErrorParts → List ℕ → Type 0
IsErrorMade t true parts octets = IsErrorReplyToken t parts octets
IsErrorMade t false parts octets = IsErrorReply t parts octets

-- for the first key of the keytab
pub record IsErrorMessage (t : EncodingOf KrbErrorInner) (a : ErrorAsked) (keytab octets : List ℕ) : Type 0 where
  pub first : ServiceKey
  pub others : List ServiceKey
  pub keys : AreKeys keytab (first ∷ others)
  pub made : IsErrorMade t a.in_frame (error_parts a first) octets

-- why none is made

abbrev pub build_refusal : BuildError → CallError
build_refusal errors.OutOfMemory = refusals.Memory
build_refusal errors.Microseconds = refusals.Number
build_refusal errors.Time = refusals.Number
build_refusal errors.FlagNumber = refusals.Number

-- there are more microseconds than a second has, or no time is of these seconds
abbrev pub HasNoTime : ℤ → ℕ → Type 0
HasNoTime clock microseconds = (999999 < microseconds) ⊎ IsNoTime clock

-- an allocation failed (2); or no time is so (3)
abbrev pub IsNotMade : ℤ → ℕ → ℕ → Type 0
IsNotMade clock microseconds status = (status ≡ 2) ⊎ (HasNoTime clock microseconds × (status ≡ 3))

-- the keytab has a key
abbrev pub HasKey : List ℕ → Type 0
HasKey keytab = (first : ServiceKey) × (others : List ServiceKey) × AreKeys keytab (first ∷ others)

-- an allocation failed (2); or it is no keytab (23); or one that has no key (20); or it has one, and no time is so (3)
abbrev pub RefusesErrorMessage : ErrorAsked → List ℕ → ℕ → Type 0
RefusesErrorMessage a keytab status =
    (status ≡ 2)
    ⊎ (IsNoKeytab keytab × (status ≡ 23))
    ⊎ (AreKeys keytab [] × (status ≡ 20))
    ⊎ (HasKey keytab × HasNoTime a.clock a.microseconds × (status ≡ 3))
