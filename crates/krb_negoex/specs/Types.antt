-- The numbers of the message types (MS-NEGOEX 2.2.6.1).
use Rattle.std.specs.Prelude.{◌≡◌, ℕ, Result, MatchResult}
use Rattle.std.specs.IoError.{error_kind}
use Rattle.std.specs.declared.io.Error.{Error}
use Rattle.std.specs.declared.io.ErrorKind.TheVariants.{InvalidData}
use Rattle.krb_negoex.specs.declared.header.MessageType.{MessageType}
use Rattle.krb_negoex.specs.declared.header.MessageType.TheVariants.{InitiatorNego, AcceptorNego, InitiatorMetaData, AcceptorMetaData, Challenge, ApRequest, Verify, Alert}

abbrev pub type_code : MessageType → ℕ
type_code InitiatorNego = 0
type_code AcceptorNego = 1
type_code InitiatorMetaData = 2
type_code AcceptorMetaData = 3
type_code Challenge = 4
type_code ApRequest = 5
type_code Verify = 6
type_code Alert = 7

-- no type has this number
abbrev pub IsUnlisted : ℕ → Type 0
IsUnlisted n = (k : MessageType) → type_code k ≡ n → ⊥

-- a number is read as its type, and one that no type has is `InvalidData`
abbrev pub IsTypeOf : ℕ → Result MessageType Error → Type 0
IsTypeOf n answer = MatchResult answer (λ k. type_code k ≡ n) (λ e. (error_kind e ≡ InvalidData) × IsUnlisted n)
