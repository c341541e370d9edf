-- KRB-ERROR (RFC 4120, 5.9.1), without a word of the client.
use Rattle.std.specs.Prelude.{◌≡◌, ℕ, pos, List, None}
use Rattle.krb_build.specs.Errors.{IsMemoryOr}
use Rattle.krb_build.specs.Times.{IsTimeAt, IsTimeError}
use Rattle.krb_build.specs.declared.error.BuildError.{BuildError}
use Rattle.krb_build.specs.declared.messages.errors.ErrorParts.{ErrorParts}
use Rattle.krb_der_core.specs.declared.der.DerEncode.{Ghosts as EncodingOf}
use Rattle.krb_messages.specs.declared.messages.errors.KrbErrorInner.{KrbErrorInner}
use Rattle.krb_accept.specs.Frame.{in_frame}
use Rattle.krb_accept.specs.declared.frame.InnerToken.TheVariants as inner

-- The octets are the encoding of a message of version 5 and type 30, with these parts, and no field beside them.
pub record IsErrorReply (t : EncodingOf KrbErrorInner) (parts : ErrorParts) (octets : List ℕ) : Type 0 where
  pub message : KrbErrorInner
  pub encodes : octets ≡ t.enc message
  pub protocol : (message.pvno ≡ pos 5) × (message.msg_type ≡ pos 30)
  pub time : IsTimeAt parts.seconds parts.microseconds message.stime message.susec
  pub code : message.error_code ≡ parts.code
  pub server : (message.realm ≡ parts.realm) × (message.sname ≡ parts.sname)
  pub about : (message.e_text.0 ≡ parts.text) × (message.e_data.0 ≡ parts.«data»)
  pub no_client : (message.ctime.0 ≡ None) × (message.cusec.0 ≡ None) × (message.crealm.0 ≡ None) × (message.cname.0 ≡ None)

-- the frame around such a message, with the token id 03 00 (RFC 4121, 4.1.3)
abbrev pub IsErrorReplyToken : EncodingOf KrbErrorInner → ErrorParts → List ℕ → Type 0
IsErrorReplyToken t parts token = (octets : List ℕ) × IsErrorReply t parts octets × (token ≡ in_frame inner.KrbError octets)

-- memory was wanting, or no GeneralizedTime and no microseconds say this time
abbrev pub IsErrorReplyError : ErrorParts → BuildError → Type 0
IsErrorReplyError parts e = IsMemoryOr e (IsTimeError parts.seconds parts.microseconds e)
