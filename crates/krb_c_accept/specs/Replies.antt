-- What is sent to a client that is let in (RFC 4120, 3.2.4; RFC 4121, 4.1.2), and the service's subkey in it.
use Rattle.std.specs.Prelude.{◌≡◌, ℕ, ℤ, pos, ◌/◌, ◌%◌, Bool, true, false, MatchBool, List, [], take, drop, Option, None, Some}
use Rattle.krb_accept.specs.Frame.{in_frame}
use Rattle.krb_accept.specs.Replies.{IsReply, IsReplyToken}
use Rattle.krb_accept.specs.Wanted.{WantsReply}
use Rattle.krb_accept.specs.declared.ap_rep.ReplyError.{ReplyError}
use Rattle.krb_accept.specs.declared.ap_rep.ReplyError.TheVariants as errors
use Rattle.krb_accept.specs.declared.frame.InnerToken.TheVariants as inner
use Rattle.krb_accept.specs.declared.token.Context.{Context}
use Rattle.krb_accept_rules.specs.declared.accepted.Accepted.{Accepted}
use Rattle.krb_crypto.specs.BySuite.{key_of_seed_of}
use Rattle.krb_crypto.specs.Suites.{etype}
use Rattle.krb_crypto.specs.declared.cipher_suite.CipherSuite.{CipherSuite}
use Rattle.krb_crypto.specs.declared.cipher_suite.CipherSuite.TheVariants as suites
use Rattle.krb_der_core.specs.declared.der.DerEncode.{Ghosts as EncodingOf}
use Rattle.krb_enc_parts.specs.declared.data_types.authenticators.EncApRepPartInner.{EncApRepPartInner}
use Rattle.krb_messages.specs.declared.messages.application.ApRepInner.{ApRepInner}
use Rattle.krb_types.specs.declared.data_types.encryption.EncryptionKey.{EncryptionKey}
use Rattle.krb_c_calls.specs.declared.call_error.CallError.{CallError}
use Rattle.krb_c_calls.specs.declared.call_error.CallError.TheVariants as refusals
use Rattle.krb_c_accept.specs.Options.{has_option}
use Rattle.krb_c_accept.specs.declared.records.AcceptorRecord.{AcceptorRecord}
use Rattle.krb_c_accept.specs.declared.reply.Reply.{Reply}

-- ---- of 48 random octets

-- the confounder: the first 8 for triple DES, else the first 16 (RFC 3961, 6.3; RFC 3962, 6; RFC 8009, 5)
abbrev pub confounder_in : CipherSuite → List ℕ → List ℕ
confounder_in suites.Des3CbcSha1Kd random = take 8 random
confounder_in other random = take 16 random

-- behind the first 16 the seed of a key (RFC 3961, 6.3.1; RFC 3962, 6; RFC 8009, 5)
abbrev pub seed_in : CipherSuite → List ℕ → List ℕ
seed_in suites.Des3CbcSha1Kd random = take 21 (drop 16 random)
seed_in suites.Aes128CtsHmacSha196 random = take 16 (drop 16 random)
seed_in suites.Aes128CtsHmacSha256128 random = take 16 (drop 16 random)
seed_in suites.Aes256CtsHmacSha196 random = drop 16 random
seed_in suites.Aes256CtsHmacSha384192 random = drop 16 random

-- ---- the service's subkey

-- the key of the suite that the seed gives
pub record IsSubkeyOf (suite : CipherSuite) (random : List ℕ) (key : EncryptionKey) : Type 0 where
  pub etype_is : key.key_type ≡ pos (etype suite)
  pub octets_are : key.key_value ≡ key_of_seed_of suite (seed_in suite random)

-- it, where one is asked for
abbrev pub IsOwnSubkey : Bool → CipherSuite → List ℕ → Option EncryptionKey → Type 0
IsOwnSubkey false suite random found = found ≡ None
IsOwnSubkey true suite random None = ⊥
IsOwnSubkey true suite random (Some key) = IsSubkeyOf suite random key

-- the octets of a key, or none
abbrev pub optional_key : Option EncryptionKey → List ℕ
optional_key None = []
optional_key (Some key) = key.key_value

-- ---- the AP-REP

-- the token is a frame around an AP-REQ (RFC 2743, 3.1)
abbrev pub IsFramed : List ℕ → Type 0
IsFramed token = (octets : List ℕ) × (token ≡ in_frame inner.ApReq octets)

-- so the AP-REP is in one, but in DCE style (flag 0x1000)
abbrev pub IsInFrame : List ℕ → ℕ → Type 0
IsInFrame token flags = (flags / 4096 % 2 ≡ 0) × IsFramed token

-- why none is made: an allocation failed; with a session key of a suite, and the suite's confounder, nothing else
abbrev pub reply_error : ReplyError → CallError
reply_error errors.OutOfMemory = refusals.Memory
reply_error errors.Key = refusals.Never
reply_error errors.Confounder = refusals.Never

module _ (part : EncodingOf EncApRepPartInner) (ap_rep : EncodingOf ApRepInner) where
  -- in a frame, or alone
  abbrev pub IsMade : Bool → Accepted → List ℕ → Option EncryptionKey → Option ℤ → List ℕ → Type 0
  IsMade true a confounder subkey number octets = IsReplyToken part ap_rep a confounder subkey number octets
  IsMade false a confounder subkey number octets = IsReply part ap_rep a confounder subkey number octets

  -- with the service's subkey, where one is asked for, and the number of its first message
  pub record IsAnswerTo (acceptor : AcceptorRecord) (random : List ℕ) (suite : CipherSuite) (framed : Bool) (a : Accepted) (r : Reply) : Type 0 where
    pub subkey : Option EncryptionKey
    pub is_subkey : IsOwnSubkey (has_option acceptor.options 256) suite random subkey
    pub octets_are : r.own_subkey.items ≡ optional_key subkey
    pub made : IsMade framed a (confounder_in suite random) subkey (Some (pos acceptor.sequence_number)) r.octets.items

  -- none, where the client waits for none; else under the suite of the session key
  pub data IsReplyTo (acceptor : AcceptorRecord) (random token : List ℕ) (c : Context) (r : Reply) : Type 0 where
    no_reply : (WantsReply c.accepted c.flags → ⊥) → r.own_subkey.items ≡ [] → r.octets.items ≡ [] → IsReplyTo acceptor random token c r
    answered : WantsReply c.accepted c.flags → (suite : CipherSuite) → c.accepted.ticket.key.key_type ≡ pos (etype suite)
        → (framed : Bool) → MatchBool framed (IsInFrame token c.flags) (IsInFrame token c.flags → ⊥)
        → IsAnswerTo acceptor random suite framed c.accepted r → IsReplyTo acceptor random token c r
