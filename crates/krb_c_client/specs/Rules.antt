-- The rules by the numbers of krb.h (KRB_CLIENT_RULE_..); of an allocation failure there is none.
use Rattle.std.specs.Prelude.{ℕ, Option, Some, None}
use Rattle.krb_client.specs.declared.error.ClientError.{ClientError}
use Rattle.krb_client.specs.declared.error.ClientError.TheVariants as errors
use Rattle.krb_client.specs.declared.renamed.RenameError.{RenameError}
use Rattle.krb_client.specs.declared.renamed.RenameError.TheVariants as renames
use Rattle.krb_client.specs.declared.keys.hint.HintError.{HintError}
use Rattle.krb_client.specs.declared.keys.hint.HintError.TheVariants as hints
use Rattle.krb_client.specs.declared.keys.password.PasswordError.{PasswordError}
use Rattle.krb_client.specs.declared.keys.password.PasswordError.TheVariants as passwords
use Rattle.krb_client.specs.declared.replies.error.ReplyError.{ReplyError}
use Rattle.krb_client.specs.declared.replies.error.ReplyError.TheVariants as replies
use Rattle.krb_client.specs.declared.requests.error.RequestError.{RequestError}
use Rattle.krb_client.specs.declared.requests.error.RequestError.TheVariants as requests
use Rattle.krb_client_rules.specs.declared.mismatch.Mismatch.{Mismatch}
use Rattle.krb_client_rules.specs.declared.mismatch.Mismatch.TheVariants as mismatches
use Rattle.krb_crypto.specs.declared.seal.error.PartError.{PartError}
use Rattle.krb_crypto.specs.declared.seal.error.PartError.TheVariants as parts
use Rattle.krb_crypto_hash.specs.declared.error.KerberosCryptoError.TheVariants as crypto
use Rattle.krb_der_core.specs.declared.error.Asn1DerError.{Asn1DerError}
use Rattle.krb_der_core.specs.declared.error.Asn1DerError.TheVariants as der

-- ---- of a reply: it is read, compared in the clear, opened, and compared

abbrev pub message_rule : Asn1DerError → Option ℕ
message_rule der.OutOfMemory = None
message_rule other = Some 2

abbrev pub opening_rule : PartError → Option ℕ
opening_rule (parts.Crypto crypto.OutOfMemory) = None
opening_rule (parts.Der der.OutOfMemory) = None
opening_rule other = Some 5

abbrev pub mismatch_rule : Mismatch → ℕ
mismatch_rule mismatches.Client = 6
mismatch_rule mismatches.TicketVersion = 7
mismatch_rule mismatches.Ticket = 8
mismatch_rule mismatches.Unasked = 9
mismatch_rule mismatches.EncryptionType = 10
mismatch_rule mismatches.Nonce = 11
mismatch_rule mismatches.Server = 12
mismatch_rule mismatches.SessionKey = 13
mismatch_rule mismatches.SessionKeySize = 40
mismatch_rule mismatches.FlagsSize = 41
mismatch_rule mismatches.Start = 14
mismatch_rule mismatches.End = 15
mismatch_rule mismatches.RenewTill = 16
mismatch_rule mismatches.Flags = 17
mismatch_rule mismatches.Addresses = 18
mismatch_rule mismatches.Time = 19

abbrev pub reply_rule : ReplyError → Option ℕ
reply_rule (replies.Message e) = message_rule e
reply_rule replies.Pvno = Some 3
reply_rule replies.MsgType = Some 4
reply_rule (replies.Opening e) = opening_rule e
reply_rule (replies.Mismatch rule) = Some (mismatch_rule rule)

-- ---- of the client's key

abbrev pub password_rule : PasswordError → Option ℕ
password_rule passwords.Suite = Some 25
password_rule passwords.Parameters = Some 26
password_rule (passwords.Iterations n) = Some 27
password_rule passwords.OutOfMemory = None

abbrev pub hint_rule : HintError → Option ℕ
hint_rule hints.MethodData = Some 20
hint_rule hints.NoInfo = Some 21
hint_rule hints.Info = Some 22
hint_rule hints.EncryptionType = Some 23
hint_rule hints.NoKey = Some 24
hint_rule (hints.Password e) = password_rule e
hint_rule hints.OutOfMemory = None

-- ---- of a request

abbrev pub request_rule : RequestError → Option ℕ
request_rule requests.Nonce = Some 29
request_rule requests.OptionNumber = Some 30
request_rule requests.Microseconds = Some 31
request_rule requests.Time = Some 32
request_rule requests.Delegation = Some 33
request_rule requests.Subkey = Some 34
request_rule requests.Confounder = Some 35
request_rule requests.Key = Some 36
request_rule requests.OutOfMemory = None

-- ---- of an exchange

abbrev pub client_rule : ClientError → Option ℕ
client_rule errors.OtherMessage = Some 1
client_rule (errors.Reply e) = reply_rule e
client_rule (errors.Key e) = hint_rule e
client_rule (errors.Request e) = request_rule e
client_rule (errors.Kdc code) = Some 28

-- the code of the KDC's error (RFC 4120, 7.5.9)
abbrev pub code_of : ClientError → ℕ
code_of (errors.Kdc code) = code
code_of other = 0

-- ---- of a reply that renames (RFC 6806, 11)

abbrev pub rename_rule : RenameError → Option ℕ
rename_rule renames.NoKey = Some 37
rename_rule (renames.Reply e) = reply_rule e
rename_rule renames.Absent = Some 38
rename_rule renames.Checksum = Some 39
rename_rule renames.OutOfMemory = None
