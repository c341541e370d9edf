-- The statuses that a call from C answers: 0 where it is done, 1 where the octets do not fit, from 2 on the refusals. Which refusal an error is.
use Rattle.std.specs.Prelude.{ℕ}
use Rattle.krb_crypto_hash.specs.declared.error.KerberosCryptoError.{KerberosCryptoError}
use Rattle.krb_crypto_hash.specs.declared.error.KerberosCryptoError.TheVariants as crypto
use Rattle.krb_der_core.specs.declared.error.Asn1DerError.{Asn1DerError}
use Rattle.krb_der_core.specs.declared.error.Asn1DerError.TheVariants as der
use Rattle.krb_messages.specs.declared.kpasswd.error.MessageError.{MessageError}
use Rattle.krb_messages.specs.declared.kpasswd.error.MessageError.TheVariants as message
use Rattle.krb_c_calls.specs.declared.call_error.CallError.{CallError}
use Rattle.krb_c_calls.specs.declared.call_error.CallError.TheVariants as refusals

-- the number that krb_status of krb.h gives to each
abbrev pub refusal_status : CallError → ℕ
refusal_status refusals.Memory = 2
refusal_status refusals.Number = 3
refusal_status refusals.ConfounderSize = 4
refusal_status refusals.KeySize = 5
refusal_status refusals.SealedSize = 6
refusal_status refusals.Integrity = 7
refusal_status refusals.Padding = 8
refusal_status refusals.Invalid = 9
refusal_status refusals.Truncated = 10
refusal_status refusals.Unsupported = 11
refusal_status refusals.Never = 12
refusal_status refusals.SeedSize = 13
refusal_status refusals.Empty = 14
refusal_status refusals.Direction = 15
refusal_status refusals.Token = 16
refusal_status refusals.Subkey = 17
refusal_status refusals.SealedMic = 18
refusal_status refusals.SealedHeader = 19
refusal_status refusals.Absent = 20
refusal_status refusals.TooLarge = 21
refusal_status refusals.TooDeep = 22
refusal_status refusals.Keytab = 23
refusal_status refusals.OtherVersion = 25
refusal_status refusals.PacType = 26
refusal_status refusals.PacRange = 27
refusal_status refusals.FrameSize = 28
refusal_status refusals.ProxyTooLarge = 30
refusal_status refusals.ProxyNoLength = 31
refusal_status refusals.ProxyOtherLength = 32
refusal_status refusals.ProxyNoDomain = 33
refusal_status refusals.ProxyOtherKind = 34
refusal_status refusals.ProxyFrameLength = 35
refusal_status refusals.ProxyInvalid = 36
refusal_status refusals.ProxyTruncated = 37
refusal_status refusals.ProxyUnsupported = 38
refusal_status refusals.ProxyPvno = 39
refusal_status refusals.ProxyMsgType = 40
refusal_status refusals.NotAccepted = 41

-- ---- an error of the cryptography

abbrev pub crypto_refusal : KerberosCryptoError → CallError
crypto_refusal crypto.OutOfMemory = refusals.Memory
crypto_refusal (crypto.AlgorithmIdentifier n) = refusals.Number
crypto_refusal (crypto.AlgorithmIdentifierData octets) = refusals.Number
crypto_refusal (crypto.KeyLength n m) = refusals.KeySize
crypto_refusal (crypto.CipherLength n m) = refusals.SealedSize
crypto_refusal crypto.IntegrityCheck = refusals.Integrity
crypto_refusal crypto.CipherUnpad = refusals.Padding
crypto_refusal crypto.CipherPad = refusals.Padding
crypto_refusal (crypto.CipherError text) = refusals.Never
crypto_refusal (crypto.SeedBitLen text) = refusals.Never

abbrev pub crypto_status : KerberosCryptoError → ℕ
crypto_status e = refusal_status (crypto_refusal e)

-- ---- an error of octets that are to be DER

abbrev pub der_refusal : Asn1DerError → CallError
der_refusal der.OutOfMemory = refusals.Memory
der_refusal der.InvalidData = refusals.Invalid
der_refusal der.TruncatedData = refusals.Truncated
der_refusal der.UnsupportedValue = refusals.Unsupported
der_refusal (der.Io e) = refusals.Never

abbrev pub der_status : Asn1DerError → ℕ
der_status e = refusal_status (der_refusal e)

-- ---- an error of a message's octets

abbrev pub message_refusal : MessageError → CallError
message_refusal message.InvalidData = refusals.Invalid
message_refusal message.TruncatedData = refusals.Truncated
message_refusal message.UnsupportedValue = refusals.Unsupported
