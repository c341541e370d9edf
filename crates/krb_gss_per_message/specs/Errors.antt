-- Which error of a protected token an error of its octets is, and one of its opening.
use Rattle.krb_crypto_hash.specs.declared.error.KerberosCryptoError.{KerberosCryptoError}
use Rattle.krb_crypto_hash.specs.declared.error.KerberosCryptoError.TheVariants as crypto
use Rattle.krb_gss_tokens.specs.declared.error.GssApiMessageError.{GssApiMessageError}
use Rattle.krb_gss_tokens.specs.declared.error.GssApiMessageError.TheVariants as gss
use Rattle.krb_gss_per_message.specs.declared.error.ProtectionError.{ProtectionError}
use Rattle.krb_gss_per_message.specs.declared.error.ProtectionError.TheVariants as errors

-- an allocation failure is the error's own variant, and every other error is inside it
abbrev pub of_token : GssApiMessageError → ProtectionError
of_token gss.OutOfMemory = errors.OutOfMemory
of_token (gss.InvalidId expected got) = errors.Token (gss.InvalidId expected got)
of_token (gss.InvalidMechanismOid expected got) = errors.Token (gss.InvalidMechanismOid expected got)
of_token (gss.IoError e) = errors.Token (gss.IoError e)
of_token (gss.InvalidMicFiller got) = errors.Token (gss.InvalidMicFiller got)
of_token (gss.InvalidWrapFiller got) = errors.Token (gss.InvalidWrapFiller got)
of_token (gss.Asn1Error e) = errors.Token (gss.Asn1Error e)

-- The same of an error of the cryptography.
abbrev pub of_crypto : KerberosCryptoError → ProtectionError
of_crypto crypto.OutOfMemory = errors.OutOfMemory
of_crypto (crypto.KeyLength n m) = errors.Opening (crypto.KeyLength n m)
of_crypto (crypto.CipherLength n m) = errors.Opening (crypto.CipherLength n m)
of_crypto (crypto.AlgorithmIdentifier n) = errors.Opening (crypto.AlgorithmIdentifier n)
of_crypto (crypto.AlgorithmIdentifierData v) = errors.Opening (crypto.AlgorithmIdentifierData v)
of_crypto crypto.IntegrityCheck = errors.Opening crypto.IntegrityCheck
of_crypto (crypto.CipherError s) = errors.Opening (crypto.CipherError s)
of_crypto crypto.CipherUnpad = errors.Opening crypto.CipherUnpad
of_crypto crypto.CipherPad = errors.Opening crypto.CipherPad
of_crypto (crypto.SeedBitLen s) = errors.Opening (crypto.SeedBitLen s)
