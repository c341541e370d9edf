-- Which error of a message an error of its DER octets is.
use Rattle.krb_der_core.specs.declared.error.Asn1DerError.{Asn1DerError}
use Rattle.krb_der_core.specs.declared.error.Asn1DerError.TheVariants as der
use Rattle.krb_gss_tokens.specs.declared.error.GssApiMessageError.{GssApiMessageError}
use Rattle.krb_gss_tokens.specs.declared.error.GssApiMessageError.TheVariants as errors

-- an allocation failure is the error's own variant, and every other error is inside it
abbrev pub of_der : Asn1DerError → GssApiMessageError
of_der der.OutOfMemory = errors.OutOfMemory
of_der der.InvalidData = errors.Asn1Error der.InvalidData
of_der der.TruncatedData = errors.Asn1Error der.TruncatedData
of_der der.UnsupportedValue = errors.Asn1Error der.UnsupportedValue
of_der (der.Io e) = errors.Asn1Error (der.Io e)
