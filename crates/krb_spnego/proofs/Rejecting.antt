-- An error of DER as one of reading.
use Rattle.std.proofs.Common.{ℕ, List, refl, inl, inr}
use Rattle.krb_der_core.specs.declared.der.DerEncode.{Ghosts as EncodingOf}
use Rattle.krb_der_core.specs.declared.error.Asn1DerError.{Asn1DerError}
use Rattle.krb_der_core.specs.declared.error.Asn1DerError.TheVariants as errors
use Rattle.krb_der_core.specs.Errors.{OrMemory, ValueError}
use Rattle.krb_spnego.specs.Reading.{IsMalformed, error_of}

pub malformed_of : {A : Type 0} (t : EncodingOf A) (octets : List ℕ) (e : Asn1DerError)
    → OrMemory (ValueError t.is_value t.enc t.first t.error octets) e → IsMalformed t octets (error_of e)
malformed_of t octets errors.OutOfMemory h = inl refl
malformed_of t octets errors.InvalidData (inl m) = cc
malformed_of t octets errors.InvalidData (inr p) = inr (errors.InvalidData, (p, refl))
malformed_of t octets errors.TruncatedData (inl m) = cc
malformed_of t octets errors.TruncatedData (inr p) = inr (errors.TruncatedData, (p, refl))
malformed_of t octets errors.UnsupportedValue (inl m) = cc
malformed_of t octets errors.UnsupportedValue (inr p) = inr (errors.UnsupportedValue, (p, refl))
malformed_of t octets (errors.Io e) (inl m) = cc
malformed_of t octets (errors.Io e) (inr p) = inr (errors.Io e, (p, refl))
