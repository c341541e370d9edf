-- The encodings of the messages of a negotiation, as the contracts name them.
use denote.Param.{number as param}
use Rattle.std.proofs.Common.{ℕ, List}
use Rattle.krb_der_core.specs.declared.der.DerEncode.{Ghosts as EncodingOf}
use Rattle.krb_der.specs.contracts.context_tag.ExplicitContextTagDerEncode.TheImpl.{ghosts as explicit}
use Rattle.krb_der.specs.contracts.context_tag.Number.{the_row as number_row}
use Rattle.krb_der.specs.contracts.context_tag.NumberTagNumber.TheImpl.{ghosts as number, dict as number_laws}
use Rattle.krb_der.specs.contracts.sequence_of.Asn1SequenceOfDerEncode.TheImpl.{ghosts as sequence_of}
use Rattle.krb_der_x509.specs.contracts.object_identifier.ObjectIdentifierAsn1.{the_row as identifier_row}
use Rattle.krb_der_x509.specs.contracts.object_identifier.ObjectIdentifierAsn1DerEncode.TheImpl.{ghosts as identifier, dict as identifier_laws}
use Rattle.krb_gss_tokens.specs.contracts.application_tag_0.ApplicationTag0DerEncode.TheImpl.{ghosts as in_token}
use Rattle.krb_gss_tokens.specs.contracts.spnego.GssApiNegInit.{the_row as init_row}
use Rattle.krb_gss_tokens.specs.contracts.spnego.GssApiNegInitDerEncode.TheImpl.{ghosts as init, dict as init_laws}
use Rattle.krb_gss_tokens.specs.contracts.spnego.GssApiNegInitDerSequence.TheImpl.{ghosts as init_sequence, dict as init_sequence_laws}
use Rattle.krb_gss_tokens.specs.contracts.spnego.NegTokenTarg.{the_row as targ_row}
use Rattle.krb_gss_tokens.specs.contracts.spnego.NegTokenTargDerEncode.TheImpl.{ghosts as targ, dict as targ_laws}
use Rattle.krb_gss_tokens.specs.declared.spnego.GssApiNegInit.{GssApiNegInit}
use Rattle.krb_gss_tokens.specs.declared.spnego.NegTokenTarg.{NegTokenTarg}

abbrev pub reply : EncodingOf NegTokenTarg
reply = explicit targ_row (number_row (param 1)) targ targ_laws (number (param 1)) (number_laws (param 1))

abbrev pub offer : EncodingOf GssApiNegInit
offer = in_token init_row init_sequence init_sequence_laws init init_laws

abbrev pub list : EncodingOf (List (List ℕ))
list = sequence_of identifier_row identifier identifier_laws
