-- Requests, tickets and authenticators (RFC 4120, 3.2.3, 5.3 and 5.5.1), and the suites that they are encrypted by.
use Rattle.std.specs.Prelude.{◌≡◌, ℕ, ℤ, pos, List, length}
use Rattle.krb_crypto.specs.BySuite.{key_octets_of}
use Rattle.krb_crypto.specs.Suites.{etype}
use Rattle.krb_crypto.specs.declared.cipher_suite.CipherSuite.{CipherSuite}
use Rattle.krb_der_core.specs.declared.der.DerEncode.{Ghosts as EncodingOf}
use Rattle.krb_messages.specs.declared.messages.application.ApReqInner.{ApReqInner}
use Rattle.krb_enc_parts.specs.declared.data_types.authenticators.AuthenticatorInner.{AuthenticatorInner}
use Rattle.krb_enc_parts.specs.declared.data_types.ticket_part.EncTicketPartInner.{EncTicketPartInner}
use Rattle.krb_types.specs.declared.data_types.authorization_data.AuthorizationDataInner.{AuthorizationDataInner}
use Rattle.krb_types.specs.declared.data_types.encryption.EncryptionKey.{EncryptionKey}
use Rattle.krb_accept_rules.specs.declared.fields.AuthenticatorFields.{AuthenticatorFields}
use Rattle.krb_accept_rules.specs.declared.fields.RequestFields.{RequestFields}
use Rattle.krb_accept_rules.specs.declared.fields.TicketFields.{TicketFields}
use Rattle.krb_accept_rules.specs.declared.key.ServiceKey.{ServiceKey}
use Rattle.krb_accept.specs.Fields.{authenticator_of, request_of, ticket_of}
use Rattle.krb_accept.specs.Opening.{Encodes, SealsValue}

-- the number of a suite's encryption type
abbrev pub IsSupported : ℤ → Type 0
IsSupported number = (suite : CipherSuite) × (number ≡ pos (etype suite))

-- the key is of a suite, and has as many octets as the suite's keys (RFC 3961, 5.3)
pub record HasLength (key : EncryptionKey) : Type 0 where
  pub suite : CipherSuite
  pub of_suite : key.key_type ≡ pos (etype suite)
  pub size : length key.key_value ≡ key_octets_of suite

-- the octets are the one encoding of an AuthorizationData (5.2.6)
abbrev pub IsAuthorizationData : EncodingOf (List AuthorizationDataInner) → List ℕ → Type 0
IsAuthorizationData t octets = (v : List AuthorizationDataInner) × Encodes t octets v

-- the octets are the one encoding of an AP-REQ with these fields
pub record IsRequest (ap_req : EncodingOf ApReqInner) (octets : List ℕ) (request : RequestFields) : Type 0 where
  pub message : ApReqInner
  pub encodes : Encodes ap_req octets message
  pub fields : request ≡ request_of message

-- The ticket's octets are what the suite that it names makes of the encoding of an EncTicketPart with these fields, under this key, for key usage 2.
pub record IsTicket (enc_ticket_part : EncodingOf EncTicketPartInner) (key : ServiceKey) (request : RequestFields) (ticket : TicketFields) : Type 0 where
  pub suite : CipherSuite
  pub part : EncTicketPartInner
  pub of_suite : request.ticket.etype ≡ pos (etype suite)
  pub seals : SealsValue enc_ticket_part suite key.octets (pos 2) request.ticket.cipher part
  pub fields : ticket ≡ ticket_of part

-- The authenticator's octets are what the suite of the session key makes of the encoding of an Authenticator with these fields, under this key, for usage 11.
pub record IsAuthenticator (encoding : EncodingOf AuthenticatorInner) (key : EncryptionKey) (request : RequestFields) (authenticator : AuthenticatorFields) : Type 0 where
  pub suite : CipherSuite
  pub value : AuthenticatorInner
  pub of_suite : key.key_type ≡ pos (etype suite)
  pub seals : SealsValue encoding suite key.key_value (pos 11) request.authenticator.cipher value
  pub fields : authenticator ≡ authenticator_of value
