-- AS-REQ and TGS-REQ (RFC 4120, 3.1.1, 3.3.1 and 5.4.1).
use Rattle.std.specs.Prelude.{◌≡◌, ◌≢◌, ◌⊎◌, ℕ, pos, List, [], ◌∷◌, length, Option, Some, None, false}
use Rattle.krb_crypto.specs.BySuite.{key_octets_of}
use Rattle.krb_der_core.specs.declared.der.DerEncode.{Ghosts as EncodingOf}
use Rattle.krb_enc_parts.specs.declared.data_types.authenticators.AuthenticatorInner.{AuthenticatorInner}
use Rattle.krb_messages.specs.declared.messages.application.ApReqInner.{ApReqInner}
use Rattle.krb_messages.specs.declared.messages.requests.KdcReq.{KdcReq}
use Rattle.krb_messages.specs.declared.messages.requests.KdcReqBody.{KdcReqBody}
use Rattle.krb_types.specs.declared.data_types.checksums.Checksum.{Checksum}
use Rattle.krb_types.specs.declared.data_types.names.PrincipalName.{PrincipalName}
use Rattle.krb_types.specs.declared.data_types.pre_authentication.PaData.{PaData}
use Rattle.krb_types.specs.declared.data_types.tickets.TicketInner.{TicketInner}
use Rattle.krb_client.specs.Applications.{IsApMessage, IsAuthenticator, IsNoAuthenticator}
use Rattle.krb_client.specs.Bodies.{IsBody, IsNoBody, Wanted, request_of}
use Rattle.krb_client.specs.Sealed.{IsChecksum, IsNotSealed, IsSized, SuiteKey}
use Rattle.krb_client.specs.Timestamps.{element_of}
use Rattle.krb_client.specs.declared.requests.authenticator.Sender.{Sender}
use Rattle.krb_client.specs.declared.requests.error.RequestError.{RequestError}
use Rattle.krb_client.specs.declared.requests.error.RequestError.TheVariants as errors

-- The octets are the one encoding of the AS-REQ, version 5 and type 10, for what is wanted and by this client, with these data of pre-authentication.
pub record IsAsRequest (t : EncodingOf KdcReq) (w : Wanted) (cname : PrincipalName) (padata : Option (List PaData)) (octets : List ℕ) : Type 0 where
  pub body : KdcReqBody
  pub is_body : IsBody w (Some cname) body
  pub valid : t.is_value (request_of (pos 5) (pos 10) padata body)
  pub encodes : octets ≡ t.enc (request_of (pos 5) (pos 10) padata body)

-- One element, PA-TGS-REQ of type 1: an AP-REQ with the ticket, whose authenticator (key usage 7) is the client's and has the checksum (key usage 6) of these
-- octets, by the suite of the session key (RFC 4120, 5.2.7.1).
pub record IsPaTgsReq (applications : EncodingOf ApReqInner) (authenticators : EncodingOf AuthenticatorInner) (ticket : TicketInner) (session : SuiteKey)
    (s : Sender) (confounder body : List ℕ) (list : List PaData) : Type 0 where
  pub checksum : Checksum
  pub is_checksum : IsChecksum session (pos 6) body checksum
  pub authenticator : AuthenticatorInner
  pub is_authenticator : IsAuthenticator s (Some checksum) authenticator
  pub application : List ℕ
  pub is_application : IsApMessage applications authenticators ticket session (pos 7) false authenticator confounder application
  pub is_list : list ≡ element_of (pos 1) application ∷ []

-- why there is none: the session key has not its suite's length; else the authenticator; else its sealing
abbrev pub IsNoPaTgsReq : SuiteKey → Sender → List ℕ → RequestError → Type 0
IsNoPaTgsReq session s confounder e =
    ((e ≡ errors.Key) × (length session.octets ≢ key_octets_of session.suite))
    ⊎ (IsSized session
    × (IsNoAuthenticator s e
    ⊎ (((cksum : Option Checksum) × (a : AuthenticatorInner) × IsAuthenticator s cksum a) × IsNotSealed session confounder e)))

-- The octets are the one encoding of the TGS-REQ, version 5 and type 12, for what is wanted: its body names no client, and its pre-authentication data are
-- PA-TGS-REQ for the encoding of the body.
pub record IsTgsRequest (requests : EncodingOf KdcReq) (bodies : EncodingOf KdcReqBody) (applications : EncodingOf ApReqInner)
    (authenticators : EncodingOf AuthenticatorInner) (w : Wanted) (ticket : TicketInner) (session : SuiteKey) (s : Sender)
    (confounder octets : List ℕ) : Type 0 where
  pub body : KdcReqBody
  pub is_body : IsBody w None body
  pub padata : List PaData
  pub is_padata : IsPaTgsReq applications authenticators ticket session s confounder (bodies.enc body) padata
  pub valid : requests.is_value (request_of (pos 5) (pos 12) (Some padata) body)
  pub encodes : octets ≡ requests.enc (request_of (pos 5) (pos 12) (Some padata) body)

-- why there is none: the body; else PA-TGS-REQ
abbrev pub IsNoTgsRequest : Wanted → SuiteKey → Sender → List ℕ → RequestError → Type 0
IsNoTgsRequest w session s confounder e =
    IsNoBody w e ⊎ (((body : KdcReqBody) × IsBody w None body) × IsNoPaTgsReq session s confounder e)
