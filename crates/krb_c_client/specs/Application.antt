-- The request for a service (RFC 4120, 3.2.2; RFC 4121, 4.1.1).
use Rattle.std.specs.Prelude.{◌≡◌, ◌≢◌, ◌⊎◌, ℕ, List, [], length, take, replicate, if◌then◌else◌, Option, Some, None, Result, Ok, Err}
use Rattle.krb_client.specs.Applications.{IsApRequest, IsNoApRequest}
use Rattle.krb_client.specs.Errors.{IsMemoryOr}
use Rattle.krb_client.specs.Sealed.{SuiteKey}
use Rattle.krb_client.specs.declared.requests.application.GssChecksum.{GssChecksum}
use Rattle.krb_client.specs.declared.requests.authenticator.Sender.{Sender}
use Rattle.krb_client.specs.declared.requests.error.RequestError.{RequestError}
use Rattle.krb_client.specs.declared.requests.key.LentKey.{LentKey}
use Rattle.krb_crypto.specs.BySuite.{confounder_octets_of}
use Rattle.krb_crypto.specs.declared.cipher_suite.CipherSuite.{CipherSuite}
use Rattle.krb_der.specs.Whole.{Encodes}
use Rattle.krb_der_core.specs.declared.der.DerEncode.{Ghosts as EncodingOf}
use Rattle.krb_enc_parts.specs.declared.data_types.authenticators.AuthenticatorInner.{AuthenticatorInner}
use Rattle.krb_messages.specs.declared.messages.application.ApReqInner.{ApReqInner}
use Rattle.krb_types.specs.declared.data_types.names.PrincipalName.{PrincipalName}
use Rattle.krb_types.specs.declared.data_types.tickets.TicketInner.{TicketInner}
use Rattle.std.specs.declared.alloc.Global.{Global}
use Rattle.std.specs.Prelude.{Vec}
use Rattle.krb_c_calls.specs.Numbers.{etype_number}
use Rattle.krb_c_calls.specs.declared.call_error.CallError.{CallError}
use Rattle.krb_c_calls.specs.declared.call_error.CallError.TheVariants as calls
use Rattle.krb_c_client.specs.Means.{IsNoTicket}
use Rattle.krb_c_client.specs.Names.{HasName, IsNamed, IsNoName}
use Rattle.krb_c_client.specs.Refusals.{request_refusal}
use Rattle.krb_c_client.specs.Settings.{has_setting, optional_number}
use Rattle.krb_c_client.specs.Suites.{IsNoSuite}
use Rattle.krb_c_client.specs.Telling.{TellsOctets}
use Rattle.krb_c_client.specs.declared.application.ApAsked.{ApAsked}
use Rattle.krb_c_client.specs.declared.records.ApTermsRecord.{ApTermsRecord}
use Rattle.krb_c_client.specs.declared.refusal.Refusal.{Refusal}
use Rattle.krb_c_client.specs.declared.refusal.Refusal.TheVariants as refusals

-- how it is asked; the client as text, the encoding of the ticket, the octets of its session key and of the subkey, the hash of the bindings, random octets
pub record ApInputs : Type 0 where
  pub terms : ApTermsRecord
  pub client : List ℕ
  pub ticket : List ℕ
  pub session_key : List ℕ
  pub subkey : List ℕ
  pub bindings : List ℕ
  pub random : List ℕ

abbrev pub ap_inputs : ApTermsRecord → List ℕ → List ℕ → List ℕ → List ℕ → List ℕ → List ℕ → ApInputs
ap_inputs terms client ticket session_key subkey bindings random = record {
  terms = terms;
  client = client;
  ticket = ticket;
  session_key = session_key;
  subkey = subkey;
  bindings = bindings;
  random = random;
}

abbrev pub ap_inputs_of : ApAsked → ApInputs
ap_inputs_of a = ap_inputs a.terms a.client.now a.ticket.now a.session_key.now a.subkey.now a.bindings.now a.random.now

-- ---- its parts

-- the MD5 of the bindings, or zeros where there are none (RFC 4121, 4.1.1.2)
abbrev pub IsBindings : List ℕ → List ℕ → Type 0
IsBindings octets hash = ((octets ≡ []) × (hash ≡ replicate 16 0)) ⊎ ((octets ≢ []) × (length octets ≡ 16) × (hash ≡ octets))

abbrev pub IsNoBindings : List ℕ → CallError → Type 0
IsNoBindings octets e = (e ≡ calls.SeedSize) × (octets ≢ []) × (length octets ≢ 16)

-- the first of the random octets, as many as a confounder of the suite has
abbrev pub confounder_in : CipherSuite → List ℕ → List ℕ
confounder_in suite random = take (confounder_octets_of suite) random

-- the checksum 0x8003, where the setting is there (KRB_AP_GSS)
abbrev pub gss_of : ApTermsRecord → List ℕ → Option GssChecksum
gss_of t bindings = if has_setting t.settings 2 then Some (record { bindings = bindings; flags = t.gss_flags }) else None

-- none of no octets
abbrev pub IsSubkeyOf : CipherSuite → List ℕ → Option LentKey → Type 0
IsSubkeyOf suite octets None = octets ≡ []
IsSubkeyOf suite octets (Some lent) = (octets ≢ []) × (lent.suite.now ≡ suite) × (lent.octets.now ≡ octets)

pub record IsSenderOf (i : ApInputs) (realm : List ℕ) (name : PrincipalName) (suite : CipherSuite) (s : Sender) : Type 0 where
  pub crealm : s.crealm.now ≡ realm
  pub cname : s.cname.now ≡ name
  pub seconds : s.seconds ≡ i.terms.seconds
  pub microseconds : s.microseconds ≡ i.terms.microseconds
  pub subkey : IsSubkeyOf suite i.subkey s.subkey
  pub number : s.seq_number ≡ optional_number i.terms.settings 1 i.terms.sequence_number

abbrev pub session_of : ApInputs → CipherSuite → SuiteKey
session_of i suite = record { suite = suite; octets = i.session_key }

-- ---- the request

-- the AP-REQ of these parts; mutual-required where the setting is there (KRB_AP_MUTUAL)
pub record IsRequestOf (requests : EncodingOf ApReqInner) (authenticators : EncodingOf AuthenticatorInner) (i : ApInputs) (realm : List ℕ) (name : PrincipalName)
    (ticket : TicketInner) (suite : CipherSuite) (bindings octets : List ℕ) : Type 0 where
  pub sender : Sender
  pub is_sender : IsSenderOf i realm name suite sender
  pub is_request : IsApRequest requests authenticators ticket (session_of i suite) (gss_of i.terms bindings) (has_setting i.terms.settings 4) sender
      (confounder_in suite i.random) octets

pub record IsNoRequestOf (i : ApInputs) (realm : List ℕ) (name : PrincipalName) (suite : CipherSuite) (bindings : List ℕ) (r : Refusal) : Type 0 where
  pub sender : Sender
  pub is_sender : IsSenderOf i realm name suite sender
  pub error : RequestError
  pub is_no_request : IsMemoryOr error (IsNoApRequest (session_of i suite) (gss_of i.terms bindings) sender (confounder_in suite i.random) error)
  pub refusal_is : r ≡ request_refusal error

-- its parts, of what is asked
pub record AreParts (tickets : EncodingOf TicketInner) (i : ApInputs) (realm : List ℕ) (name : PrincipalName) (ticket : TicketInner) (suite : CipherSuite)
    (bindings : List ℕ) : Type 0 where
  pub sixteen : length i.random ≡ 16
  pub are_bindings : IsBindings i.bindings bindings
  pub suite_is : etype_number suite ≡ i.terms.session_etype
  pub is_client : IsNamed i.client i.terms.client_type realm name
  pub ticket_is : Encodes tickets i.ticket ticket

pub record IsRequested (tickets : EncodingOf TicketInner) (requests : EncodingOf ApReqInner) (authenticators : EncodingOf AuthenticatorInner) (i : ApInputs)
    (octets : List ℕ) : Type 0 where
  pub realm : List ℕ
  pub name : PrincipalName
  pub ticket : TicketInner
  pub suite : CipherSuite
  pub bindings : List ℕ
  pub are_parts : AreParts tickets i realm name ticket suite bindings
  pub is_request : IsRequestOf requests authenticators i realm name ticket suite bindings octets

-- there are 16 random octets, and a hash of bindings or none
abbrev pub HaveBindings : ApInputs → Type 0
HaveBindings i = (length i.random ≡ 16) × ((bindings : List ℕ) × IsBindings i.bindings bindings)

-- and the encryption type has a suite
abbrev pub HaveSuite : ApInputs → Type 0
HaveSuite i = HaveBindings i × ((suite : CipherSuite) × (etype_number suite ≡ i.terms.session_etype))

-- and the client has a name
abbrev pub HaveClient : ApInputs → Type 0
HaveClient i = HaveSuite i × HasName i.client i.terms.client_type

-- The first of these that is not so; or the engine refuses; or an allocation failed.
pub data IsNotRequested (tickets : EncodingOf TicketInner) (i : ApInputs) (r : Refusal) : Type 0 where
  no_random : length i.random ≢ 16 → r ≡ refusals.Failed calls.SeedSize → IsNotRequested tickets i r
  no_bindings : (e : CallError) → length i.random ≡ 16 → IsNoBindings i.bindings e → r ≡ refusals.Failed e → IsNotRequested tickets i r
  no_suite : (e : CallError) → HaveBindings i → IsNoSuite i.terms.session_etype e → r ≡ refusals.Failed e → IsNotRequested tickets i r
  no_client : (e : CallError) → HaveSuite i → IsNoName i.client e → r ≡ refusals.Failed e → IsNotRequested tickets i r
  no_ticket : (e : CallError) → HaveClient i → IsNoTicket tickets i.ticket e → r ≡ refusals.Failed e → IsNotRequested tickets i r
  no_request : (realm : List ℕ) (name : PrincipalName) (ticket : TicketInner) (suite : CipherSuite) (bindings : List ℕ)
      → AreParts tickets i realm name ticket suite bindings → IsNoRequestOf i realm name suite bindings r → IsNotRequested tickets i r

abbrev pub IsApOutcome : EncodingOf TicketInner → EncodingOf ApReqInner → EncodingOf AuthenticatorInner → ApInputs → Result (Vec ℕ Global) Refusal → Type 0
IsApOutcome tickets requests authenticators i (Ok octets) = IsRequested tickets requests authenticators i octets.items
IsApOutcome tickets requests authenticators i (Err r) = IsNotRequested tickets i r

pub record IsApCall (tickets : EncodingOf TicketInner) (requests : EncodingOf ApReqInner) (authenticators : EncodingOf AuthenticatorInner) (i : ApInputs)
    (rule : ℕ) (out_before out_after : List ℕ) (size status : ℕ) : Type 0 where
  pub outcome : Result (Vec ℕ Global) Refusal
  pub is_outcome : IsApOutcome tickets requests authenticators i outcome
  pub tells : TellsOctets outcome rule out_before out_after size status
