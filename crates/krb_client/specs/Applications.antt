-- AP-REQs and their authenticators (RFC 4120, 3.2.2 and 5.5.1; RFC 4121, 4.1.1).
use Rattle.std.specs.Prelude.{◌≡◌, ◌≢◌, ◌⊎◌, ℕ, ◌%◌, ℤ, pos, List, [], ◌∷◌, ◌++◌, length, Option, Some, None, Bool, if◌then◌else◌}
use Rattle.std.specs.Int.{to_le_bytes, w32}
use Rattle.krb_crypto.specs.BySuite.{key_octets_of}
use Rattle.krb_crypto.specs.Suites.{etype}
use Rattle.krb_der_core.specs.BitString.{Bits}
use Rattle.krb_der_core.specs.GeneralizedTime.{Time}
use Rattle.krb_der_core.specs.declared.der.DerEncode.{Ghosts as EncodingOf}
use Rattle.krb_build.specs.Flags.{AreFlags}
use Rattle.krb_build.specs.Times.{IsTimeAt}
use Rattle.krb_enc_parts.specs.declared.data_types.authenticators.AuthenticatorInner.{AuthenticatorInner}
use Rattle.krb_messages.specs.declared.messages.application.ApReqInner.{ApReqInner}
use Rattle.krb_types.specs.declared.data_types.checksums.Checksum.{Checksum}
use Rattle.krb_types.specs.declared.data_types.encryption.EncryptedData.{EncryptedData}
use Rattle.krb_types.specs.declared.data_types.encryption.EncryptionKey.{EncryptionKey}
use Rattle.krb_types.specs.declared.data_types.names.PrincipalName.{PrincipalName}
use Rattle.krb_types.specs.declared.data_types.tickets.TicketInner.{TicketInner}
use Rattle.krb_client.specs.Errors.{IsTimeError}
use Rattle.krb_client.specs.Sealed.{IsNotSealed, IsSealedPart, IsSized, SuiteKey, checksum_value, key_of, key_value}
use Rattle.krb_client.specs.declared.requests.application.GssChecksum.{GssChecksum}
use Rattle.krb_client.specs.declared.requests.authenticator.Fields.{Fields}
use Rattle.krb_client.specs.declared.requests.authenticator.Sender.{Sender}
use Rattle.krb_client.specs.declared.requests.error.RequestError.{RequestError}
use Rattle.krb_client.specs.declared.requests.error.RequestError.TheVariants as errors
use Rattle.krb_client.specs.declared.requests.key.LentKey.{LentKey}

-- ---- authenticators

abbrev pub optional_key : Option LentKey → Option EncryptionKey
optional_key None = None
optional_key (Some k) = Some (key_value (pos (etype k.suite.now)) k.octets.now)

abbrev pub optional_number : Option ℕ → Option ℤ
optional_number None = None
optional_number (Some n) = Some (pos n)

-- a key, where there is one, has its suite's length; or there is one that has not
abbrev pub IsSizedOption : Option LentKey → Type 0
IsSizedOption None = Unit {0}
IsSizedOption (Some k) = IsSized (key_of k)

abbrev pub HasOtherSize : Option LentKey → Type 0
HasOtherSize None = ⊥
HasOtherSize (Some k) = length k.octets.now ≢ key_octets_of k.suite.now

-- Authenticator: version 5, and no authorization data
abbrev pub authenticator_of : List ℕ → PrincipalName → Option Checksum → ℤ → Time → Option EncryptionKey → Option ℤ → AuthenticatorInner
authenticator_of crealm cname cksum cusec ctime subkey seq_number = record {
  authenticator_vno = pos 5;
  crealm = crealm;
  cname = cname;
  cksum = record { 0 = cksum };
  cusec = cusec;
  ctime = ctime;
  subkey = record { 0 = subkey };
  seq_number = record { 0 = seq_number };
  authorization_data = record { 0 = None };
}

-- the fields of this client's authenticators that take memory or may be refused
pub record AreSenderFields (s : Sender) (f : Fields) : Type 0 where
  pub is_time : IsTimeAt s.seconds s.microseconds f.ctime f.cusec
  pub key_size : IsSizedOption s.subkey
  pub subkey_is : f.subkey ≡ optional_key s.subkey
  pub crealm_is : f.crealm ≡ s.crealm.now
  pub cname_is : f.cname ≡ s.cname.now

-- the authenticator of this client at this time, with its subkey and number and this checksum
pub record IsAuthenticator (s : Sender) (cksum : Option Checksum) (a : AuthenticatorInner) : Type 0 where
  pub ctime : Time
  pub cusec : ℤ
  pub is_time : IsTimeAt s.seconds s.microseconds ctime cusec
  pub key_size : IsSizedOption s.subkey
  pub is_value : a ≡ authenticator_of s.crealm.now s.cname.now cksum cusec ctime (optional_key s.subkey) (optional_number s.seq_number)

-- why there is none: there is no such time; else the subkey has not its suite's length
abbrev pub IsNoAuthenticator : Sender → RequestError → Type 0
IsNoAuthenticator s e =
    IsTimeError s.seconds s.microseconds e
    ⊎ (((ctime : Time) × (cusec : ℤ) × IsTimeAt s.seconds s.microseconds ctime cusec) × (e ≡ errors.Subkey) × HasOtherSize s.subkey)

-- ---- AP-REQs

-- mutual-required is option 2 (RFC 4120, 5.5.1)
abbrev pub options_of : Bool → List ℕ
options_of mutual_required = if mutual_required then 2 ∷ [] else []

-- AP-REQ: version 5, type 14
abbrev pub ap_req_of : Bits → TicketInner → EncryptedData → ApReqInner
ap_req_of options ticket part = record { pvno = pos 5; msg_type = pos 14; ap_options = options; ticket = ticket; authenticator = part }

-- The octets are the one encoding of an AP-REQ with this ticket, in which this authenticator is sealed under the key for this usage.
pub record IsApMessage (requests : EncodingOf ApReqInner) (authenticators : EncodingOf AuthenticatorInner) (ticket : TicketInner) (k : SuiteKey) (usage : ℤ)
    (mutual_required : Bool) (a : AuthenticatorInner) (confounder octets : List ℕ) : Type 0 where
  pub part : EncryptedData
  pub is_sealed : IsSealedPart authenticators k usage confounder a part
  pub options : Bits
  pub are_options : AreFlags (options_of mutual_required) options
  pub valid : requests.is_value (ap_req_of options ticket part)
  pub encodes : octets ≡ requests.enc (ap_req_of options ticket part)

-- ---- for a service, with the checksum of the GSS-API

-- a number as four octets, the lowest first
abbrev pub number : ℕ → List ℕ
number n = to_le_bytes w32 n

-- the checksum 0x8003: the length 16, the MD5 of the channel bindings, and the flags (RFC 4121, 4.1.1)
abbrev pub gss_checksum : GssChecksum → Checksum
gss_checksum g = checksum_value (pos 0x8003) (number 16 ++ g.bindings ++ number g.flags)

abbrev pub optional_gss : Option GssChecksum → Option Checksum
optional_gss None = None
optional_gss (Some g) = Some (gss_checksum g)

-- the flag of delegation (1) is set
abbrev pub Delegates : Option GssChecksum → Type 0
Delegates None = ⊥
Delegates (Some g) = g.flags % 2 ≢ 0

abbrev pub DelegatesNot : Option GssChecksum → Type 0
DelegatesNot None = Unit {0}
DelegatesNot (Some g) = g.flags % 2 ≡ 0

-- an AP-REQ (key usage 11) with an authenticator of this client
pub record IsApRequest (requests : EncodingOf ApReqInner) (authenticators : EncodingOf AuthenticatorInner) (ticket : TicketInner) (k : SuiteKey)
    (gss : Option GssChecksum) (mutual_required : Bool) (s : Sender) (confounder octets : List ℕ) : Type 0 where
  pub no_delegation : DelegatesNot gss
  pub authenticator : AuthenticatorInner
  pub is_authenticator : IsAuthenticator s (optional_gss gss) authenticator
  pub is_message : IsApMessage requests authenticators ticket k (pos 11) mutual_required authenticator confounder octets

-- why there is none: the flag of delegation; else the authenticator; else its sealing
abbrev pub IsNoApRequest : SuiteKey → Option GssChecksum → Sender → List ℕ → RequestError → Type 0
IsNoApRequest k gss s confounder e =
    ((e ≡ errors.Delegation) × Delegates gss)
    ⊎ (DelegatesNot gss
    × (IsNoAuthenticator s e
    ⊎ (((a : AuthenticatorInner) × IsAuthenticator s (optional_gss gss) a) × IsNotSealed k confounder e)))
