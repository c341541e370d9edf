-- The rules of the PAC of a ticket (MS-PAC, 2.7 and 2.8.1; MS-KILE, 3.4.5.2).
use Rattle.std.specs.Prelude.{◌≡◌, ◌⊎◌, ℕ, ℤ, pos, ◌+ℤ◌, ◌*◌, List, [], ◌∷◌, ◌++◌, Option, None, Some, Ok, Err}
use Rattle.std.specs.List.{flat_map}
use Rattle.byteorder.specs.Endian.{little_number}
use Rattle.krb_accept_rules.specs.declared.accepted.Accepted.{Accepted}
use Rattle.krb_accept_rules.specs.declared.fields.TicketFields.{TicketFields}
use Rattle.krb_der_core.specs.declared.der.DerEncode.{Ghosts as EncodingOf}
use Rattle.krb_pac.specs.Numbered.{NumberedBuffer, NumberedPacIs, NumberedPacRejected, first_numbered}
use Rattle.krb_pac.specs.declared.error.PacError.{PacError}
use Rattle.krb_pac_contents.specs.Client.{client_info_of, client_name}
use Rattle.krb_pac_contents.specs.declared.buffers.error.BufferError.{BufferError}
use Rattle.krb_pac_signatures.specs.Signatures.{Signatures, SignaturesOf, SignaturesRejected, server_message}
use Rattle.krb_pac_signatures.specs.Verdict.{IsVerdictOf}
use Rattle.krb_pac_signatures.specs.declared.error.PacSignatureError.{PacSignatureError}
use Rattle.krb_pac_signatures.specs.declared.verdict.Verdict.TheVariants as verdict
use Rattle.krb_types.specs.Times.{unix_seconds}
use Rattle.krb_types.specs.declared.data_types.authorization_data.AuthorizationDataInner.{AuthorizationDataInner}
use Rattle.krb_accept.specs.PacPlaces.{NoPacOf, TicketPac}
use Rattle.krb_accept.specs.TokenRefusals.{memory}
use Rattle.krb_accept.specs.declared.settings.PacCheck.{PacCheck}
use Rattle.krb_accept.specs.declared.settings.PacCheck.TheVariants as checks
use Rattle.krb_accept.specs.declared.token_refusal.TokenRefusal.{TokenRefusal}
use Rattle.krb_accept.specs.declared.token_refusal.TokenRefusal.TheVariants as refusal

-- ---- its server checksum (MS-PAC, 2.8.1)

-- it is there, and holds under the key
abbrev pub HasServerChecksum : Signatures → List ℕ → Type 0
HasServerChecksum s key = IsVerdictOf s.server key (server_message s) verdict.Holds

-- ---- PAC_CLIENT_INFO (MS-PAC, 2.7)

-- the octets are a PAC, whose first buffer of type 10 this is
pub record HasInfo (octets info : List ℕ) : Type 0 where
  pub pac : List NumberedBuffer
  pub buffer : NumberedBuffer
  pub is_pac : NumberedPacIs octets pac
  pub is_first : first_numbered 10 pac ≡ Some buffer
  pub is_info : client_info_of buffer.octets ≡ Ok info

-- they are none; or it has no such buffer; or this is not laid out so
abbrev pub HasNoInfo : List ℕ → Type 0
HasNoInfo octets =
    ((e : PacError) × NumberedPacRejected octets e)
    ⊎ ((pac : List NumberedBuffer) × NumberedPacIs octets pac
    × ((first_numbered 10 pac ≡ None)
    ⊎ ((buffer : NumberedBuffer) × (e : BufferError) × (first_numbered 10 pac ≡ Some buffer) × (client_info_of buffer.octets ≡ Err e))))

-- ASCII text in UTF-16, the lowest octet first
abbrev pub wide : List ℕ → List ℕ
wide text = flat_map (λ octet. octet ∷ 0 ∷ []) text

-- components with `/` (47) between them
abbrev pub joined : List (List ℕ) → List ℕ
joined [] = []
joined (first ∷ rest) = first ++ flat_map (λ component. 47 ∷ component) rest

-- So many whole seconds are the FILETIME, in units of 100 ns from 1601-01-01 on (MS-DTYP, 2.3.3). 1970-01-01 is 11,644,473,600 seconds after it.
abbrev pub IsTimed : ℕ → ℤ → Type 0
IsTimed file_time seconds = (n : ℕ) × (file_time ≡ 10000000 * n) × (pos n ≡ (seconds +ℤ pos 11644473600))

-- it has the ticket's authtime, and the client's name
abbrev pub NamesClient : TicketFields → List ℕ → Type 0
NamesClient ticket info =
    IsTimed (little_number 8 info) (unix_seconds ticket.auth_time) × (client_name info ≡ wide (joined ticket.client.name_string))

-- ---- its rules

-- the octets are a PAC of the ticket's client, whose server checksum holds under the key
pub record TakesPac (key : List ℕ) (ticket : TicketFields) (octets : List ℕ) : Type 0 where
  pub signatures : Signatures
  pub info : List ℕ
  pub has_signatures : SignaturesOf octets signatures
  pub has_info : HasInfo octets info
  pub holds : HasServerChecksum signatures key
  pub names_client : NamesClient ticket info

-- Why not: it is no PAC, or has no PAC_CLIENT_INFO; its server checksum does not hold; it is another client's, or of another time.
pub data RefusesPac (key : List ℕ) (ticket : TicketFields) (octets : List ℕ) (e : TokenRefusal) : Type 0 where
  no_memory : e ≡ memory → RefusesPac key ticket octets e
  no_signatures : e ≡ refusal.PacForm → (why : PacSignatureError) → SignaturesRejected octets why → RefusesPac key ticket octets e
  no_info : e ≡ refusal.PacForm → HasNoInfo octets → RefusesPac key ticket octets e
  no_checksum : e ≡ refusal.PacChecksum → (s : Signatures) → SignaturesOf octets s → (HasServerChecksum s key → ⊥) → RefusesPac key ticket octets e
  no_client : e ≡ refusal.PacClient → (s : Signatures) (info : List ℕ) → SignaturesOf octets s → HasInfo octets info → HasServerChecksum s key
      → (NamesClient ticket info → ⊥) → RefusesPac key ticket octets e

-- ---- what the service asks for

-- this PAC of the ticket is verified and handed out
pub record HasVerified (t : EncodingOf (List AuthorizationDataInner)) (key : List ℕ) (a : Accepted) (octets : List ℕ) : Type 0 where
  pub stands : TicketPac t a.ticket.authorization_data octets
  pub takes : TakesPac key a.ticket octets

-- The rules by which a client is let in, and the PAC that is handed out of it. Where PACs are ignored, none is. Else none stands where nobody verifies
-- it, in the ticket or the authenticator; and the one that the ticket has is verified.
abbrev pub KeepsPac : EncodingOf (List AuthorizationDataInner) → PacCheck → List ℕ → Accepted → Option (List ℕ) → Type 0
KeepsPac t checks.Ignored key a pac = pac ≡ None
KeepsPac t checks.Checked key a pac =
    NoPacOf t a.authorization_data
    × (((pac ≡ None) × NoPacOf t a.ticket.authorization_data) ⊎ ((octets : List ℕ) × (pac ≡ Some octets) × HasVerified t key a octets))
KeepsPac t checks.Required key a pac =
    NoPacOf t a.authorization_data × ((octets : List ℕ) × (pac ≡ Some octets) × HasVerified t key a octets)

-- no PAC stands, nor may stand, where nobody verifies it
abbrev pub IsPlaced : EncodingOf (List AuthorizationDataInner) → Accepted → Type 0
IsPlaced t a =
    NoPacOf t a.authorization_data
    × (NoPacOf t a.ticket.authorization_data ⊎ ((octets : List ℕ) × TicketPac t a.ticket.authorization_data octets))

-- Why they are broken, by the first: a PAC stands, or may stand, where nobody verifies it; there is none, and the service asks for one; or the ticket's breaks a rule.
pub data BreaksPac (t : EncodingOf (List AuthorizationDataInner)) (check : PacCheck) (key : List ℕ) (a : Accepted) (e : TokenRefusal) : Type 0 where
  for_memory : e ≡ memory → BreaksPac t check key a e
  at_place : e ≡ refusal.PacPlace → (check ≡ checks.Ignored → ⊥) → (IsPlaced t a → ⊥) → BreaksPac t check key a e
  missing : e ≡ refusal.PacMissing → check ≡ checks.Required → NoPacOf t a.authorization_data → NoPacOf t a.ticket.authorization_data
      → BreaksPac t check key a e
  broken : (check ≡ checks.Ignored → ⊥) → NoPacOf t a.authorization_data → (octets : List ℕ) → TicketPac t a.ticket.authorization_data octets
      → RefusesPac key a.ticket octets e → BreaksPac t check key a e
