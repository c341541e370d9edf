-- Delegated credentials (RFC 4121, 4.1.1; RFC 4120, 5.8; RFC 6448).
use Rattle.std.specs.Prelude.{◌≡◌, ◌≢◌, ◌⊎◌, ◌%◌, ℕ, pos, List, Option, None, Some, length}
use Rattle.krb_accept_rules.specs.Values.{HasNone, IsTheValue}
use Rattle.krb_accept_rules.specs.declared.accepted.Accepted.{Accepted}
use Rattle.krb_der_core.specs.declared.der.DerEncode.{Ghosts as EncodingOf}
use Rattle.krb_enc_parts.specs.declared.data_types.credentials.EncKrbCredPartInner.{EncKrbCredPartInner}
use Rattle.krb_messages.specs.declared.messages.credentials.KrbCredInner.{KrbCredInner}
use Rattle.krb_types.specs.declared.data_types.encryption.EncryptedData.{EncryptedData}
use Rattle.krb_types.specs.declared.data_types.encryption.EncryptionKey.{EncryptionKey}
use Rattle.krb_accept.specs.Opening.{Encodes}
use Rattle.krb_accept.specs.TokenRefusals.{memory}
use Rattle.krb_accept.specs.WithKey.{IsSealedWith}
use Rattle.krb_accept.specs.declared.delegation.Delegated.{Delegated}
use Rattle.krb_accept.specs.declared.token_refusal.TokenRefusal.{TokenRefusal}
use Rattle.krb_accept.specs.declared.token_refusal.TokenRefusal.TheVariants as refusal

-- ---- the part of a KRB-CRED (RFC 4120, 5.8.1; key usage 14, 7.5.1)

-- it is encrypted under the client's subkey, if there is one
abbrev pub IsUnderSubkey : EncodingOf EncKrbCredPartInner → Option EncryptionKey → EncryptedData → EncKrbCredPartInner → Type 0
IsUnderSubkey t None sealed v = ⊥
IsUnderSubkey t (Some key) sealed v = IsSealedWith t key (pos 14) sealed v

-- It is in the clear, where its encryption type is 0 (RFC 6448). Else the subkey decrypts it; or else the session key does.
abbrev pub IsPart : EncodingOf EncKrbCredPartInner → Accepted → EncryptedData → EncKrbCredPartInner → Type 0
IsPart t a sealed v =
    ((sealed.etype ≡ pos 0) × IsTheValue (Encodes t sealed.cipher) v)
    ⊎ ((sealed.etype ≢ pos 0) × (IsTheValue (IsUnderSubkey t a.subkey sealed) v
    ⊎ (HasNone (IsUnderSubkey t a.subkey sealed) × IsTheValue (IsSealedWith t a.ticket.key (pos 14) sealed) v)))

-- it is in no way so
abbrev pub IsNoPart : EncodingOf EncKrbCredPartInner → Accepted → EncryptedData → Type 0
IsNoPart t a sealed =
    ((sealed.etype ≡ pos 0) × HasNone (Encodes t sealed.cipher))
    ⊎ ((sealed.etype ≢ pos 0) × HasNone (IsUnderSubkey t a.subkey sealed) × HasNone (IsSealedWith t a.ticket.key (pos 14) sealed))

-- ---- the message

-- pvno and msg-type (5.8.1)
abbrev pub HasNumbers : KrbCredInner → Type 0
HasNumbers m = (m.pvno ≡ pos 5) × (m.msg_type ≡ pos 22)

-- there is a KrbCredInfo for each ticket (5.8.1: tickets and ticket-info are of the same number, in the same order)
abbrev pub IsPaired : KrbCredInner → EncKrbCredPartInner → Type 0
IsPaired m v = length m.tickets ≡ length v.ticket_info

-- these are the credentials of the message, which has those numbers and a part that the client made for the service
pub record HasCredentials (t : EncodingOf EncKrbCredPartInner) (a : Accepted) (octets : List ℕ) (m : KrbCredInner) (d : Delegated) : Type 0 where
  pub octets_are : d.octets.items ≡ octets
  pub message_is : d.message ≡ m
  pub numbers : HasNumbers m
  pub part_is : IsPart t a m.enc_part d.part
  pub paired : IsPaired m d.part

-- it has other numbers; or no key decrypts its part; or that is of another number of tickets
abbrev pub HasNoCredentials : EncodingOf EncKrbCredPartInner → Accepted → KrbCredInner → Type 0
HasNoCredentials t a m =
    (HasNumbers m → ⊥)
    ⊎ ((HasNumbers m × IsNoPart t a m.enc_part)
    ⊎ (HasNumbers m × ((v : EncKrbCredPartInner) × IsPart t a m.enc_part v × (IsPaired m v → ⊥))))

-- the octets are the one encoding of such a message
abbrev pub IsDelegated : EncodingOf KrbCredInner → EncodingOf EncKrbCredPartInner → Accepted → List ℕ → Delegated → Type 0
IsDelegated cred t a octets d = (m : KrbCredInner) × IsTheValue (Encodes cred octets) m × HasCredentials t a octets m d

-- they are the encoding of none, or of one without credentials
abbrev pub IsNotDelegated : EncodingOf KrbCredInner → EncodingOf EncKrbCredPartInner → Accepted → List ℕ → Type 0
IsNotDelegated cred t a octets =
    HasNone (Encodes cred octets) ⊎ ((m : KrbCredInner) × IsTheValue (Encodes cred octets) m × HasNoCredentials t a m)

-- ---- where the flag of delegation (1) is set

abbrev pub MatchDelegated : EncodingOf KrbCredInner → EncodingOf EncKrbCredPartInner → Accepted → ℕ → List ℕ → Option Delegated → Type 0
MatchDelegated cred t a flags octets None = flags % 2 ≡ 0
MatchDelegated cred t a flags octets (Some d) = (flags % 2 ≢ 0) × IsDelegated cred t a octets d

abbrev pub RefusesDelegated : EncodingOf KrbCredInner → EncodingOf EncKrbCredPartInner → Accepted → ℕ → List ℕ → TokenRefusal → Type 0
RefusesDelegated cred t a flags octets e =
    (e ≡ memory) ⊎ ((e ≡ refusal.Delegation) × (flags % 2 ≢ 0) × IsNotDelegated cred t a octets)
