-- A credential of a cache as a ticket and what goes along with it (MIT Kerberos, "Credential cache file format"; RFC 4120, 5.8.1).
use Rattle.std.specs.Prelude.{◌≡◌, ◌≢◌, ℕ, ℤ, pos, nat_lt, Bool, List, [], ◌∷◌, Option, Some, None, Result, Ok, Err, map, if◌then◌else◌}
use Rattle.std.specs.List.{list_all}
use Rattle.byteorder.specs.Endian.{big_bytes}
use Rattle.krb_files.specs.Ccache.{Credential, TypedPrincipal}
use Rattle.krb_files.specs.declared.ccache.credential.Times.{Times}
use Rattle.krb_der_core.specs.BitString.{Bits}
use Rattle.krb_der_core.specs.GeneralizedTime.{Time, IsRealTime}
use Rattle.krb_der_core.specs.Integer.{whole_number}
use Rattle.krb_files.specs.FieldReading.{◌>>=◌, Typed}
use Rattle.krb_enc_parts.specs.declared.data_types.credentials.KrbCredInfo.{KrbCredInfo}
use Rattle.krb_types.specs.declared.data_types.addresses.HostAddress.{HostAddress}
use Rattle.krb_types.specs.declared.data_types.names.PrincipalName.{PrincipalName}
use Rattle.krb_types.specs.Times.{unix_seconds}
use Rattle.krb_file_tools.specs.Kirbi.{each_of}
use Rattle.krb_file_tools.specs.declared.convert.error.ConvertError.{ConvertError}
use Rattle.krb_file_tools.specs.declared.convert.error.ConvertError.TheVariants as errors

-- a number of so many octets as an Int32: they are its two's complement (X.690, 8.3)
abbrev pub integer_at : ℕ → ℕ → ℤ
integer_at octets number = whole_number (big_bytes octets number)

-- octets as a KerberosString (RFC 4120, 5.2.1), which has none past 127
abbrev pub is_text : List ℕ → Bool
is_text octets = list_all (λ o. nat_lt o 128) octets

abbrev pub text_from : List ℕ → Result (List ℕ) ConvertError
text_from octets = if is_text octets then Ok octets else Err errors.Name

-- "Principal format": the realm, and the PrincipalName (RFC 4120, 5.2.2)
abbrev pub name_from : TypedPrincipal → Result (List ℕ × PrincipalName) ConvertError
name_from p = do
  realm ← text_from p.principal.realm
  components ← each_of text_from p.principal.components
  Ok (realm, record { name_type = integer_at 4 p.name_type; name_string = components })

-- "Credential format": client and server
abbrev pub names_from : Credential → Result ((List ℕ × PrincipalName) × (List ℕ × PrincipalName)) ConvertError
names_from c = name_from c.client >>= λ client. name_from c.server >>= λ server. Ok (client, server)

-- "Credential format": a time in seconds since 1970, absent where they are 0
abbrev pub IsTimeOf : ℕ → Option Time → Type 0
IsTimeOf seconds None = seconds ≡ 0
IsTimeOf seconds (Some t) = (seconds ≢ 0) × (IsRealTime t × (unix_seconds t ≡ pos seconds))

-- no KerberosTime, present or absent, is this time
abbrev pub HasNoTime : ℕ → Type 0
HasNoTime seconds = (o : Option Time) → IsTimeOf seconds o → ⊥

-- "Credential format": ticket_flags of 32 bits, of which the most significant is bit 0 of TicketFlags (RFC 4120, 5.2.8 and 5.3)
abbrev pub flag_bits : ℕ → Bits
flag_bits flags = record { octets = big_bytes 4 flags; spare = 0 }

-- "Credential format", address: a HostAddress (RFC 4120, 5.2.5)
abbrev pub host_address : Typed → HostAddress
host_address a = record { addr_type = integer_at 2 a.kind; address = a.octets }

-- "Credential format", addresses: caddr, absent where there are none
abbrev pub addresses_of : List Typed → Option (List HostAddress)
addresses_of [] = None
addresses_of (x ∷ xs) = Some (map host_address (x ∷ xs))

-- these four times of a KrbCredInfo are those of a credential
pub record AreTimesOf (times : Times) (auth start end till : Option Time) : Type 0 where
  pub authtime : IsTimeOf times.authtime auth
  pub starttime : IsTimeOf times.starttime start
  pub endtime : IsTimeOf times.endtime end
  pub renew_till : IsTimeOf times.renew_till till

-- no times of a KrbCredInfo are
abbrev pub HasNoTimes : Times → Type 0
HasNoTimes times = (a s e r : Option Time) → AreTimesOf times a s e r → ⊥

-- this goes along with the ticket of a credential
pub record IsInfoOf (c : Credential) (info : KrbCredInfo) : Type 0 where
  pub names : (List ℕ × PrincipalName) × (List ℕ × PrincipalName)
  pub named : names_from c ≡ Ok names
  pub prealm : info.prealm.0 ≡ Some names.0.0
  pub pname : info.pname.0 ≡ Some names.0.1
  pub srealm : info.srealm.0 ≡ Some names.1.0
  pub sname : info.sname.0 ≡ Some names.1.1
  pub keytype : info.key.key_type ≡ integer_at 2 c.etype
  pub keyvalue : info.key.key_value ≡ c.key
  pub flags : info.flags.0 ≡ Some (flag_bits c.flags)
  pub times : AreTimesOf c.times info.auth_time.0 info.start_time.0 info.end_time.0 info.renew_till.0
  pub caddr : info.caddr.0 ≡ addresses_of c.addresses

-- the first rule that a credential breaks, so that nothing goes along with its ticket
pub data InfoError (c : Credential) : ConvertError → Type 0 where
  no_name : (e : ConvertError) → names_from c ≡ Err e → InfoError c e
  no_time : (names : (List ℕ × PrincipalName) × (List ℕ × PrincipalName)) → names_from c ≡ Ok names → HasNoTimes c.times → InfoError c errors.Time
