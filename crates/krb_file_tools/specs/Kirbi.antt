-- A KRB-CRED in the clear as a credential cache (RFC 4120, 5.8.1; MIT Kerberos, "Credential cache file format").
use Rattle.std.specs.Prelude.{◌==◌, ℕ, suc, ◌*◌, ◌-◌, ℤ, pos, negsuc, nat_lt, List, [], ◌∷◌, Option, Some, None, Result, Ok, Err, length, unwrap_or, if◌then◌else◌}
use Rattle.byteorder.specs.Endian.{big_number}
use Rattle.krb_files.specs.Ccache.{Ccache, Credential, TypedPrincipal}
use Rattle.krb_files.specs.declared.ccache.credential.Times.{Times}
use Rattle.krb_files.specs.declared.ccache.view.CcacheVersion.TheVariants.{Four}
use Rattle.krb_der_core.specs.BitString.{Bits}
use Rattle.krb_der_core.specs.GeneralizedTime.{Time}
use Rattle.krb_files.specs.FieldReading.{◌>>=◌, Typed}
use Rattle.krb_enc_parts.specs.declared.data_types.credentials.KrbCredInfo.{KrbCredInfo}
use Rattle.krb_types.specs.declared.data_types.addresses.HostAddress.{HostAddress}
use Rattle.krb_types.specs.declared.data_types.names.PrincipalName.{PrincipalName}
use Rattle.krb_types.specs.declared.data_types.tickets.TicketInner.{TicketInner}
use Rattle.krb_types.specs.Times.{unix_seconds}
use Rattle.krb_file_tools.specs.declared.convert.error.ConvertError.{ConvertError}
use Rattle.krb_file_tools.specs.declared.convert.error.ConvertError.TheVariants as errors

-- the value, or this error where there is none
abbrev pub or_error : {A : Type 0} → Option A → ConvertError → Result A ConvertError
or_error (Some x) e = Ok x
or_error None e = Err e

-- what each item becomes, in their order, or the first error
abbrev pub each_of : {A B : Type 0} → (A → Result B ConvertError) → List A → Result (List B) ConvertError
each_of f [] = Ok []
each_of f (x ∷ xs) = f x >>= λ y. each_of f xs >>= λ ys. Ok (y ∷ ys)

-- the same of each item of one list with that at its place in another
abbrev pub each_pair_of : {A B C : Type 0} → (A → B → Result C ConvertError) → List A → List B → Result (List C) ConvertError
each_pair_of f [] ys = Ok []
each_pair_of f (x ∷ xs) [] = Ok []
each_pair_of f (x ∷ xs) (y ∷ ys) = f x y >>= λ z. each_pair_of f xs ys >>= λ zs. Ok (z ∷ zs)

-- an Int32 (RFC 4120, 5.2.4) as two's complement, in a field of twice so many numbers
abbrev pub complement_of : ℕ → ℤ → Option ℕ
complement_of half (pos n) = if nat_lt n half then Some n else None
complement_of half (negsuc n) = if nat_lt n half then Some (2 * half - suc n) else None

-- seconds in a field of 32 bits
abbrev pub second_of : ℤ → Result ℕ ConvertError
second_of (pos n) = if nat_lt n 4294967296 then Ok n else Err errors.Time
second_of (negsuc n) = Err errors.Time

-- "Credential format": a time in seconds since 1970, 0 where there is none
abbrev pub seconds_of : Option Time → Result ℕ ConvertError
seconds_of None = Ok 0
seconds_of (Some t) = second_of (unix_seconds t)

-- "Credential format": ticket_flags of 32 bits, of which the most significant is bit 0 of TicketFlags (RFC 4120, 5.2.8 and 5.3)
abbrev pub flags_number : Option Bits → ℕ
flags_number None = 0
flags_number (Some flags) = big_number 4 flags.octets

-- "Principal format": a realm and a PrincipalName (RFC 4120, 5.2.2)
abbrev pub principal_from : List ℕ → PrincipalName → Result TypedPrincipal ConvertError
principal_from realm name = or_error (complement_of 2147483648 name.name_type) errors.NameType
    >>= λ name_type. Ok (record { name_type = name_type; principal = record { realm = realm; components = name.name_string } })

-- "Credential format", client
abbrev pub client_from : Option (List ℕ) → Option PrincipalName → Result TypedPrincipal ConvertError
client_from prealm pname = do
  realm ← or_error prealm errors.NoPrealm
  name ← or_error pname errors.NoPname
  principal_from realm name

-- "Credential format": authtime, starttime, endtime and renew_till
abbrev pub times_from : Option Time → Option Time → Option Time → Option Time → Result Times ConvertError
times_from authtime starttime endtime renew_till = do
  a ← seconds_of authtime
  s ← seconds_of starttime
  e ← seconds_of endtime
  r ← seconds_of renew_till
  Ok (record { authtime = a; starttime = s; endtime = e; renew_till = r })

-- "Credential format", address: a HostAddress (RFC 4120, 5.2.5)
abbrev pub address_from : HostAddress → Result Typed ConvertError
address_from a = or_error (complement_of 32768 a.addr_type) errors.AddressType >>= λ kind. Ok (record { kind = kind; octets = a.address })

abbrev pub addresses_from : Option (List HostAddress) → Result (List Typed) ConvertError
addresses_from None = Ok []
addresses_from (Some addresses) = each_of address_from addresses

-- "Credential format": client and server of a ticket. Where srealm or sname is absent, the ticket has it.
abbrev pub parties_from : TicketInner → KrbCredInfo → Result (TypedPrincipal × TypedPrincipal) ConvertError
parties_from ticket info = do
  client ← client_from info.prealm.0 info.pname.0
  server ← principal_from (unwrap_or info.srealm.0 ticket.realm) (unwrap_or info.sname.0 ticket.sname)
  Ok (client, server)

-- "Credential format": the encryption type of the key, the times and the addresses
abbrev pub rest_from : KrbCredInfo → Result (ℕ × Times × List Typed) ConvertError
rest_from info = do
  etype ← or_error (complement_of 32768 info.key.key_type) errors.KeyType
  times ← times_from info.auth_time.0 info.start_time.0 info.end_time.0 info.renew_till.0
  addresses ← addresses_from info.caddr.0
  Ok (etype, times, addresses)

-- "Credential format": of a ticket, its octets, and what goes along with it (RFC 4120, 5.8.1: KrbCredInfo). There are no authorization data and no
-- second ticket.
abbrev pub credential_from : List ℕ → TicketInner → KrbCredInfo → Result Credential ConvertError
credential_from octets ticket info = do
  (client, server) ← parties_from ticket info
  (etype, times, addresses) ← rest_from info
  Ok (record {
    client = client;
    server = server;
    etype = etype;
    key = info.key.key_value;
    times = times;
    is_skey = 0;
    flags = flags_number info.flags.0;
    addresses = addresses;
    authorization_data = [];
    ticket = octets;
    second_ticket = [];
  })

-- version 4 with an empty header; the client of the first credential is the default principal
abbrev pub cache_with : List Credential → Result Ccache ConvertError
cache_with [] = Err errors.NoTicket
cache_with (c ∷ cs) = Ok (record { version = Four; header = []; principal = c.client; credentials = c ∷ cs })

-- the credentials of tickets, by what each one's octets are, and of what goes along with them
unfoldable pub paired_from : (TicketInner → List ℕ) → List TicketInner → List KrbCredInfo → Result (List Credential) ConvertError
paired_from octets_of tickets infos =
    if length tickets == length infos then each_pair_of (λ ticket info. credential_from (octets_of ticket) ticket info) tickets infos else Err errors.TicketInfo

-- the cache of tickets, by what each one's octets are, and of what goes along with them
abbrev pub cache_from : (TicketInner → List ℕ) → List TicketInner → List KrbCredInfo → Result Ccache ConvertError
cache_from octets_of tickets infos = paired_from octets_of tickets infos >>= cache_with
