-- What the target of a conversion has no place for.
use Rattle.std.specs.Prelude.{◌==◌, ◌&&◌, ◌||◌, ℕ, ℤ, pos, negsuc, Bool, false, not, List, Option, Some, None, drop, length, codes}
use Rattle.std.specs.List.{list_any}
use Rattle.krb_der_core.specs.BitString.{Bits}
use Rattle.krb_der_core.specs.GeneralizedTime.{Time}
use Rattle.krb_enc_parts.specs.declared.data_types.credentials.KrbCredInfo.{KrbCredInfo}
use Rattle.krb_types.specs.declared.data_types.addresses.HostAddress.{HostAddress}
use Rattle.krb_types.specs.Times.{unix_seconds}
use Rattle.krb_file_tools.specs.declared.convert.field.Field.{Field}
use Rattle.krb_file_tools.specs.declared.convert.field.Field.TheVariants as field

abbrev pub name_of : Field → List ℕ
name_of field.Kvno = codes "kvno"
name_of field.Flags = codes "flags past 31"
name_of field.Nonce = codes "nonce"
name_of field.Timestamp = codes "timestamp"
name_of field.Usec = codes "usec"
name_of field.SAddress = codes "s-address"
name_of field.RAddress = codes "r-address"
name_of field.NoSrealm = codes "absence of srealm"
name_of field.NoSname = codes "absence of sname"
name_of field.NoFlags = codes "absence of flags"
name_of field.FlagsLength = codes "length of flags"
name_of field.FirstSecond = codes "1970-01-01T00:00:00Z"
name_of field.EmptyCaddr = codes "empty caddr"
name_of field.AsConfiguration = codes "ticket as configuration entry"
name_of field.AsRemoved = codes "ticket as removed entry"
name_of field.Header = codes "header"
name_of field.DefaultPrincipal = codes "default principal"
name_of field.Configuration = codes "configuration entries"
name_of field.Removed = codes "removed entries"
name_of field.IsSkey = codes "is_skey"
name_of field.Authdata = codes "authdata"
name_of field.SecondTicket = codes "second_ticket"

-- a flag past bit 31 is set
abbrev pub has_long_flags : Option Bits → Bool
has_long_flags None = false
has_long_flags (Some flags) = list_any (λ o. not (o == 0)) (drop 4 flags.octets)

-- ---- what a cache has in another way than a KrbCredInfo (RFC 4120, 5.8.1), so that it does not come back as it was

-- flags are there, and not 32 bits
abbrev pub has_other_length : Option Bits → Bool
has_other_length None = false
has_other_length (Some flags) = not (length flags.octets == 4 && flags.spare == 0)

abbrev pub is_zero : ℤ → Bool
is_zero (pos n) = n == 0
is_zero (negsuc n) = false

-- a time is there, and the first second of 1970
abbrev pub is_first_second : Option Time → Bool
is_first_second None = false
is_first_second (Some t) = is_zero (unix_seconds t)

-- one of the four times is
abbrev pub has_first_second : KrbCredInfo → Bool
has_first_second info =
    is_first_second info.auth_time.0 || is_first_second info.start_time.0
    || is_first_second info.end_time.0 || is_first_second info.renew_till.0

-- addresses are there, and there is none
abbrev pub has_empty_addresses : Option (List HostAddress) → Bool
has_empty_addresses None = false
has_empty_addresses (Some addresses) = length addresses == 0
