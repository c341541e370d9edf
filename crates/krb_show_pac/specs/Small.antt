-- The small buffers of a PAC as tokens.
use Rattle.std.specs.Prelude.{ℕ, pos, List, [], Option, unwrap_or, codes}
use Rattle.byteorder.specs.Endian.{little_number}
use Rattle.krb_pac_contents.specs.Client.{client_name}
use Rattle.krb_pac_contents.specs.Upn.{UpnDns}
use Rattle.krb_pac_contents.specs.Numbers.{long_at}
use Rattle.krb_show.specs.Leaves.{number_of}
use Rattle.krb_show.specs.Pages.{◌then◌, optional_of, struct_of}
use Rattle.krb_show.specs.Tokens.{Label, Token, plain}
use Rattle.krb_show_pac.specs.Flags.{named_flags_of, table}
use Rattle.krb_show_pac.specs.Values.{filetime_of, identifier_of, name_or_octets_of}
use Rattle.krb_show_pac.specs.declared.flags.FlagSet.TheVariants.{UpnDnsFlags, PacAttributes}

-- MS-PAC 2.7, PAC_CLIENT_INFO
abbrev pub client_of : Label → List ℕ → List Token → List Token → Type 0
client_of label b = struct_of label (
    filetime_of (plain (codes "ClientId")) (little_number 8 b)
    then name_or_octets_of (plain (codes "Name")) (client_name b))

-- MS-PAC 2.10, UPN_DNS_INFO: SamName and Sid, which are there with flag S
abbrev pub sam_and_sid_of : List ℕ → Option (List ℕ) → List Token → List Token → Type 0
sam_and_sid_of sam_name sid = optional_of (λ s. name_or_octets_of (plain (codes "SamName")) sam_name then identifier_of (plain (codes "Sid")) s) sid

-- MS-PAC 2.10, UPN_DNS_INFO
abbrev pub upn_and_domain_of : Label → UpnDns → List Token → List Token → Type 0
upn_and_domain_of label u = struct_of label (
    name_or_octets_of (plain (codes "Upn")) u.upn
    then name_or_octets_of (plain (codes "DnsDomainName")) u.dns_domain_name
    then named_flags_of (table UpnDnsFlags) (plain (codes "Flags")) u.flags
    then sam_and_sid_of (unwrap_or u.sam_name []) u.sid)

-- MS-PAC 2.14, PAC_ATTRIBUTES_INFO: the flags' first 32 bits
abbrev pub attributes_info_of : Label → List ℕ → List Token → List Token → Type 0
attributes_info_of label b = struct_of label (
    number_of (plain (codes "FlagsLength")) (pos (long_at 0 b))
    then named_flags_of (table PacAttributes) (plain (codes "Flags")) (long_at 4 b))

-- MS-PAC 2.15, PAC_REQUESTOR
abbrev pub pac_requestor_of : Label → List ℕ → List Token → List Token → Type 0
pac_requestor_of label sid = struct_of label (identifier_of (plain (codes "UserSid")) sid)
