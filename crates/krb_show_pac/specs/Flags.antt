-- Flags of 32 bits by their names, one table for what they are of: a row is a flag's value and its name.
use Rattle.std.specs.Prelude.{ℕ, ◌==◌, bit_and, if◌then◌else◌, List, [], ◌∷◌, ◌++◌, codes}
use Rattle.std.specs.List.{flat_map}
use Rattle.byteorder.specs.Endian.{big_bytes}
use Rattle.krb_show.specs.Leaves.{hex}
use Rattle.krb_show.specs.Tokens.{Label, Token, adds, noted}
use Rattle.krb_show.specs.declared.token.Form.TheVariants as form
use Rattle.krb_show_pac.specs.declared.flags.FlagSet.{FlagSet}
use Rattle.krb_show_pac.specs.declared.flags.FlagSet.TheVariants.{GroupAttributes, UserFlags, UserAccountControl, UpnDnsFlags, PacAttributes}

-- MS-PAC 2.2.1 and 2.2.2, Attributes, which have five of them; the others, and their names, are those of TOKEN_GROUPS in winnt.h
abbrev pub group_attributes : List (ℕ × List ℕ)
group_attributes =
    (0x0000_0001, codes "SE_GROUP_MANDATORY")
    ∷ (0x0000_0002, codes "SE_GROUP_ENABLED_BY_DEFAULT")
    ∷ (0x0000_0004, codes "SE_GROUP_ENABLED")
    ∷ (0x0000_0008, codes "SE_GROUP_OWNER")
    ∷ (0x0000_0010, codes "SE_GROUP_USE_FOR_DENY_ONLY")
    ∷ (0x0000_0020, codes "SE_GROUP_INTEGRITY")
    ∷ (0x0000_0040, codes "SE_GROUP_INTEGRITY_ENABLED")
    ∷ (0x2000_0000, codes "SE_GROUP_RESOURCE")
    ∷ (0xc000_0000, codes "SE_GROUP_LOGON_ID")
    ∷ []

-- MS-PAC 2.5, UserFlags, A to L; the names are those of NTSecAPI.h
abbrev pub user_flags : List (ℕ × List ℕ)
user_flags =
    (0x0000_0001, codes "LOGON_GUEST")
    ∷ (0x0000_0002, codes "LOGON_NOENCRYPTION")
    ∷ (0x0000_0008, codes "LOGON_USED_LM_PASSWORD")
    ∷ (0x0000_0020, codes "LOGON_EXTRA_SIDS")
    ∷ (0x0000_0040, codes "LOGON_SUBAUTH_SESSION_KEY")
    ∷ (0x0000_0080, codes "LOGON_SERVER_TRUST_ACCOUNT")
    ∷ (0x0000_0100, codes "LOGON_NTLMV2_ENABLED")
    ∷ (0x0000_0200, codes "LOGON_RESOURCE_GROUPS")
    ∷ (0x0000_0400, codes "LOGON_PROFILE_PATH_RETURNED")
    ∷ (0x0000_0800, codes "LOGON_NT_V2")
    ∷ (0x0000_1000, codes "LOGON_LM_V2")
    ∷ (0x0000_2000, codes "LOGON_NTLM_V2")
    ∷ []

-- MS-SAMR 2.2.1.12, USER_ACCOUNT codes
abbrev pub user_account_control : List (ℕ × List ℕ)
user_account_control =
    (0x0000_0001, codes "USER_ACCOUNT_DISABLED")
    ∷ (0x0000_0002, codes "USER_HOME_DIRECTORY_REQUIRED")
    ∷ (0x0000_0004, codes "USER_PASSWORD_NOT_REQUIRED")
    ∷ (0x0000_0008, codes "USER_TEMP_DUPLICATE_ACCOUNT")
    ∷ (0x0000_0010, codes "USER_NORMAL_ACCOUNT")
    ∷ (0x0000_0020, codes "USER_MNS_LOGON_ACCOUNT")
    ∷ (0x0000_0040, codes "USER_INTERDOMAIN_TRUST_ACCOUNT")
    ∷ (0x0000_0080, codes "USER_WORKSTATION_TRUST_ACCOUNT")
    ∷ (0x0000_0100, codes "USER_SERVER_TRUST_ACCOUNT")
    ∷ (0x0000_0200, codes "USER_DONT_EXPIRE_PASSWORD")
    ∷ (0x0000_0400, codes "USER_ACCOUNT_AUTO_LOCKED")
    ∷ (0x0000_0800, codes "USER_ENCRYPTED_TEXT_PASSWORD_ALLOWED")
    ∷ (0x0000_1000, codes "USER_SMARTCARD_REQUIRED")
    ∷ (0x0000_2000, codes "USER_TRUSTED_FOR_DELEGATION")
    ∷ (0x0000_4000, codes "USER_NOT_DELEGATED")
    ∷ (0x0000_8000, codes "USER_USE_DES_KEY_ONLY")
    ∷ (0x0001_0000, codes "USER_DONT_REQUIRE_PREAUTH")
    ∷ (0x0002_0000, codes "USER_PASSWORD_EXPIRED")
    ∷ (0x0004_0000, codes "USER_TRUSTED_TO_AUTHENTICATE_FOR_DELEGATION")
    ∷ (0x0008_0000, codes "USER_NO_AUTH_DATA_REQUIRED")
    ∷ (0x0010_0000, codes "USER_PARTIAL_SECRETS_ACCOUNT")
    ∷ (0x0020_0000, codes "USER_USE_AES_KEYS")
    ∷ []

-- MS-PAC 2.10, Flags, U and S; the names are those of Samba's krb5pac.idl
abbrev pub upn_dns_flags : List (ℕ × List ℕ)
upn_dns_flags =
    (0x0000_0001, codes "PAC_UPN_DNS_FLAG_CONSTRUCTED")
    ∷ (0x0000_0002, codes "PAC_UPN_DNS_FLAG_HAS_SAM_NAME_AND_SID")
    ∷ []

-- MS-PAC 2.14, Flags
abbrev pub pac_attributes : List (ℕ × List ℕ)
pac_attributes =
    (0x0000_0001, codes "PAC_WAS_REQUESTED")
    ∷ (0x0000_0002, codes "PAC_WAS_GIVEN_IMPLICITLY")
    ∷ []

-- the table of what flags are of
unfoldable pub table : FlagSet → List (ℕ × List ℕ)
table GroupAttributes = group_attributes
table UserFlags = user_flags
table UserAccountControl = user_account_control
table UpnDnsFlags = upn_dns_flags
table PacAttributes = pac_attributes

-- a blank and the name of a flag, where all bits of its value are set in a number
abbrev pub name_if_set : ℕ → ℕ × List ℕ → List ℕ
name_if_set number row = if bit_and number row.0 == row.0 then 32 ∷ row.1 else []

-- the names of the flags that are set, in the order of their table
abbrev pub flag_names : List (ℕ × List ℕ) → ℕ → List ℕ
flag_names rows number = flat_map (name_if_set number) rows

-- `0x` and eight digits, the highest first
abbrev pub flags_word : ℕ → List ℕ
flags_word number = codes "0x" ++ hex (big_bytes 4 number)

-- flags of 32 bits: the number in hexadecimal, and the names of those that are set
abbrev pub named_flags_of : List (ℕ × List ℕ) → Label → ℕ → List Token → List Token → Type 0
named_flags_of rows label number =
    adds (noted form.Flags label (flags_word number) (flag_names rows number))
