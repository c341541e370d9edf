-- The logon information as tokens (MS-PAC 2.5, KERB_VALIDATION_INFO).
use Rattle.std.specs.Prelude.{pos, List, codes}
use Rattle.krb_pac_contents.specs.Fields.{logon_time, logoff_time, kick_off_time, password_last_set, password_can_change, password_must_change, effective_name, full_name}
use Rattle.krb_pac_contents.specs.Fields.{logon_script, profile_path, home_directory, home_directory_drive, logon_count, bad_password_count, user_id, primary_group_id}
use Rattle.krb_pac_contents.specs.Fields.{groups, user_flags, user_session_key, logon_server, logon_domain_name, logon_domain_id, user_account_control, sub_auth_status}
use Rattle.krb_pac_contents.specs.Fields.{last_successful_logon, last_failed_logon, failed_logon_count, extra_sids, resource_group_domain_sid, resource_groups}
use Rattle.krb_pac_contents.specs.Logon.{Logon}
use Rattle.krb_pac_contents.specs.declared.elements.Membership.{Membership}
use Rattle.krb_pac_contents.specs.declared.elements.SidAndAttributes.{SidAndAttributes}
use Rattle.krb_show.specs.Leaves.{number_of, secret_octets_of}
use Rattle.krb_show.specs.Pages.{◌then◌, list_of, optional_of, struct_of}
use Rattle.krb_show.specs.Tokens.{Label, Token, plain}
use Rattle.krb_show_pac.specs.Flags.{named_flags_of, table}
use Rattle.krb_show_pac.specs.Values.{filetime_of, identifier_of, name_or_octets_of}
use Rattle.krb_show_pac.specs.declared.flags.FlagSet.TheVariants.{GroupAttributes, UserFlags, UserAccountControl}

-- MS-PAC 2.2.2, GROUP_MEMBERSHIP
abbrev pub membership_of : Label → Membership → List Token → List Token → Type 0
membership_of label m = struct_of label (
    number_of (plain (codes "RelativeId")) (pos m.relative_id)
    then named_flags_of (table GroupAttributes) (plain (codes "Attributes")) m.attributes)

-- MS-PAC 2.2.1, KERB_SID_AND_ATTRIBUTES
abbrev pub extra_sid_of : Label → SidAndAttributes → List Token → List Token → Type 0
extra_sid_of label s = struct_of label (
    identifier_of (plain (codes "Sid")) s.sid
    then named_flags_of (table GroupAttributes) (plain (codes "Attributes")) s.attributes)

-- LogonTime to PasswordMustChange
abbrev pub times_of : Logon → List Token → List Token → Type 0
times_of v =
    filetime_of (plain (codes "LogonTime")) (logon_time v)
    then filetime_of (plain (codes "LogoffTime")) (logoff_time v)
    then filetime_of (plain (codes "KickOffTime")) (kick_off_time v)
    then filetime_of (plain (codes "PasswordLastSet")) (password_last_set v)
    then filetime_of (plain (codes "PasswordCanChange")) (password_can_change v)
    then filetime_of (plain (codes "PasswordMustChange")) (password_must_change v)

-- EffectiveName to HomeDirectoryDrive
abbrev pub names_of : Logon → List Token → List Token → Type 0
names_of v =
    name_or_octets_of (plain (codes "EffectiveName")) (effective_name v)
    then name_or_octets_of (plain (codes "FullName")) (full_name v)
    then name_or_octets_of (plain (codes "LogonScript")) (logon_script v)
    then name_or_octets_of (plain (codes "ProfilePath")) (profile_path v)
    then name_or_octets_of (plain (codes "HomeDirectory")) (home_directory v)
    then name_or_octets_of (plain (codes "HomeDirectoryDrive")) (home_directory_drive v)

-- LogonCount to GroupIds
abbrev pub counts_of : Logon → List Token → List Token → Type 0
counts_of v =
    number_of (plain (codes "LogonCount")) (pos (logon_count v))
    then number_of (plain (codes "BadPasswordCount")) (pos (bad_password_count v))
    then number_of (plain (codes "UserId")) (pos (user_id v))
    then number_of (plain (codes "PrimaryGroupId")) (pos (primary_group_id v))
    then list_of membership_of (plain (codes "GroupIds")) (groups v)

-- UserFlags to LogonDomainId
abbrev pub domain_of : Logon → List Token → List Token → Type 0
domain_of v =
    named_flags_of (table UserFlags) (plain (codes "UserFlags")) (user_flags v)
    then secret_octets_of (plain (codes "UserSessionKey")) (user_session_key v)
    then name_or_octets_of (plain (codes "LogonServer")) (logon_server v)
    then name_or_octets_of (plain (codes "LogonDomainName")) (logon_domain_name v)
    then identifier_of (plain (codes "LogonDomainId")) (logon_domain_id v)

-- UserAccountControl to FailedILogonCount
abbrev pub account_of : Logon → List Token → List Token → Type 0
account_of v =
    named_flags_of (table UserAccountControl) (plain (codes "UserAccountControl")) (user_account_control v)
    then number_of (plain (codes "SubAuthStatus")) (pos (sub_auth_status v))
    then filetime_of (plain (codes "LastSuccessfulILogon")) (last_successful_logon v)
    then filetime_of (plain (codes "LastFailedILogon")) (last_failed_logon v)
    then number_of (plain (codes "FailedILogonCount")) (pos (failed_logon_count v))

-- ExtraSids to ResourceGroupIds; ResourceGroupDomainSid where it is there
abbrev pub extra_of : Logon → List Token → List Token → Type 0
extra_of v =
    list_of extra_sid_of (plain (codes "ExtraSids")) (extra_sids v)
    then optional_of (identifier_of (plain (codes "ResourceGroupDomainSid"))) (resource_group_domain_sid v)
    then list_of membership_of (plain (codes "ResourceGroupIds")) (resource_groups v)

-- all fields, in the order of the structure, but for what is reserved and for counts that lists have
abbrev pub validation_info_of : Label → Logon → List Token → List Token → Type 0
validation_info_of label v = struct_of label (
    times_of v
    then names_of v
    then counts_of v
    then domain_of v
    then account_of v
    then extra_of v)
