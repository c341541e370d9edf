-- What the logon information holds, field by field, in the words of MS-PAC 2.5.
use Rattle.std.specs.Prelude.{ℕ, ◌/◌, List, length, take, drop, Option}
use Rattle.krb_pac_contents.specs.Elements.{memberships, sids_of}
use Rattle.krb_pac_contents.specs.declared.elements.Membership.{Membership}
use Rattle.krb_pac_contents.specs.declared.elements.SidAndAttributes.{SidAndAttributes}
use Rattle.krb_pac_contents.specs.Numbers.{short_at, long_at, quad_at}
use Rattle.krb_pac_contents.specs.Logon.{Logon}

-- LogonTime
abbrev pub logon_time : Logon → ℕ
logon_time v = quad_at 0 v.fixed

-- LogoffTime
abbrev pub logoff_time : Logon → ℕ
logoff_time v = quad_at 8 v.fixed

-- KickOffTime
abbrev pub kick_off_time : Logon → ℕ
kick_off_time v = quad_at 16 v.fixed

-- PasswordLastSet
abbrev pub password_last_set : Logon → ℕ
password_last_set v = quad_at 24 v.fixed

-- PasswordCanChange
abbrev pub password_can_change : Logon → ℕ
password_can_change v = quad_at 32 v.fixed

-- PasswordMustChange
abbrev pub password_must_change : Logon → ℕ
password_must_change v = quad_at 40 v.fixed

-- LastSuccessfulILogon
abbrev pub last_successful_logon : Logon → ℕ
last_successful_logon v = quad_at 172 v.fixed

-- LastFailedILogon
abbrev pub last_failed_logon : Logon → ℕ
last_failed_logon v = quad_at 180 v.fixed

-- LogonCount
abbrev pub logon_count : Logon → ℕ
logon_count v = short_at 96 v.fixed

-- BadPasswordCount
abbrev pub bad_password_count : Logon → ℕ
bad_password_count v = short_at 98 v.fixed

-- UserId
abbrev pub user_id : Logon → ℕ
user_id v = long_at 100 v.fixed

-- PrimaryGroupId
abbrev pub primary_group_id : Logon → ℕ
primary_group_id v = long_at 104 v.fixed

-- GroupCount
abbrev pub group_count : Logon → ℕ
group_count v = long_at 108 v.fixed

-- UserFlags
abbrev pub user_flags : Logon → ℕ
user_flags v = long_at 116 v.fixed

-- UserAccountControl
abbrev pub user_account_control : Logon → ℕ
user_account_control v = long_at 164 v.fixed

-- SubAuthStatus
abbrev pub sub_auth_status : Logon → ℕ
sub_auth_status v = long_at 168 v.fixed

-- FailedILogonCount
abbrev pub failed_logon_count : Logon → ℕ
failed_logon_count v = long_at 188 v.fixed

-- Reserved3
abbrev pub reserved3 : Logon → ℕ
reserved3 v = long_at 192 v.fixed

-- SidCount
abbrev pub extra_sid_count : Logon → ℕ
extra_sid_count v = long_at 196 v.fixed

-- ResourceGroupCount
abbrev pub resource_group_count : Logon → ℕ
resource_group_count v = long_at 208 v.fixed

-- EffectiveName
abbrev pub effective_name : Logon → List ℕ
effective_name v = v.names.effective_name

-- FullName
abbrev pub full_name : Logon → List ℕ
full_name v = v.names.full_name

-- LogonScript
abbrev pub logon_script : Logon → List ℕ
logon_script v = v.names.logon_script

-- ProfilePath
abbrev pub profile_path : Logon → List ℕ
profile_path v = v.names.profile_path

-- HomeDirectory
abbrev pub home_directory : Logon → List ℕ
home_directory v = v.names.home_directory

-- HomeDirectoryDrive
abbrev pub home_directory_drive : Logon → List ℕ
home_directory_drive v = v.names.home_directory_drive

-- LogonServer
abbrev pub logon_server : Logon → List ℕ
logon_server v = v.domain.logon_server

-- LogonDomainName
abbrev pub logon_domain_name : Logon → List ℕ
logon_domain_name v = v.domain.logon_domain_name

-- UserSessionKey
abbrev pub user_session_key : Logon → List ℕ
user_session_key v = take 16 (drop 120 v.fixed)

-- Reserved1
abbrev pub reserved1 : Logon → List ℕ
reserved1 v = take 8 (drop 156 v.fixed)

-- GroupIds: RelativeId and Attributes of each, 8 octets together
abbrev pub groups : Logon → List Membership
groups v = memberships (length v.domain.groups / 8) v.domain.groups

-- LogonDomainId
abbrev pub logon_domain_id : Logon → List ℕ
logon_domain_id v = v.domain.logon_domain_id

-- ExtraSids: of each element of 8 octets the SID that it points to, and Attributes
abbrev pub extra_sids : Logon → List SidAndAttributes
extra_sids v = sids_of (length v.extra.elements / 8) v.extra.elements v.extra.sids

-- ResourceGroupDomainSid
abbrev pub resource_group_domain_sid : Logon → Option (List ℕ)
resource_group_domain_sid v = v.resource.sid

-- ResourceGroupIds
abbrev pub resource_groups : Logon → List Membership
resource_groups v = memberships (length v.resource_groups.octets / 8) v.resource_groups.octets
