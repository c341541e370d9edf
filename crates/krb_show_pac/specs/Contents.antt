-- What the buffers of a PAC hold as tokens, by their types (MS-PAC 2.4).
use Rattle.std.specs.Prelude.{◌≡◌, ℕ, true, false, List, ◌⊎◌, codes}
use Rattle.krb_pac.specs.Kind.{code, IsUnlisted}
use Rattle.krb_pac.specs.declared.kind.PacBufferType.{PacBufferType}
use Rattle.krb_pac.specs.declared.kind.PacBufferType.TheVariants as kinds
use Rattle.krb_pac_contents.specs.Attributes.{attributes_of, requestor_of}
use Rattle.krb_pac_contents.specs.Client.{client_info_of}
use Rattle.krb_pac_contents.specs.Upn.{upn_dns_of}
use Rattle.krb_pac_contents.specs.Logon.{logon_of}
use Rattle.krb_pac_signatures.specs.Signature.{is_signature}
use Rattle.krb_show.specs.Tokens.{Token, plain}
use Rattle.krb_show_pac.specs.Logon.{validation_info_of}
use Rattle.krb_show_pac.specs.Signature.{pac_signature_of}
use Rattle.krb_show_pac.specs.Small.{attributes_info_of, client_of, pac_requestor_of, upn_and_domain_of}
use Rattle.krb_show_pac.specs.Unread.{buffer_words, logon_words, read_or_unread, unread_of}

-- MS-PAC 2.5
abbrev pub logon_contents : List ℕ → List Token → List Token → Type 0
logon_contents b = read_or_unread (logon_of b) (validation_info_of (plain (codes "KERB_VALIDATION_INFO"))) logon_words

-- MS-PAC 2.7
abbrev pub client_contents : List ℕ → List Token → List Token → Type 0
client_contents b = read_or_unread (client_info_of b) (client_of (plain (codes "PAC_CLIENT_INFO"))) buffer_words

-- MS-PAC 2.10
abbrev pub upn_contents : List ℕ → List Token → List Token → Type 0
upn_contents b = read_or_unread (upn_dns_of b) (upn_and_domain_of (plain (codes "UPN_DNS_INFO"))) buffer_words

-- MS-PAC 2.14
abbrev pub attributes_contents : List ℕ → List Token → List Token → Type 0
attributes_contents b = read_or_unread (attributes_of b) (attributes_info_of (plain (codes "PAC_ATTRIBUTES_INFO"))) buffer_words

-- MS-PAC 2.15
abbrev pub requestor_contents : List ℕ → List Token → List Token → Type 0
requestor_contents b = read_or_unread (requestor_of b) (pac_requestor_of (plain (codes "PAC_REQUESTOR"))) buffer_words

-- MS-PAC 2.8
abbrev pub signature_contents : List ℕ → List Token → List Token → Type 0
signature_contents b old new =
    ((is_signature b ≡ true) × pac_signature_of (plain (codes "PAC_SIGNATURE_DATA")) b old new)
    ⊎ ((is_signature b ≡ false) × unread_of (codes "the octets end too early") old new)

abbrev pub adds_nothing : List Token → List Token → Type 0
adds_nothing old new = new ≡ old

-- what a buffer of this type adds
abbrev pub contents_in : PacBufferType → List ℕ → List Token → List Token → Type 0
contents_in kinds.KerbValidationInfo b = logon_contents b
contents_in kinds.Credentials b = adds_nothing
contents_in kinds.ServerChecksum b = signature_contents b
contents_in kinds.KdcChecksum b = signature_contents b
contents_in kinds.ClientInfo b = client_contents b
contents_in kinds.ConstrainedDelegationInformation b = adds_nothing
contents_in kinds.UpnDnsInfo b = upn_contents b
contents_in kinds.ClientClaimsInfo b = adds_nothing
contents_in kinds.DeviceInfo b = adds_nothing
contents_in kinds.DeviceClaimsInfo b = adds_nothing
contents_in kinds.TicketChecksum b = signature_contents b
contents_in kinds.PacAttributesInfo b = attributes_contents b
contents_in kinds.PacRequestor b = requestor_contents b
contents_in kinds.FullPacChecksum b = signature_contents b

-- what a buffer of a type of this number adds: nothing, where the standard lists none
abbrev pub contents_of : ℕ → List ℕ → List Token → List Token → Type 0
contents_of ul_type b old new =
    ((kind : PacBufferType) × (code kind ≡ ul_type) × contents_in kind b old new) ⊎ (IsUnlisted ul_type × adds_nothing old new)
