-- The numbers of the buffers' types (MS-PAC 2.4, ulType).
use Rattle.std.proofs.Common.{◌≡◌, ℕ, [], ◌∷◌, slice_index_or, refl, sym, ap, ◌∙◌}
use Rattle.krb_pac.specs.declared.kind.PacBufferType.{PacBufferType}
use Rattle.krb_pac.specs.declared.kind.PacBufferType.TheVariants.{KerbValidationInfo, Credentials, ServerChecksum, KdcChecksum, ClientInfo, ConstrainedDelegationInformation, UpnDnsInfo, ClientClaimsInfo, DeviceInfo, DeviceClaimsInfo, TicketChecksum, PacAttributesInfo, PacRequestor, FullPacChecksum}

abbrev pub code : PacBufferType → ℕ
code KerbValidationInfo = 1
code Credentials = 2
code ServerChecksum = 6
code KdcChecksum = 7
code ClientInfo = 10
code ConstrainedDelegationInformation = 11
code UpnDnsInfo = 12
code ClientClaimsInfo = 13
code DeviceInfo = 14
code DeviceClaimsInfo = 15
code TicketChecksum = 16
code PacAttributesInfo = 17
code PacRequestor = 18
code FullPacChecksum = 19

-- no type has this number
abbrev pub IsUnlisted : ℕ → Type 0
IsUnlisted n = (k : PacBufferType) → code k ≡ n → ⊥

-- the type of a number, and one of them where no type has it
abbrev pub named : ℕ → PacBufferType
named n = slice_index_or
    (KerbValidationInfo ∷ KerbValidationInfo ∷ Credentials ∷ Credentials ∷ Credentials ∷ Credentials ∷ ServerChecksum ∷ KdcChecksum ∷ KdcChecksum ∷ KdcChecksum ∷ ClientInfo
    ∷ ConstrainedDelegationInformation ∷ UpnDnsInfo ∷ ClientClaimsInfo ∷ DeviceInfo ∷ DeviceClaimsInfo ∷ TicketChecksum ∷ PacAttributesInfo ∷ PacRequestor ∷ FullPacChecksum ∷ []) n KerbValidationInfo

pub named_code : (k : PacBufferType) → named (code k) ≡ k
named_code KerbValidationInfo = refl
named_code Credentials = refl
named_code ServerChecksum = refl
named_code KdcChecksum = refl
named_code ClientInfo = refl
named_code ConstrainedDelegationInformation = refl
named_code UpnDnsInfo = refl
named_code ClientClaimsInfo = refl
named_code DeviceInfo = refl
named_code DeviceClaimsInfo = refl
named_code TicketChecksum = refl
named_code PacAttributesInfo = refl
named_code PacRequestor = refl
named_code FullPacChecksum = refl

-- no two types have one number
pub same_code : (k l : PacBufferType) → code k ≡ code l → k ≡ l
same_code k l e = sym (named_code k) ∙ ap named e ∙ named_code l
