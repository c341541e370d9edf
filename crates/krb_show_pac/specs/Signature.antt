-- A signature of a PAC as tokens (MS-PAC 2.8, PAC_SIGNATURE_DATA).
use Rattle.std.specs.Prelude.{ℕ, ℤ, pos, ◌-ℤ◌, nat_lt, if◌then◌else◌, List, codes}
use Rattle.krb_registry.specs.declared.kind.Kind.TheVariants.{ChecksumType}
use Rattle.krb_pac_signatures.specs.Signature.{rodc_identifier, signature, signature_type}
use Rattle.krb_show.specs.Leaves.{number_of, octets_of}
use Rattle.krb_show.specs.Pages.{◌then◌, optional_of, struct_of}
use Rattle.krb_show.specs.Tokens.{Label, Token, of_kind, plain}

-- the signed number of 32 bits that has the bits of this one
abbrev pub as_signed : ℕ → ℤ
as_signed n = if nat_lt n 0x8000_0000 then pos n else pos n -ℤ pos 0x1_0000_0000

-- a checksum type (RFC 4120, 5.2.9), which is signed
abbrev pub signed_of : Label → ℕ → List Token → List Token → Type 0
signed_of label n = number_of label (as_signed n)

-- MS-PAC 2.8, PAC_SIGNATURE_DATA; RODCIdentifier where it is there
abbrev pub pac_signature_of : Label → List ℕ → List Token → List Token → Type 0
pac_signature_of label s = struct_of label (
    signed_of (of_kind (codes "SignatureType") ChecksumType) (signature_type s)
    then octets_of (plain (codes "Signature")) (signature s)
    then optional_of (λ n. number_of (plain (codes "RODCIdentifier")) (pos n)) (rodc_identifier s))
