-- A PAC as tokens (MS-PAC, 2.3 and 2.4).
use Rattle.std.specs.Prelude.{◌≡◌, ◌≢◌, ℕ, nat_eq, Bool, true, false, pos, ◌-◌, ◌%◌, List, ◌++◌, length, map, replicate, ◌⊎◌, codes}
use Rattle.std.specs.List.{flat_map, list_any}
use Rattle.byteorder.specs.Endian.{little_bytes}
use Rattle.krb_registry.specs.declared.kind.Kind.TheVariants.{PacBufferType}
use Rattle.krb_pac.specs.Numbered.{NumberedBuffer, NumberedPacIs}
use Rattle.krb_pac.specs.declared.numbered.NumberedInfoBuffer.{NumberedInfoBuffer}
use Rattle.krb_show.specs.Leaves.{number_of, octets_of, secret_octets_of, unsigned_of}
use Rattle.krb_show.specs.Pages.{◌then◌, list_of, struct_of}
use Rattle.krb_show.specs.Tokens.{Label, Token, of_kind, plain}

-- a buffer of type 1, a KERB_VALIDATION_INFO, holds a key, UserSessionKey (MS-PAC, 2.4 and 2.5)
abbrev pub holds_key : ℕ → Bool
holds_key ul_type = nat_eq ul_type 1

abbrev pub has_key : List NumberedBuffer → Bool
has_key pac = list_any (λ (p : NumberedBuffer). holds_key p.info.ul_type) pac

-- octets that hold one are a secret
abbrev pub held_octets_of : Bool → Label → List ℕ → List Token → List Token → Type 0
held_octets_of true label octets = secret_octets_of label octets
held_octets_of false label octets = octets_of label octets

-- a buffer of any type, listed or not: its entry (MS-PAC, 2.4, PAC_INFO_BUFFER), and the octets that the entry names
abbrev pub buffer_of : Label → NumberedBuffer → List Token → List Token → Type 0
buffer_of label p = struct_of label (
    number_of (of_kind (codes "ulType") PacBufferType) (pos p.info.ul_type)
    then number_of (plain (codes "cbBufferSize")) (pos p.info.cb_buffer_size)
    then unsigned_of (plain (codes "Offset")) p.info.offset
    then held_octets_of (holds_key p.info.ul_type) (of_kind (codes "buffer") PacBufferType) p.octets)

-- the buffers, in the order of their entries
abbrev pub buffers_of : Label → List NumberedBuffer → List Token → List Token → Type 0
buffers_of label pac = list_of buffer_of label pac

-- the octets are no PAC (MS-PAC, 2.3, PACTYPE)
abbrev pub IsNoPac : List ℕ → Type 0
IsNoPac octets = (pac : List NumberedBuffer) → NumberedPacIs octets pac → ⊥

-- ---- PACs that have no octet but those of their buffers

-- how many zeros stand behind a buffer of so many octets, which begins at a multiple of eight (MS-PAC, 2.4)
abbrev pub padding : ℕ → ℕ
padding size = (8 - size % 8) % 8

abbrev pub padded_octets : NumberedBuffer → List ℕ
padded_octets p = p.octets ++ replicate (padding (length p.octets)) 0

-- the octets before the entries (MS-PAC, 2.3, PACTYPE): how many buffers there are, and version 0
abbrev pub head_octets : ℕ → List ℕ
head_octets count = little_bytes 4 count ++ little_bytes 4 0

-- the octets of an entry (MS-PAC, 2.4)
abbrev pub entry_octets : NumberedInfoBuffer → List ℕ
entry_octets i = little_bytes 4 i.ul_type ++ little_bytes 4 i.cb_buffer_size ++ little_bytes 8 i.offset

-- the entries, one behind another
abbrev pub entries_octets : List NumberedBuffer → List ℕ
entries_octets pac = flat_map (λ p. entry_octets p.info) pac

-- a PAC whose buffers stand one behind another in the order of their entries, and nothing else
abbrev pub plain_octets : List NumberedBuffer → List ℕ
plain_octets pac = head_octets (length pac) ++ (entries_octets pac ++ flat_map padded_octets pac)

-- ---- as tokens

-- an entry (MS-PAC, 2.4, PAC_INFO_BUFFER)
abbrev pub entry_of : Label → NumberedInfoBuffer → List Token → List Token → Type 0
entry_of label i = struct_of label (
    number_of (of_kind (codes "ulType") PacBufferType) (pos i.ul_type)
    then number_of (plain (codes "cbBufferSize")) (pos i.cb_buffer_size)
    then unsigned_of (plain (codes "Offset")) i.offset)

abbrev pub entries_of : List NumberedBuffer → List NumberedInfoBuffer
entries_of pac = map (λ (p : NumberedBuffer). p.info) pac

-- any other PAC: its entries, and all its octets, since its buffers may share octets and octets may be in none
abbrev pub other_of : Label → List ℕ → List NumberedBuffer → List Token → List Token → Type 0
other_of label octets pac = struct_of label (
    list_of entry_of (plain (codes "buffers")) (entries_of pac)
    then held_octets_of (has_key pac) (plain (codes "octets")) octets)

-- a PAC: its buffers where these are all that it is, else its entries and its octets
abbrev pub directory_of : Label → List ℕ → List NumberedBuffer → List Token → List Token → Type 0
directory_of label octets pac old new =
    ((octets ≡ plain_octets pac) × buffers_of label pac old new) ⊎ ((octets ≢ plain_octets pac) × other_of label octets pac old new)

-- octets that are a PAC are shown as it, and others as octets
abbrev pub pac_of : Label → List ℕ → List Token → List Token → Type 0
pac_of label octets old new = ((pac : List NumberedBuffer) × NumberedPacIs octets pac × directory_of label octets pac old new) ⊎ (IsNoPac octets × octets_of label octets old new)
