-- The checksum of the GSS-API in an authenticator (RFC 4121, 4.1.1): the octets from 0 on are Lgth (4), Bnd (16) and Flags (4), and where these
-- delegate DlgOpt (2), Dlgth (2) and Deleg; Exts is the rest. The lowest octet of each number is the first.
use Rattle.std.specs.Prelude.{◌≡◌, ℕ, ◌+◌, ◌%◌, ◌≤◌, pos, nat_eq, Bool, true, false, List, [], ◌∷◌, length, take, drop, slice_index, codes, ◌⊎◌}
use Rattle.byteorder.specs.Endian.{little_number}
use Rattle.krb_der_core.specs.BitString.{Bits}
use Rattle.krb_registry.specs.declared.kind.Kind.TheVariants.{GssFlag}
use Rattle.krb_show.specs.Leaves.{flags_of, number_of, octets_of}
use Rattle.krb_show.specs.Pages.{◌then◌, struct_of}
use Rattle.krb_show.specs.Tokens.{Label, Token, of_kind, plain}

-- the flag of the value 1, GSS_C_DELEG_FLAG, is set
unfoldable pub delegates : List ℕ → Bool
delegates octets = nat_eq (slice_index octets 20 % 2) 1

-- how many octets Deleg has
unfoldable pub dlgth : List ℕ → ℕ
dlgth octets = little_number 2 (drop 26 octets)

-- DlgOpt is 1, and all of Deleg is there
pub record IsDelegation (octets : List ℕ) : Type 0 where
  pub option : little_number 2 (drop 24 octets) ≡ 1
  pub long : 28 + dlgth octets ≤ length octets

-- Lgth is 16, and where the flags delegate what they delegate is there
pub record IsGssChecksum (octets : List ℕ) : Type 0 where
  pub long : 24 ≤ length octets
  pub lgth : little_number 4 octets ≡ 16
  pub delegated : delegates octets ≡ true → IsDelegation octets

-- Flags, with the highest octet first
abbrev pub flag_bits : List ℕ → Bits
flag_bits octets = record { octets = slice_index octets 23 ∷ slice_index octets 22 ∷ slice_index octets 21 ∷ slice_index octets 20 ∷ []; spare = 0 }

-- what all of them have
abbrev pub context_of : List ℕ → List Token → List Token → Type 0
context_of octets =
    number_of (plain (codes "Lgth")) (pos 16)
    then octets_of (plain (codes "Bnd")) (take 16 (drop 4 octets))
    then flags_of (of_kind (codes "Flags") GssFlag) (flag_bits octets)

-- Exts, where there are any
abbrev pub exts_of : List ℕ → List Token → List Token → Type 0
exts_of [] old new = new ≡ old
exts_of (octet ∷ octets) old new = octets_of (plain (codes "Exts")) (octet ∷ octets) old new

-- what those that delegate have beside it, by how Deleg is shown
abbrev pub delegation_of : (List ℕ → List Token → List Token → Type 0) → List ℕ → List Token → List Token → Type 0
delegation_of deleg octets =
    number_of (plain (codes "DlgOpt")) (pos 1)
    then number_of (plain (codes "Dlgth")) (pos (dlgth octets))
    then deleg (take (dlgth octets) (drop 28 octets))
    then exts_of (drop (28 + dlgth octets) octets)

-- what stands behind Flags
abbrev pub rest_of : (List ℕ → List Token → List Token → Type 0) → List ℕ → List Token → List Token → Type 0
rest_of deleg octets old new =
    ((delegates octets ≡ true) × delegation_of deleg octets old new) ⊎ ((delegates octets ≡ false) × exts_of (drop 24 octets) old new)

-- such a checksum as its fields, other octets as octets
abbrev pub gss_checksum_of : (List ℕ → List Token → List Token → Type 0) → Label → List ℕ → List Token → List Token → Type 0
gss_checksum_of deleg label octets old new =
    (IsGssChecksum octets × struct_of label (context_of octets then rest_of deleg octets) old new)
    ⊎ ((IsGssChecksum octets → ⊥) × octets_of label octets old new)
