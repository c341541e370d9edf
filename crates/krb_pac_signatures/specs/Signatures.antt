-- The checksums of a PAC, and what they are over (MS-PAC 2.8.1 to 2.8.4).
use Rattle.std.specs.Prelude.{◌≡◌, ℕ, ◌+◌, ◌≤◌, ◌⊎◌, true, false, List, ◌++◌, length, take, drop, replicate, Option, Some, None}
use Rattle.std.specs.Option.{option_map, ForSome, IsSomeAnd}
use Rattle.krb_pac.specs.Kind.{code}
use Rattle.krb_pac.specs.Numbered.{NumberedBuffer, NumberedPacIs, NumberedPacRejected, first_numbered}
use Rattle.krb_pac.specs.Rejected.{IsNotMemory}
use Rattle.krb_pac.specs.declared.kind.PacBufferType.{PacBufferType}
use Rattle.krb_pac.specs.declared.kind.PacBufferType.TheVariants.{ServerChecksum, KdcChecksum, TicketChecksum, FullPacChecksum}
use Rattle.krb_pac_signatures.specs.Signature.{signature_length, is_signature}
use Rattle.krb_pac_signatures.specs.declared.error.PacSignatureError.{PacSignatureError}
use Rattle.krb_pac_signatures.specs.declared.error.PacSignatureError.TheVariants as errors

-- a signature, and how many octets of the PAC are before it
pub record Placed : Type 0 where
  pub at : ℕ
  pub octets : List ℕ

-- a PAC's octets, and its checksums of the server, the KDC, the ticket and the whole PAC
pub record Signatures : Type 0 where
  pub octets : List ℕ
  pub server : Option Placed
  pub kdc : Option Placed
  pub ticket : Option Placed
  pub full : Option Placed

-- the first buffer of a type
abbrev pub placed_in : PacBufferType → List NumberedBuffer → Option Placed
placed_in kind pac = option_map (λ (p : NumberedBuffer). record { at = p.info.offset; octets = p.octets }) (first_numbered (code kind) pac)

-- it is there, and no signature
abbrev pub IsCutShort : Option Placed → Type 0
IsCutShort o = IsSomeAnd o (λ p. is_signature p.octets ≡ false)

-- it is not there, or is a signature
abbrev pub IsWhole : Option Placed → Type 0
IsWhole o = ForSome o (λ p. is_signature p.octets ≡ true)

-- the checksums of the PAC that the octets are, each a signature; its other buffers may be of all types
pub record SignaturesOf (b : List ℕ) (s : Signatures) : Type 0 where
  pub pac : List NumberedBuffer
  pub is_pac : NumberedPacIs b pac
  pub octets : s.octets ≡ b
  pub server : s.server ≡ placed_in ServerChecksum pac
  pub kdc : s.kdc ≡ placed_in KdcChecksum pac
  pub ticket : s.ticket ≡ placed_in TicketChecksum pac
  pub full : s.full ≡ placed_in FullPacChecksum pac
  pub whole : IsWhole s.server × IsWhole s.kdc × IsWhole s.ticket × IsWhole s.full

-- one of the four is no signature
abbrev pub OneIsCutShort : List NumberedBuffer → Type 0
OneIsCutShort pac = IsCutShort (placed_in ServerChecksum pac) ⊎ (IsCutShort (placed_in KdcChecksum pac) ⊎ (IsCutShort (placed_in TicketChecksum pac) ⊎ IsCutShort (placed_in FullPacChecksum pac)))

abbrev pub SignaturesRejected : List ℕ → PacSignatureError → Type 0
SignaturesRejected b (errors.Pac x) = NumberedPacRejected b x
SignaturesRejected b errors.Truncated = (pac : List NumberedBuffer) × NumberedPacIs b pac × OneIsCutShort pac

-- no allocation failure
abbrev pub IsOfOctets : PacSignatureError → Type 0
IsOfOctets (errors.Pac x) = IsNotMemory x
IsOfOctets errors.Truncated = Unit {0}

-- ---- what they are over

-- the n octets from `at` on are zeros
abbrev pub zeroed : ℕ → ℕ → List ℕ → List ℕ
zeroed at n b = take at b ++ replicate n 0 ++ drop (at + n) b

-- the octets of the signature are zeros; its type stays
abbrev pub cleared : Option Placed → List ℕ → List ℕ
cleared None b = b
cleared (Some p) b = zeroed (p.at + 4) (signature_length p.octets) b

-- what the server's checksum is over (MS-PAC 2.8.1)
abbrev pub server_message : Signatures → List ℕ
server_message s = cleared s.kdc (cleared s.server s.octets)

-- what the full checksum is over (MS-PAC 2.8.4)
abbrev pub full_message : Signatures → List ℕ
full_message s = cleared s.full (server_message s)

-- all of it is within so many octets
abbrev pub IsInside : List ℕ → Placed → Type 0
IsInside b p = p.at + length p.octets ≤ length b
