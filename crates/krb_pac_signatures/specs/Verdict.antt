-- Whether a checksum is the one of a message under a key, for key usage 17, KERB_NON_KERB_CKSUM_SALT (MS-PAC 2.8).
use Rattle.std.specs.Prelude.{◌≡◌, ◌≢◌, ℕ, pos, List, length, Option, Some, None}
use Rattle.krb_crypto.specs.BySuite.{checksum_key_octets_of, sum_of}
use Rattle.krb_crypto.specs.Suites.{checksum_type, NoSuite}
use Rattle.krb_crypto.specs.declared.checksum_suite.ChecksumSuite.{ChecksumSuite}
use Rattle.std.specs.Option.{option_map, IsSomeAnd}
use Rattle.krb_pac_signatures.specs.Signature.{signature_type, signature}
use Rattle.krb_pac_signatures.specs.Signatures.{Placed, Signatures}
use Rattle.krb_pac_signatures.specs.declared.pac.PacVerdicts.{PacVerdicts}
use Rattle.krb_pac_signatures.specs.declared.verdict.Verdict.{Verdict}
use Rattle.krb_pac_signatures.specs.declared.verdict.Verdict.TheVariants as verdict

-- a suite has this number, keys of this length, and the fact
pub record UnderSuite (number : ℕ) (key : List ℕ) (Says : ChecksumSuite → Type 0) : Type 0 where
  pub suite : ChecksumSuite
  pub numbered : checksum_type suite ≡ number
  pub key_length : length key ≡ checksum_key_octets_of suite
  pub says : Says suite

-- what is true of a checksum of this type, these octets, a key and a message, by what is said of it
abbrev pub IsVerdict : ℕ → List ℕ → List ℕ → List ℕ → Verdict → Type 0
IsVerdict number checksum key message verdict.Holds = UnderSuite number key (λ suite. checksum ≡ sum_of suite key (pos 17) message)
IsVerdict number checksum key message verdict.Differs = UnderSuite number key (λ suite. checksum ≢ sum_of suite key (pos 17) message)
IsVerdict number checksum key message verdict.KeyLength = (suite : ChecksumSuite) × (checksum_type suite ≡ number) × (length key ≢ checksum_key_octets_of suite)
IsVerdict number checksum key message verdict.NotVerified = NoSuite checksum_type number
IsVerdict number checksum key message verdict.Absent = ⊥

-- what is said of a checksum that may not be there
abbrev pub IsVerdictOf : Option Placed → List ℕ → List ℕ → Verdict → Type 0
IsVerdictOf None key message v = v ≡ verdict.Absent
IsVerdictOf (Some p) key message v = IsVerdict (signature_type p.octets) (signature p.octets) key message v

-- what is said of the KDC's checksum, which is over the server's signature (MS-PAC 2.8.2)
abbrev pub IsKdcVerdict : Option Placed → Option Placed → List ℕ → Verdict → Type 0
IsKdcVerdict kdc None key v = v ≡ verdict.Absent
IsKdcVerdict kdc (Some p) key v = IsVerdictOf kdc key (signature p.octets) v

-- what is said where a key is given, and nothing without one
abbrev pub IsSaidUnder : Option (List ℕ) → (List ℕ → Verdict → Type 0) → Option Verdict → Type 0
IsSaidUnder None says v = v ≡ None
IsSaidUnder (Some key) says v = IsSomeAnd v (says key)

-- what is said where a key and a message are given, and nothing else
abbrev pub IsSaidOver : Option (List ℕ) → Option (List ℕ) → (List ℕ → List ℕ → Verdict → Type 0) → Option Verdict → Type 0
IsSaidOver None message says v = v ≡ None
IsSaidOver (Some key) None says v = v ≡ None
IsSaidOver (Some key) (Some message) says v = IsSomeAnd v (says key message)

-- the type of a checksum that may not be there
abbrev pub type_in : Option Placed → Option ℕ
type_in o = option_map signature_type (option_map (λ (p : Placed). p.octets) o)

-- which checksums are there, and of which type
abbrev pub HaveTypes : Signatures → PacVerdicts → Type 0
HaveTypes s v = (v.server.signature_type ≡ type_in s.server) × (v.kdc.signature_type ≡ type_in s.kdc)
    × (v.ticket.signature_type ≡ type_in s.ticket) × (v.full.signature_type ≡ type_in s.full)
