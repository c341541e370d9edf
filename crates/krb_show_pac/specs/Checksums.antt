-- The checksums of a PAC, each with what it is over (MS-PAC 2.8.1, 2.8.2 and 2.8.4).
use Rattle.std.specs.Prelude.{ℕ, List, Option, Some, None}
use Rattle.std.specs.Option.{option_map}
use Rattle.krb_pac_signatures.specs.Verdict.{IsVerdict}
use Rattle.krb_pac_signatures.specs.declared.verdict.Verdict.{Verdict}
use Rattle.krb_pac_signatures.specs.Signature.{signature_type, signature}
use Rattle.krb_pac_signatures.specs.Signatures.{Placed, Signatures, full_message, server_message}

-- the octets of a PAC_SIGNATURE_DATA, and those that its signature is over
pub record PacChecksum : Type 0 where
  pub given : List ℕ
  pub message : List ℕ

-- what is true of it under the octets of a key, for key usage 17
abbrev pub HasVerdict : PacChecksum → List ℕ → Verdict → Type 0
HasVerdict c octets v = IsVerdict (signature_type c.given) (signature c.given) octets c.message v

-- a signature that may not be there, over this message
abbrev pub over : List ℕ → Option Placed → Option PacChecksum
over message o = option_map (λ (p : Placed). record { given = p.octets; message = message }) o

-- over the PAC with the octets of the server's and the KDC's signature zeroed (2.8.1)
abbrev pub server_checksum : Signatures → Option PacChecksum
server_checksum s = over (server_message s) s.server

-- over the server's signature, where it is there (2.8.2)
abbrev pub over_server : Option Placed → Option Placed → Option PacChecksum
over_server None kdc = None
over_server (Some p) kdc = over (signature p.octets) kdc

abbrev pub kdc_checksum : Signatures → Option PacChecksum
kdc_checksum s = over_server s.server s.kdc

-- over the PAC with the octets of these two and its own zeroed (2.8.4)
abbrev pub full_checksum : Signatures → Option PacChecksum
full_checksum s = over (full_message s) s.full
