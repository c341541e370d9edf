-- A signature of a PAC (MS-PAC 2.8, PAC_SIGNATURE_DATA).
use Rattle.std.specs.Prelude.{ℕ, Bool, ◌&&◌, ◌||◌, ◌==◌, nat_lt, nat_le, List, length, take, drop, Option, Some, None, unwrap_or, if◌then◌else◌}
use Rattle.byteorder.specs.Endian.{little_number}

-- how many octets a signature of this type has (MS-PAC 2.8; RFC 3961, 6.3; RFC 3962, 6; RFC 8009, 6): those of HMAC-MD5, whose type is
-- -138, and of the suites' checksums
abbrev pub signature_size : ℕ → Option ℕ
signature_size t = if t == 0xffff_ff76 || t == 19 then Some 16
    else if t == 15 || t == 16 then Some 12
    else if t == 12 then Some 20
    else if t == 20 then Some 24
    else None

-- SignatureType
abbrev pub signature_type : List ℕ → ℕ
signature_type s = little_number 4 s

-- how many octets Signature has in these: all that are left, where the type is not known
abbrev pub signature_length : List ℕ → ℕ
signature_length s = unwrap_or (signature_size (signature_type s)) (length (drop 4 s))

-- Signature
abbrev pub signature : List ℕ → List ℕ
signature s = take (signature_length s) (drop 4 s)

-- RODCIdentifier, the two octets after it, where they are there
abbrev pub rodc_identifier : List ℕ → Option ℕ
rodc_identifier s = if nat_lt (length (drop (signature_length s) (drop 4 s))) 2 then None else Some (little_number 2 (drop (signature_length s) (drop 4 s)))

-- a type, and a signature that is all there
abbrev pub is_signature : List ℕ → Bool
is_signature s = nat_le 4 (length s) && nat_le (signature_length s) (length (drop 4 s))
