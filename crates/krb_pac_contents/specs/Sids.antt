-- Security identifiers as text (MS-DTYP 2.4.2.1).
use Rattle.std.specs.Prelude.{ℕ, ◌+◌, ◌/◌, ◌%◌, ◌^◌, nat_lt, List, [], ◌∷◌, ◌++◌, codes, if◌then◌else◌}
use Rattle.std.specs.List.{flat_map}
use Rattle.std.specs.Fmt.{decimal}
use Rattle.byteorder.specs.Endian.{big_bytes}
use Rattle.krb_pac_contents.specs.Sid.{identifier_authority, sub_authorities}

-- HEXDIG of a number below 16 (RFC 5234, B.1), a capital from 10 on
abbrev pub hex_digit : ℕ → ℕ
hex_digit n = if nat_lt n 10 then 48 + n else 55 + n

-- the two digits of an octet
unfoldable pub octet_text : ℕ → List ℕ
octet_text o = hex_digit (o / 16) ∷ hex_digit (o % 16) ∷ []

-- twelve digits of a number: those of its six octets, the highest first
unfoldable pub hex_text : ℕ → List ℕ
hex_text n = flat_map octet_text (big_bytes 6 n)

-- IdentifierAuthority: below 2^32 in decimal, else `0x` and twelve digits
abbrev pub authority_text : ℕ → List ℕ
authority_text n = if nat_lt n (2 ^ 32) then decimal n else codes "0x" ++ hex_text n

-- SubAuthority: numbers in decimal, a `-` (45) before each
abbrev pub dashed : List ℕ → List ℕ
dashed numbers = flat_map (λ n. 45 ∷ decimal n) numbers

-- SID: "S-1-", the authority and the sub-authorities, in their order
abbrev pub sid_text_of : List ℕ → List ℕ
sid_text_of sid = codes "S-1-" ++ authority_text (identifier_authority sid) ++ dashed (sub_authorities sid)
