-- Names, UTF-16 in little-endian order (MS-DTYP 2.3.10).
use Rattle.std.specs.Prelude.{ℕ, ◌+◌, ◌*◌, ◌%◌, ◌==◌, List, [], ◌∷◌, length, Option, None, Some, if◌then◌else◌}
use Rattle.std.specs.Char.Utf16.{has_unpaired_surrogate, utf16_lossy_chars}
use Rattle.std.specs.Str.{encode_utf8_all}

-- numbers of two octets, the lower one first
unfoldable pub units_of : List ℕ → List ℕ
units_of [] = []
units_of (low ∷ []) = []
units_of (low ∷ high ∷ rest) = (low + 256 * high) ∷ units_of rest

-- The characters that units spell (RFC 2781, 2.2), in UTF-8 (RFC 3629, 3): of all units, or none of any. Where each surrogate is in a pair, no
-- character stands for one that is not.
abbrev pub text_of_units : List ℕ → Option (List ℕ)
text_of_units units = if has_unpaired_surrogate units then None else Some (encode_utf8_all (utf16_lossy_chars units))

-- the text of a name, which has a whole number of units
abbrev pub name_of : List ℕ → Option (List ℕ)
name_of octets = if length octets % 2 == 0 then text_of_units (units_of octets) else None
