-- Where the fields of tokens and of kpasswd messages stand, in the order of the tokens of a page:
-- within the whole, which has the first and the last place.
use Rattle.std.specs.Prelude.{ℕ, ◌+◌, ◌-◌, ◌^◌, min, nat_lt, if◌then◌else◌, List, [], ◌∷◌, Option, Some}
use Rattle.krb_message_fields.specs.declared.places.place.Place.{Place}

-- so many octets, behind so many others of those that begin here
abbrev pub field : ℕ → ℕ → ℕ → Place
field start offset size = record { offset = min (start + offset) (2 ^ 64 - 1); size = size }

-- RFC 4121, 4.2.6.1: TOK_ID, Flags, SND_SEQ behind five octets of filler, and SGN_CKSUM, of a token
-- of so many octets; none of a shorter one
abbrev pub mic_places : ℕ → ℕ → List (Option Place)
mic_places start size =
    if nat_lt size 16 then [] else (
    Some (field start 0 size)
    ∷ Some (field start 0 2) ∷ Some (field start 2 1) ∷ Some (field start 8 8)
    ∷ Some (field start 16 (size - 16))
    ∷ Some (field start 0 size) ∷ [])

-- RFC 4121, 4.2.6.2: TOK_ID, Flags, EC behind an octet of filler, RRC, SND_SEQ and the data
abbrev pub wrap_places : ℕ → ℕ → List (Option Place)
wrap_places start size =
    if nat_lt size 16 then [] else (
    Some (field start 0 size)
    ∷ Some (field start 0 2) ∷ Some (field start 2 1) ∷ Some (field start 4 2)
    ∷ Some (field start 6 2) ∷ Some (field start 8 8)
    ∷ Some (field start 16 (size - 16))
    ∷ Some (field start 0 size) ∷ [])

-- RFC 3244, 2: the frame, and before its messages its length, the version and the length of the
-- first message
abbrev pub number_places : ℕ → ℕ → List (Option Place)
number_places start size =
    Some (field start 0 size) ∷ Some (field start 0 2) ∷ Some (field start 2 2) ∷ Some (field start 4 2) ∷ []
