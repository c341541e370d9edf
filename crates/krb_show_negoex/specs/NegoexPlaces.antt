-- Places of the tokens of messages of NEGOEX (MS-NEGOEX, 2.2.5 and 2.2.6): one for each token, in their order. So many octets stand before a message.
use Rattle.std.specs.Prelude.{◌≡◌, ◌⊎◌, ℕ, zero, suc, nat_eq, nat_le, Bool, true, false, if◌then◌else◌, ◌+◌, ◌*◌, ◌<◌, ◌≤◌, List, [], ◌∷◌, ◌++◌, length, take, drop, Option, None, is_some}
use Rattle.std.specs.declared.io.Error.{Error}
use Rattle.byteorder.specs.Endian.{little_number}
use Rattle.krb_message_fields.specs.declared.places.place.Place.{Place}
use Rattle.krb_negoex.specs.Layouts.{Layout}
use Rattle.krb_negoex.specs.View.{exchange_view_layout, nego_view_layout, verify_view_layout}
use Rattle.krb_show_negoex.specs.Negoex.{IsFollowed, IsUnsaid, exchange_octets, nego_octets, own_length, type_number, verify_octets}
use Rattle.krb_show.specs.InnerPlaces.{place_at}

-- the number in the four octets from an offset on; zero if they are not there
abbrev pub number_at : List ℕ → ℕ → ℕ
number_at octets at = if nat_le (at + 4) (length octets) then little_number 4 (drop at octets) else 0

-- the elements of a vector (2.2.5.2), each of so many octets, if there are any
abbrev pub vector_place : ℕ → ℕ → ℕ → ℕ → Option Place
vector_place base offset count width = if nat_eq count 0 then None else place_at (base + offset) (width * count)

-- the vector that an offset and a count at an offset name
abbrev pub vector_at : ℕ → List ℕ → ℕ → ℕ → Option Place
vector_at base octets at width = vector_place base (number_at octets at) (number_at octets (at + 4)) width

-- a header (2.2.6.2): MessageType, SequenceNum, cbHeaderLength, cbMessageLength and ConversationId
abbrev pub header_places : ℕ → List (Option Place)
header_places base =
    place_at base 40 ∷ place_at (base + 8) 4 ∷ place_at (base + 12) 4 ∷ place_at (base + 16) 4 ∷ place_at (base + 20) 4 ∷ place_at (base + 24) 16
    ∷ place_at base 40 ∷ []

-- so many schemes (2.2.5.2.2), one behind another
abbrev pub each_scheme : ℕ → ℕ → List (Option Place)
each_scheme first zero = []
each_scheme first (suc n) = each_scheme first n ++ place_at (first + 16 * n) 16 ∷ []

-- the schemes of a message (2.2.6.3)
abbrev pub schemes_places : ℕ → List ℕ → List (Option Place)
schemes_places base octets =
    (vector_at base octets 80 16 ∷ []) ++ (each_scheme (base + number_at octets 80) (number_at octets 84) ++ vector_at base octets 80 16 ∷ [])

-- an extension at an offset of the message (2.2.5.1.4): ExtensionType and ExtensionValue
abbrev pub extension_places : ℕ → List ℕ → ℕ → List (Option Place)
extension_places base octets at =
    place_at (base + at) 12 ∷ place_at (base + at) 4 ∷ vector_at base octets (at + 4) 1 ∷ place_at (base + at) 12 ∷ []

-- so many extensions (2.2.5.2.4), one behind another
abbrev pub each_extension : ℕ → List ℕ → ℕ → ℕ → List (Option Place)
each_extension base octets offset zero = []
each_extension base octets offset (suc n) = each_extension base octets offset n ++ extension_places base octets (offset + 12 * n)

-- the extensions of a message (2.2.6.3)
abbrev pub extensions_places : ℕ → List ℕ → List (Option Place)
extensions_places base octets =
    (vector_at base octets 88 12 ∷ []) ++ (each_extension base octets (number_at octets 88) (number_at octets 92) ++ vector_at base octets 88 12 ∷ [])

-- a checksum (2.2.5.1.3): cbHeaderLength, ChecksumScheme, ChecksumType and ChecksumValue
abbrev pub checksum_places : ℕ → List ℕ → List (Option Place)
checksum_places base octets =
    place_at (base + 56) 20 ∷ place_at (base + 56) 4 ∷ place_at (base + 60) 4 ∷ place_at (base + 64) 4 ∷ vector_at base octets 68 1
    ∷ place_at (base + 56) 20 ∷ []

-- all octets of a message, if its last field is these, and its end
abbrev pub end_places : Option Place → Bool → List (Option Place)
end_places whole true = whole ∷ whole ∷ []
end_places whole false = whole ∷ []

-- ---- messages, each with its octets as its last field or without

-- NEGO_MESSAGE (2.2.6.3): Header, Random, ProtocolVersion, AuthSchemes and Extensions
abbrev pub nego_places : ℕ → List ℕ → Bool → List (Option Place)
nego_places base octets unsaid =
    (place_at base (length octets) ∷ []) ++ (header_places base ++ ((place_at (base + 40) 32 ∷ place_at (base + 72) 8 ∷ [])
    ++ (schemes_places base octets ++ (extensions_places base octets ++ end_places (place_at base (length octets)) unsaid))))

-- EXCHANGE_MESSAGE (2.2.6.4): Header, AuthScheme and Exchange
abbrev pub exchange_places : ℕ → List ℕ → Bool → List (Option Place)
exchange_places base octets unsaid =
    (place_at base (length octets) ∷ []) ++ (header_places base ++ ((place_at (base + 40) 16 ∷ vector_at base octets 56 1 ∷ [])
    ++ end_places (place_at base (length octets)) unsaid))

-- VERIFY_MESSAGE (2.2.6.5): Header, AuthScheme and Checksum
abbrev pub verify_places : ℕ → List ℕ → Bool → List (Option Place)
verify_places base octets unsaid =
    (place_at base (length octets) ∷ []) ++ (header_places base ++ ((place_at (base + 40) 16 ∷ [])
    ++ (checksum_places base octets ++ end_places (place_at base (length octets)) unsaid)))

-- behind the places before stand those of the message that the octets begin with, or none if they begin with no such message
abbrev pub AddsPlaces : {A : Type 0} → Layout A → (A → List ℕ) → (Bool → List (Option Place)) → List ℕ → List (Option Place) → List (Option Place) → Type 0
AddsPlaces {A} layout written placed octets old new =
    ((v : A) × layout.part octets octets v × (unsaid : Option (List ℕ)) × IsUnsaid octets (written v) unsaid × (new ≡ old ++ placed (is_some unsaid)))
    ⊎ ((e : Error) × layout.rejects octets octets e × (new ≡ old))

-- so those of a message, told by its type (2.2.6.1)
pub record AddsMessage (base : ℕ) (octets : List ℕ) (old new : List (Option Place)) : Type 0 where
  pub short : length octets < 12 → new ≡ old
  pub nego : 12 ≤ length octets → type_number octets ≤ 1 → AddsPlaces nego_view_layout nego_octets (nego_places base octets) octets old new
  pub exchange : 12 ≤ length octets → 2 ≤ type_number octets → type_number octets ≤ 5
      → AddsPlaces exchange_view_layout exchange_octets (exchange_places base octets) octets old new
  pub verify : 12 ≤ length octets → type_number octets ≡ 6 → AddsPlaces verify_view_layout verify_octets (verify_places base octets) octets old new
  pub other : 12 ≤ length octets → 7 ≤ type_number octets → new ≡ old

-- so those of so many messages and one more, one behind another (2.2.6)
abbrev pub AddsMessages : ℕ → ℕ → List ℕ → List (Option Place) → List (Option Place) → Type 0
AddsMessages zero base octets old new = (IsFollowed octets → ⊥) × AddsMessage base octets old new
AddsMessages (suc n) base octets old new =
    IsFollowed octets × (between : List (Option Place)) × AddsMessage base (take (own_length octets) octets) old between
    × AddsMessages n (base + own_length octets) (drop (own_length octets) octets) between new

-- the places of one message, or of the list of several
abbrev pub negoex_places : List ℕ → List (Option Place) → Type 0
negoex_places octets places =
    ((IsFollowed octets → ⊥) × AddsMessage 0 octets [] places)
    ⊎ (IsFollowed octets × (n : ℕ) × (messages : List (Option Place)) × AddsMessages n 0 octets (place_at 0 (length octets) ∷ []) messages
    × (places ≡ messages ++ place_at 0 (length octets) ∷ []))
