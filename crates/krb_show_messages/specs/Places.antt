-- Places of the tokens of formats that are no DER: one for each token, in their order. They count the octets before them from the format's first.
use Rattle.std.specs.Prelude.{◌≡◌, ◌≢◌, ◌⊎◌, ℕ, suc, nat_eq, Bool, true, false, if◌then◌else◌, ◌+◌, ◌-◌, ◌*◌, List, [], ◌∷◌, ◌++◌, length, take, drop, Option, None, Some, codes}
use Rattle.krb_message_fields.specs.declared.places.place.Place.{Place}
use Rattle.krb_pac.specs.Numbered.{NumberedBuffer, NumberedPacIs}
use Rattle.krb_schema.specs.declared.item.Item.{Item}
use Rattle.krb_schema.specs.declared.shape.Role.TheVariants as roles
use Rattle.krb_show.specs.InnerPlaces.{ArePlacesByRow, place_at, places_behind}
use Rattle.krb_show.specs.Items.{start}
use Rattle.krb_show.specs.PlacedItems.{Placing, shown_with_places}
use Rattle.krb_show.specs.RowWalk.{IsWalkBy}
use Rattle.krb_show.specs.Tokens.{Token}
use Rattle.krb_show.specs.declared.rows.stand.Secrets.TheVariants as secrets
use Rattle.krb_show.specs.declared.rows.walk.Walk.{Walk}
use Rattle.krb_show.specs.declared.rows.walk.Walk.TheVariants as walks
use Rattle.krb_show_messages.specs.Formats.{gss_checksum, no_formats, win2k_pac}
use Rattle.krb_show_messages.specs.GssChecksum.{IsGssChecksum, delegates, dlgth}
use Rattle.krb_show_messages.specs.Pac.{IsNoPac, plain_octets}
use Rattle.krb_show_messages.specs.Prefixed.{IsPrefixed, message_row}

-- all of so many octets
abbrev pub all_places : ℕ → List (Option Place)
all_places size = place_at 0 size ∷ []

-- within these formats are no others: octets are octets there
abbrev pub no_places : Placing
no_places role number octets places = places ≡ []

-- ---- what is added to the places before it

-- these places
abbrev pub adds : List (Option Place) → List (Option Place) → List (Option Place) → Type 0
adds places old new = new ≡ old ++ places

infixl 20 ◌then◌
-- the one, then the other
abbrev pub ◌then◌ : (List (Option Place) → List (Option Place) → Type 0) → (List (Option Place) → List (Option Place) → Type 0)
    → List (Option Place) → List (Option Place) → Type 0
(first then second) old new = (between : List (Option Place)) × first old between × second between new

-- ---- a PAC (MS-PAC, 2.3 and 2.4)

-- the octets that an entry names, if they are shown behind it
abbrev pub named_places : Bool → NumberedBuffer → List (Option Place)
named_places true p = place_at p.info.offset p.info.cb_buffer_size ∷ []
named_places false p = []

-- a buffer whose entry, PAC_INFO_BUFFER, begins there: the entry, its fields ulType, cbBufferSize and Offset, the buffer's octets, and the entry
abbrev pub buffer_places : Bool → ℕ → NumberedBuffer → List (Option Place)
buffer_places has_octets at p =
    (place_at at 16 ∷ place_at at 4 ∷ place_at (at + 4) 4 ∷ place_at (at + 8) 8 ∷ []) ++ (named_places has_octets p ++ place_at at 16 ∷ [])

-- the buffers from buffer i on, whose entry begins at 8 + 16 i
abbrev pub each_places : Bool → ℕ → List NumberedBuffer → List (Option Place)
each_places has_octets i [] = []
each_places has_octets i (p ∷ ps) = buffer_places has_octets (8 + 16 * i) p ++ each_places has_octets (suc i) ps

-- a PAC of so many octets that is the list of its buffers
abbrev pub plain_places : ℕ → List NumberedBuffer → List (Option Place)
plain_places size pac = (place_at 0 size ∷ []) ++ (each_places true 0 pac ++ place_at 0 size ∷ [])

-- any other PAC: the list of its entries, and all its octets
abbrev pub other_places : ℕ → List NumberedBuffer → List (Option Place)
other_places size pac =
    (place_at 0 size ∷ place_at 8 (16 * length pac) ∷ [])
    ++ (each_places false 0 pac ++ place_at 8 (16 * length pac) ∷ place_at 0 size ∷ place_at 0 size ∷ [])

abbrev pub directory_places : List ℕ → List NumberedBuffer → List (Option Place) → Type 0
directory_places octets pac places =
    ((octets ≡ plain_octets pac) × (places ≡ plain_places (length octets) pac))
    ⊎ ((octets ≢ plain_octets pac) × (places ≡ other_places (length octets) pac))

-- octets that are a PAC, and others
abbrev pub pac_places : List ℕ → List (Option Place) → Type 0
pac_places octets places =
    ((pac : List NumberedBuffer) × NumberedPacIs octets pac × directory_places octets pac places)
    ⊎ (IsNoPac octets × (places ≡ all_places (length octets)))

-- ---- the checksum of the GSS-API (RFC 4121, 4.1.1)

-- Exts, the octets from an offset on, where there are any
abbrev pub exts_places : ℕ → ℕ → List (Option Place)
exts_places at size = if nat_eq at size then [] else place_at at (size - at) ∷ []

-- what those have that delegate: DlgOpt, Dlgth, what Deleg is told as, and Exts
abbrev pub delegation_places : List ℕ → List (Option Place) → List (Option Place)
delegation_places octets deleg =
    (place_at 24 2 ∷ place_at 26 2 ∷ []) ++ (deleg ++ exts_places (28 + dlgth octets) (length octets))

-- what stands behind Flags: of those that delegate the places of Deleg are those of a KRB-CRED behind 28 octets
abbrev pub places_behind_flags : Bool → List ℕ → List (Option Place) → Type 0
places_behind_flags true octets rest =
    (deleg : List (Option Place)) × ArePlacesByRow no_formats no_places (codes "KRB-CRED") 28 (take (dlgth octets) (drop 28 octets)) deleg
    × (rest ≡ delegation_places octets deleg)
places_behind_flags false octets rest = rest ≡ exts_places 24 (length octets)

abbrev pub rest_places : List ℕ → List (Option Place) → Type 0
rest_places octets rest = places_behind_flags (delegates octets) octets rest

-- Lgth, Bnd, Flags and what stands behind them
abbrev pub checksum_places : ℕ → List (Option Place) → List (Option Place)
checksum_places size rest = (place_at 0 size ∷ place_at 0 4 ∷ place_at 4 16 ∷ place_at 20 4 ∷ []) ++ (rest ++ place_at 0 size ∷ [])

-- such a checksum, and other octets
abbrev pub gss_checksum_places : List ℕ → List (Option Place) → Type 0
gss_checksum_places octets places =
    (IsGssChecksum octets × (rest : List (Option Place)) × rest_places octets rest × (places ≡ checksum_places (length octets) rest))
    ⊎ ((IsGssChecksum octets → ⊥) × (places ≡ all_places (length octets)))

-- ---- a message behind its length (MS-KKDCP, 2.2.2)

-- so many octets, the length and what the message is told as
abbrev pub message_places : ℕ → List (Option Place) → List (Option Place)
message_places size message = (place_at 0 size ∷ place_at 0 4 ∷ []) ++ (message ++ place_at 0 size ∷ [])

-- octets behind whose length a message of these items stands
abbrev pub items_places : List ℕ → List Item → List (Option Place) → Type 0
items_places octets items places =
    (page : List Token) × shown_with_places no_formats no_places (drop 4 octets) items (start secrets.Shown) [] page
    × (places ≡ message_places (length octets) (places_behind 4 page))

-- by what the walk of the message comes to
abbrev pub message_walk_places : List ℕ → Walk → List (Option Place) → Type 0
message_walk_places octets (walks.Items items) places = items_places octets items.items places
message_walk_places octets walk places = places ≡ all_places (length octets)

-- octets behind whose length octets stand, by the row of these
abbrev pub row_places : Option (List ℕ) → List ℕ → List (Option Place) → Type 0
row_places None octets places = places ≡ all_places (length octets)
row_places (Some row) octets places = (walk : Walk) × IsWalkBy row row (drop 4 octets) walk × message_walk_places octets walk places

abbrev pub prefixed_places : List ℕ → List (Option Place) → Type 0
prefixed_places octets places =
    (IsPrefixed octets × row_places (message_row (drop 4 octets)) octets places)
    ⊎ ((IsPrefixed octets → ⊥) × (places ≡ all_places (length octets)))

-- ---- octets within elements: ad-data behind its ad-type (RFC 4120, 5.2.6), a checksum behind its cksumtype (5.2.9), and kerb-message (MS-KKDCP, 2.2.2)

-- behind this number those of a format, behind another that of all octets
abbrev pub behind_number_places : List ℕ → List ℕ → List ℕ → (List (Option Place) → Type 0) → List (Option Place) → Type 0
behind_number_places wanted number octets format places =
    ((number ≡ wanted) × format places) ⊎ ((number ≢ wanted) × (places ≡ all_places (length octets)))

-- where what `formats_of` says is told of octets stands in them
abbrev pub formats_places : Placing
formats_places roles.AuthorizationData number octets places = behind_number_places win2k_pac number octets (pac_places octets) places
formats_places roles.Checksum number octets places = behind_number_places gss_checksum number octets (gss_checksum_places octets) places
formats_places roles.PrefixedMessage number octets places = prefixed_places octets places
formats_places role number octets places = places ≡ all_places (length octets)
