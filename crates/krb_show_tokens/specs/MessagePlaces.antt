-- Where messages within tokens stand, and the two messages of a kpasswd message, in the order of the tokens of a page.
use Rattle.std.specs.Prelude.{◌≡◌, ◌⊎◌, ◌≤◌, ℕ, nat_eq, if◌then◌else◌, Bool, true, false, List, [], ◌∷◌, ◌++◌, Option, None, Some, length, drop, slice_index, codes}
use Rattle.krb_der_core.specs.Tlv.{tlv}
use Rattle.krb_message_fields.specs.declared.places.place.Place.{Place}
use Rattle.krb_show.specs.InnerPlaces.{ArePlacesByRow, place_at}
use Rattle.krb_show.specs.RowWalk.{IsWalkBy}
use Rattle.krb_show.specs.declared.rows.walk.Walk.{Walk}
use Rattle.krb_show.specs.declared.rows.walk.Walk.TheVariants as walks
use Rattle.krb_show_messages.specs.Formats.{formats_of}
use Rattle.krb_show_messages.specs.Places.{◌then◌, adds, formats_places}
use Rattle.krb_show_tokens.specs.Parts.{further}
use Rattle.krb_show_tokens.specs.Places.{number_places}

-- those of octets behind so many others, by the row of this name
abbrev pub adds_row : List ℕ → ℕ → List ℕ → List (Option Place) → List (Option Place) → Type 0
adds_row row start octets old new =
    (made : List (Option Place)) × ArePlacesByRow formats_of formats_places row start octets made × (new ≡ old ++ made)

-- ---- messages in tokens

-- the row of the message with this tag (RFC 4120, 5.10)
abbrev pub row_of_tag : ℕ → Option (List ℕ)
row_of_tag tag =
    if nat_eq tag 106 then Some (codes "AS-REQ")
    else (if nat_eq tag 107 then Some (codes "AS-REP")
    else (if nat_eq tag 108 then Some (codes "TGS-REQ")
    else (if nat_eq tag 109 then Some (codes "TGS-REP")
    else (if nat_eq tag 110 then Some (codes "AP-REQ")
    else (if nat_eq tag 111 then Some (codes "AP-REP")
    else (if nat_eq tag 126 then Some (codes "KRB-ERROR")
    else None))))))

-- the walk found an element of the row
abbrev pub has_items : Walk → Bool
has_items (walks.Items items) = true
has_items walk = false

-- KRB-TGT-REQ and KRB-TGT-REP have one tag (draft-swift-win2k-krb-user2user-03): the row of the first, of whose elements the message is one, and else that of
-- the second
abbrev pub IsUserRow : List ℕ → List ℕ → Type 0
IsUserRow message row =
    (walk : Walk) × IsWalkBy (codes "TGT-REQ") (codes "TGT-REQ") message walk
    × (row ≡ (if has_items walk then codes "TGT-REQ" else codes "TGT-REP"))

-- the row of a message, which its tag tells
abbrev pub IsRowOf : Option (List ℕ) → List ℕ → List ℕ → Type 0
IsRowOf (Some name) message row = row ≡ name
IsRowOf None message row = IsUserRow message row

abbrev pub IsMessageRow : List ℕ → List ℕ → Type 0
IsMessageRow message row = IsRowOf (row_of_tag (slice_index message 0)) message row

-- a message behind so many octets
abbrev pub adds_message : ℕ → List ℕ → List (Option Place) → List (Option Place) → Type 0
adds_message start message old new = (row : List ℕ) × IsMessageRow message row × adds_row row start message old new

-- whether octets are an element of that row
abbrev pub tells_message : List ℕ → Bool → Type 0
tells_message octets is_message =
    (row : List ℕ) × IsMessageRow octets row × (walk : Walk) × IsWalkBy row row octets walk × (is_message ≡ has_items walk)

-- ---- kpasswd messages (RFC 3244, 2)

-- the row of the first message, which its tag tells: AP-REP or AP-REQ (RFC 4120, 5.10)
abbrev pub first_row : List ℕ → List ℕ
first_row message = if nat_eq (slice_index message 0) 111 then codes "AP-REP" else codes "AP-REQ"

-- behind the six octets of its numbers stand two messages, of which the first is an element of DER
pub record AreMessages (first private octets : List ℕ) : Type 0 where
  pub numbers : 6 ≤ length octets
  pub tag : ℕ
  pub content : List ℕ
  pub is_first : first ≡ tlv tag content
  pub parts : drop 6 octets ≡ first ++ private

-- the same of octets before which so many others stand: so many stand before the one and before the other
pub record AreMessagesAt (start first_at private_at : ℕ) (first private octets : List ℕ) : Type 0 where
  pub are_messages : AreMessages first private octets
  pub is_first_at : first_at ≡ further start 6
  pub is_private_at : private_at ≡ further first_at (length first)

-- all of it, its numbers, the first message and KRB-PRIV, by their rows, and all of it
abbrev pub adds_kpasswd : List ℕ → List ℕ → ℕ → List (Option Place) → List (Option Place) → Type 0
adds_kpasswd first private size =
    adds (number_places 0 size)
    then adds_row (first_row first) 6 first
    then adds_row (codes "KRB-PRIV") (further 6 (length first)) private
    then adds (place_at 0 size ∷ [])

-- octets that are none have no places
abbrev pub kpasswd_places : List ℕ → List (Option Place) → Type 0
kpasswd_places octets places =
    ((first : List ℕ) × (private : List ℕ) × AreMessages first private octets × adds_kpasswd first private (length octets) [] places)
    ⊎ (((first private : List ℕ) → AreMessages first private octets → ⊥) × (places ≡ []))
