-- Pages with the places of elements.
use Rattle.std.specs.Prelude.{◌≡◌, ℕ, nat_eq, Bool, true, false, if◌then◌else◌, List, [], ◌∷◌, ◌++◌, Option, None, Some, length}
use Rattle.std.specs.Cmp.Lexicographic.{pointwise}
use Rattle.krb_message_fields.specs.declared.places.place.Place.{Place}
use Rattle.krb_schema.specs.declared.item.Item.{Item}
use Rattle.krb_show.specs.InnerPlaces.{ArePlacesByRow}
use Rattle.krb_show.specs.Items.{start}
use Rattle.krb_show.specs.PlacedItems.{shown_with_places}
use Rattle.krb_show.specs.Spots.{is_plain, spotted}
use Rattle.krb_show_text.specs.Text.{page_text}
use Rattle.krb_show.specs.Tokens.{Token}
use Rattle.krb_show.specs.declared.rows.stand.Secrets.TheVariants as secrets
use Rattle.krb_show.specs.declared.rows.walk.Walk.{Walk}
use Rattle.krb_show.specs.declared.rows.walk.Walk.TheVariants as walks
use Rattle.krb_show_messages.specs.Formats.{formats_of}
use Rattle.krb_show_pages.specs.CcachePlaces.{AreCcachePlaces}
use Rattle.krb_show_pages.specs.KeytabPlaces.{AreKeytabPlaces}
use Rattle.krb_show_negoex.specs.NegoexPlaces.{negoex_places}
use Rattle.krb_show_pages.specs.Pages.{is_reply}
use Rattle.krb_show_messages.specs.Places.{formats_places, pac_places}
use Rattle.krb_show_tokens.specs.MessagePlaces.{kpasswd_places}
use Rattle.krb_show_tokens.specs.TokenPlaces.{token_places}
use Rattle.krb_show_any.specs.Rows.{IsWalkOf, type_row}
use Rattle.krb_show_any.specs.declared.kind.Kind.{Kind}
use Rattle.krb_show_any.specs.declared.kind.Kind.TheVariants as kinds

-- whether two pages have one text
abbrev pub is_same_text : List Token → List Token → Bool
is_same_text first second = pointwise nat_eq (page_text first) (page_text second)

-- the tokens of these items with their places, if they have the text of the page, and else the page
pub record IsPlacedByItems (octets : List ℕ) (items : List Item) (page made : List Token) : Type 0 where
  pub placed : List Token
  pub are_placed : shown_with_places formats_of formats_places octets items (start secrets.Shown) [] placed
  pub is_made : made ≡ (if is_same_text placed page then placed else page)

-- those of the items of a walk; the page where there is no row, or a fault
abbrev pub IsPlacedBy : Walk → List ℕ → List Token → List Token → Type 0
IsPlacedBy (walks.Items items) octets page made = IsPlacedByItems octets items.items page made
IsPlacedBy walk octets page made = made ≡ page

-- the first token has a place
abbrev pub has_place : Option Place → Bool
has_place None = false
has_place (Some p) = true

abbrev pub is_placed : List Token → Bool
is_placed [] = false
is_placed (t ∷ ts) = has_place t.place

-- the page of a PA-PK-AS-REP is a struct of its alternative (RFC 4556, 3.2.3), which has no place of its own
abbrev pub within_choice : Bool → List (Option Place) → List (Option Place)
within_choice true found = None ∷ (found ++ None ∷ [])
within_choice false found = found

-- a type that is named: those of its row
abbrev pub type_places : List ℕ → List ℕ → List (Option Place) → Type 0
type_places name octets places =
    (found : List (Option Place)) × ArePlacesByRow formats_of formats_places (type_row name octets) 0 octets found
    × (places ≡ within_choice (is_reply name) found)

-- The places of the tokens of octets of a kind, in their order: those that the layout of a PAC gives (MS-PAC, 2.3 and 2.4), of messages of NEGOEX
-- (MS-NEGOEX, 2.2), of keytabs and of caches (MIT Kerberos, "Keytab file format" and "Credential cache file format"), of tokens of the GSS-API and of
-- kpasswd messages (RFC 3244, 2), and by their rows those of types that are named; none of other kinds.
abbrev pub are_places : Kind → List ℕ → List (Option Place) → Type 0
are_places kinds.Pac octets places = pac_places octets places
are_places kinds.Negoex octets places = negoex_places octets places
are_places kinds.Keytab octets places = AreKeytabPlaces octets places
are_places kinds.Ccache octets places = AreCcachePlaces octets places
are_places (kinds.Type name) octets places = type_places name.now octets places
are_places kinds.Token octets places = token_places octets places
are_places kinds.PasswordFrame octets places = kpasswd_places octets places
are_places other octets places = places ≡ []

-- each token with its place where the octets there are what it tells, if the first has none and there is an entry for each token
abbrev pub IsPlacedIn : Bool → Kind → List ℕ → List Token → List Token → Type 0
IsPlacedIn true kind octets page made = made ≡ page
IsPlacedIn false kind octets page made =
    (places : List (Option Place)) × are_places kind octets places
    × (made ≡ (if nat_eq (length places) (length page) then spotted is_plain 0 octets 0 places page else page))

-- those of octets of a kind
pub record IsPlacedPage (kind : Kind) (octets : List ℕ) (page made : List Token) : Type 0 where
  pub walk : Walk
  pub is_walk : IsWalkOf kind octets walk
  pub by_row : List Token
  pub is_by_row : IsPlacedBy walk octets page by_row
  pub is_placed_in : IsPlacedIn (is_placed by_row) kind octets by_row made
