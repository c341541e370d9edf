-- Where in a token of the GSS-API what its page tells stands, in the order of the tokens of the page.
use Rattle.std.specs.Prelude.{◌≡◌, ◌⊎◌, ℕ, zero, suc, nat_eq, nat_lt, ◌&&◌, ◌||◌, Bool, true, false, List, [], ◌∷◌, ◌++◌, Option, None, Some, length, drop, slice_index, codes}
use Rattle.krb_gss_tokens.specs.Mic.{Mic}
use Rattle.krb_message_fields.specs.declared.places.place.Place.{Place}
use Rattle.krb_schema.specs.declared.shape.Role.{Role}
use Rattle.krb_schema.specs.declared.shape.Role.TheVariants as roles
use Rattle.krb_show.specs.InnerPlaces.{place_at}
use Rattle.krb_show.specs.Items.{start}
use Rattle.krb_show.specs.PlacedItems.{shown_with_places}
use Rattle.krb_show.specs.RowWalk.{IsWalkBy}
use Rattle.krb_show.specs.Tokens.{Token}
use Rattle.krb_show.specs.declared.rows.stand.Secrets.TheVariants as secrets
use Rattle.krb_show.specs.declared.rows.walk.Walk.{Walk}
use Rattle.krb_show.specs.declared.rows.walk.Walk.TheVariants as walks
use Rattle.krb_show.specs.declared.token.Form.{Form}
use Rattle.krb_show.specs.declared.token.Form.TheVariants as form
use Rattle.krb_show_messages.specs.Formats.{formats_of}
use Rattle.krb_show_messages.specs.Places.{◌then◌, adds, formats_places}
use Rattle.krb_show_tokens.specs.Frames.{IsContent}
use Rattle.krb_show_tokens.specs.Heads.{IsHead}
use Rattle.krb_show_tokens.specs.Kinds.{kind_of}
use Rattle.krb_show_tokens.specs.MessagePlaces.{adds_message, tells_message}
use Rattle.krb_show_tokens.specs.Parts.{IsElement, IsElementAt, NoElement, further}
use Rattle.krb_show_tokens.specs.Places.{mic_places, wrap_places}
use Rattle.krb_show_tokens.specs.Told.{IsMicOf}
use Rattle.krb_show_tokens.specs.declared.heads.Head.{Head}
use Rattle.krb_show_tokens.specs.declared.heads.Head.TheVariants as heads
use Rattle.krb_show_tokens.specs.declared.places.negotiations.Held.{Held}
use Rattle.krb_show_tokens.specs.declared.places.negotiations.Held.TheVariants as held
use Rattle.krb_show_tokens.specs.declared.tokens.TokenKind.{TokenKind}
use Rattle.krb_show_tokens.specs.declared.tokens.TokenKind.TheVariants as kind

-- what is added to the places before it
abbrev pub Adding : Type 1
Adding = List (Option Place) → List (Option Place) → Type 0

-- nothing
abbrev pub adds_none : Adding
adds_none old new = new ≡ old

-- ---- the header of a message of IAKERB (draft-ietf-kitten-iakerb-03, 3): up to three fields, each under its explicit tag

-- what stands under a tag
abbrev pub adds_tagged : ℕ → List ℕ → Adding
adds_tagged start octets old new =
    ((at : ℕ) × (next : ℕ) × (content : List ℕ) × (rest : List ℕ) × IsElementAt start at next content rest octets
    × (new ≡ old ++ place_at at (length content) ∷ []))
    ⊎ (NoElement octets × (new ≡ old))

-- the first of these fields, if there is one, and the others behind it
abbrev pub adds_field : ℕ → List ℕ → ℕ → List ℕ → Adding
adds_field start octets next rest old new =
    ((at : ℕ) × (content : List ℕ) × IsElementAt start at next content rest octets × adds_tagged at content old new)
    ⊎ (NoElement octets × (next ≡ start) × (rest ≡ octets) × (new ≡ old))

abbrev pub adds_fields : ℕ → ℕ → List ℕ → Adding
adds_fields zero start octets old new = new ≡ old
adds_fields (suc n) start octets old new =
    (next : ℕ) × (rest : List ℕ) × (between : List (Option Place)) × adds_field start octets next rest old between × adds_fields n next rest between new

abbrev pub adds_header : ℕ → List ℕ → Adding
adds_header start octets =
    adds (place_at start (length octets) ∷ []) then adds_fields 3 start octets then adds (place_at start (length octets) ∷ [])

-- ---- what stands behind the mechanism of a frame (RFC 4121, 4.1)

-- behind the token id of IAKERB: a header and a message
abbrev pub adds_proxied : ℕ → List ℕ → Adding
adds_proxied start octets old new =
    ((at : ℕ) × (next : ℕ) × (header : List ℕ) × (message : List ℕ) × IsElementAt start at next header message octets
    × (adds_header at header then adds_message next message) old new)
    ⊎ (NoElement octets × (new ≡ old))

-- behind another: a message
abbrev pub adds_behind_id : Bool → ℕ → List ℕ → Adding
adds_behind_id true start octets = adds_proxied start octets
adds_behind_id false start octets = adds_message start octets

-- 05 01: the token id of messages of IAKERB
abbrev pub is_proxy_id : List ℕ → Bool
is_proxy_id octets = nat_eq (slice_index octets 0) 5 && nat_eq (slice_index octets 1) 1

-- the token id, and what stands behind it; nothing of fewer than two octets
abbrev pub adds_by_id : Bool → ℕ → List ℕ → Adding
adds_by_id true start octets = adds_none
adds_by_id false start octets =
    adds (place_at start 2 ∷ []) then adds_behind_id (is_proxy_id octets) (further start 2) (drop 2 octets)

abbrev pub adds_kerberos : ℕ → List ℕ → Adding
adds_kerberos start octets = adds_by_id (nat_lt (length octets) 2) start octets

-- ---- frames (RFC 2743, 3.1)

-- within the element of the frame that of the mechanism, and the octets behind that
pub record AreFrameParts (start content_at mechanism_at inner_at : ℕ) (content mechanism inner octets : List ℕ) : Type 0 where
  pub next : ℕ
  pub rest : List ℕ
  pub frame : IsElementAt start content_at next content rest octets
  pub parts : IsElementAt content_at mechanism_at inner_at mechanism inner content

-- all that stands in the frame, the mechanism, what is added of the octets behind it, and all that stands in the frame; nothing where there is no frame
abbrev pub adds_frame : (ℕ → List ℕ → Adding) → ℕ → List ℕ → Adding
adds_frame adds_inner start octets old new =
    ((content_at : ℕ) × (mechanism_at : ℕ) × (inner_at : ℕ) × (content : List ℕ) × (mechanism : List ℕ) × (inner : List ℕ)
    × AreFrameParts start content_at mechanism_at inner_at content mechanism inner octets
    × (adds (place_at content_at (length content) ∷ place_at mechanism_at (length mechanism) ∷ [])
    then adds_inner inner_at inner then adds (place_at content_at (length content) ∷ [])) old new)
    ⊎ (((content_at mechanism_at inner_at : ℕ) (content mechanism inner : List ℕ)
    → AreFrameParts start content_at mechanism_at inner_at content mechanism inner octets → ⊥) × (new ≡ old))

-- ---- tokens of mechanisms within a negotiation (RFC 4178, 4.2)

-- whether octets are a message that is told there: any but TGS-REQ and TGS-REP
abbrev pub is_tgs : ℕ → Bool
is_tgs tag = nat_eq tag 108 || nat_eq tag 109

abbrev pub tells_but_tgs : Bool → List ℕ → Bool → Type 0
tells_but_tgs true message told = told ≡ false
tells_but_tgs false message told = tells_message message told

-- whether such a message stands behind the two octets of a token id
abbrev pub tells_by_size : Bool → List ℕ → Bool → Type 0
tells_by_size true inner told = told ≡ false
tells_by_size false inner told = tells_but_tgs (is_tgs (slice_index (drop 2 inner) 0)) (drop 2 inner) told

-- whether a content is a mechanism, a token id and such a message
abbrev pub tells_content : List ℕ → Bool → Type 0
tells_content content told =
    ((mechanism : List ℕ) × (inner : List ℕ) × IsContent mechanism inner content × tells_by_size (nat_lt (length inner) 2) inner told)
    ⊎ (((mechanism inner : List ℕ) → IsContent mechanism inner content → ⊥) × (told ≡ false))

-- whether octets are one frame around such a content (RFC 2743, 3.1)
abbrev pub tells_frame : List ℕ → Bool → Type 0
tells_frame octets told =
    ((content : List ℕ) × IsElement content [] octets × tells_content content told)
    ⊎ (((content : List ℕ) → IsElement content [] octets → ⊥) × (told ≡ false))

-- whether a token of a mechanism is one: it begins with the tag of a frame
abbrev pub tells_by_tag : Bool → List ℕ → Bool → Type 0
tells_by_tag true octets told = tells_frame octets told
tells_by_tag false octets told = told ≡ false

abbrev pub tells_token : List ℕ → Bool → Type 0
tells_token octets told = tells_by_tag (nat_eq (slice_index octets 0) 96) octets told

abbrev pub adds_opened : Bool → ℕ → List ℕ → Adding
adds_opened true base octets = adds_frame adds_kerberos base octets
adds_opened false base octets = adds (place_at base (length octets) ∷ [])

-- `mechToken` and `responseToken`, which the row has as octets where they are no message without a frame
abbrev pub adds_mechanism_token : ℕ → List ℕ → Adding
adds_mechanism_token base octets old new = (told : Bool) × tells_token octets told × adds_opened told base octets old new

-- `mechListMIC`: a MIC token has the places of its fields (RFC 4178, 5)
abbrev pub adds_list_mic : ℕ → List ℕ → Adding
adds_list_mic base octets old new =
    ((t : Mic) × IsMicOf octets t × (new ≡ old ++ mic_places base (length octets)))
    ⊎ (((t : Mic) → IsMicOf octets t → ⊥) × (new ≡ old ++ place_at base (length octets) ∷ []))

-- ---- negotiations (RFC 4178, 4.2)

-- what a token of a row holds
abbrev pub held_by_role : Role → Held
held_by_role roles.MechanismToken = held.MechanismToken
held_by_role roles.MechanismListMic = held.ListMic
held_by_role role = held.Value

abbrev pub held_of : Form → Role → Held
held_of form.Octets role = held_by_role role
held_of other role = held.Value

-- that of such octets, or of any value
abbrev pub adds_held : Held → ℕ → ℕ → List ℕ → Adding
adds_held held.MechanismToken base size octets = adds_mechanism_token base octets
adds_held held.ListMic base size octets = adds_list_mic base octets
adds_held held.Value base size octets = adds (place_at base size ∷ [])

abbrev pub adds_placed : Option Place → ℕ → Token → Adding
adds_placed None base t = adds (None ∷ [])
adds_placed (Some p) base t = adds_held (held_of t.form t.label.role) (further base p.offset) p.size t.octets

-- those of tokens of a row, whose places count from so many octets on
abbrev pub adds_each : ℕ → List Token → Adding
adds_each base [] = adds_none
adds_each base (t ∷ ts) = adds_placed t.place base t then adds_each base ts

-- the elements of a negotiation's token, by the walk of its row; nothing where the octets are none
abbrev pub adds_walked : Walk → ℕ → List ℕ → Adding
adds_walked (walks.Items items) base octets old new =
    (page : List Token) × shown_with_places formats_of formats_places octets items.items (start secrets.Shown) [] page × adds_each base page old new
adds_walked walk base octets old new = new ≡ old

-- NegTokenInit and NegTokenResp, each an alternative of NegotiationToken
abbrev pub neg_token_init : List ℕ
neg_token_init = codes "NegotiationToken (negTokenInit)"

abbrev pub neg_token_resp : List ℕ
neg_token_resp = codes "NegotiationToken (negTokenResp)"

abbrev pub adds_negotiation : List ℕ → ℕ → List ℕ → Adding
adds_negotiation row base octets old new = (walk : Walk) × IsWalkBy row row octets walk × adds_walked walk base octets old new

-- ---- tokens

-- by what the frame says that it holds
abbrev pub adds_by_head : Head → ℕ → List ℕ → Adding
adds_by_head heads.Negotiation base octets = adds_frame (adds_negotiation neg_token_init) base octets
adds_by_head head base octets = adds_frame adds_kerberos base octets

abbrev pub adds_framed : ℕ → List ℕ → Adding
adds_framed base octets old new = (head : Head) × IsHead octets head × adds_by_head head base octets old new

-- by the kind
abbrev pub adds_by_kind : TokenKind → List ℕ → Adding
adds_by_kind kind.Mic octets = adds (mic_places 0 (length octets))
adds_by_kind kind.Wrap octets = adds (wrap_places 0 (length octets))
adds_by_kind kind.Framed octets = adds_framed 0 octets
adds_by_kind kind.NegTokenInit octets = adds_negotiation neg_token_init 0 octets
adds_by_kind kind.NegTokenResp octets = adds_negotiation neg_token_resp 0 octets
adds_by_kind kind.Empty octets = adds_none
adds_by_kind kind.Unknown octets = adds_none

-- a token, told by its first octet
abbrev pub token_places : List ℕ → List (Option Place) → Type 0
token_places octets places = adds_by_kind (kind_of octets) octets [] places
