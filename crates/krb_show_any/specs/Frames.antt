-- Where the first error of a message in a frame of the GSS-API is (RFC 2743, 3.1; RFC 4121, 4.1).
use Rattle.std.specs.Prelude.{◌≡◌, ◌⊎◌, ℕ, ◌+◌, ◌-◌, ◌^◌, min, nat_eq, ◌&&◌, if◌then◌else◌, Bool, true, false, List, [], ◌∷◌, ◌++◌, Option, None, Some, length, codes}
use Rattle.std.specs.Cmp.Lexicographic.{pointwise}
use Rattle.krb_der_x509.specs.ObjectIdentifier.{object_identifier}
use Rattle.krb_gss_tokens.specs.Token.{token}
use Rattle.krb_schema.specs.declared.item.Fault.TheVariants as faults
use Rattle.krb_show_tokens.specs.Frames.{IsFramed, spnego}
use Rattle.krb_show_any.specs.Errors.{reason}
use Rattle.krb_show.specs.RowWalk.{IsWalkBy}
use Rattle.krb_show_any.specs.declared.error.PageError.{PageError}
use Rattle.krb_show_any.specs.declared.error.PageError.TheVariants as page
use Rattle.krb_show_any.specs.declared.frames.Framed.{Framed}
use Rattle.krb_show.specs.declared.rows.walk.Walk.{Walk}
use Rattle.krb_show.specs.declared.rows.walk.Walk.TheVariants as walks

-- The type of the message behind a token id: KRB-AP-REQ, KRB-AP-REP and KRB-ERROR (RFC 4121, 4.1), KRB-TGT-REQ and KRB-TGT-REP
-- (draft-swift-win2k-krb-user2user-03), KRB-AS-REQ and KRB-AS-REP (draft-zhu-pku2u-09, 6).
abbrev pub type_of_id : ℕ → ℕ → Option (List ℕ)
type_of_id first second =
    if nat_eq first 1 && nat_eq second 0 then Some (codes "AP-REQ")
    else if nat_eq first 2 && nat_eq second 0 then Some (codes "AP-REP")
    else if nat_eq first 3 && nat_eq second 0 then Some (codes "KRB-ERROR")
    else if nat_eq first 4 && nat_eq second 0 then Some (codes "TGT-REQ")
    else if nat_eq first 4 && nat_eq second 1 then Some (codes "TGT-REP")
    else if nat_eq first 5 && nat_eq second 0 then Some (codes "AS-REQ")
    else if nat_eq first 6 && nat_eq second 0 then Some (codes "AS-REP")
    else None

-- This message stands behind a token id, which stands after so many octets.
abbrev pub IsBehindId : ℕ → List ℕ → Framed → Type 0
IsBehindId start [] f = ⊥
IsBehindId start (first ∷ []) f = ⊥
IsBehindId start (first ∷ second ∷ message) f =
    (f.start ≡ min (start + 2) (2 ^ 64 - 1)) × (type_of_id first second ≡ Some f.type_name.now) × (f.message.now ≡ message)

-- This message stands behind a mechanism: under SPNEGO a NegotiationToken (RFC 4178, 4.2), else what a token id says.
abbrev pub IsBehind : Bool → ℕ → List ℕ → Framed → Type 0
IsBehind true start inner f = (f.start ≡ start) × (f.type_name.now ≡ codes "NegotiationToken (negTokenInit)") × (f.message.now ≡ inner)
IsBehind false start inner f = IsBehindId start inner f

abbrev pub is_spnego : List ℕ → Bool
is_spnego mechanism = pointwise nat_eq mechanism spnego

-- how many octets stand before what is behind the mechanism
abbrev pub start_of : List ℕ → List ℕ → ℕ
start_of mechanism inner = length (token (object_identifier mechanism ++ inner)) - length inner

-- A frame is at the start of the octets, and in it stands this message; none does, or there is no frame.
abbrev pub StandsIn : List ℕ → Framed → Type 0
StandsIn octets f = (mechanism : List ℕ) × (inner : List ℕ) × IsFramed mechanism inner octets × IsBehind (is_spnego mechanism) (start_of mechanism inner) inner f

abbrev pub StandsNone : List ℕ → Type 0
StandsNone octets =
    ((mechanism inner : List ℕ) → IsFramed mechanism inner octets → ⊥)
    ⊎ ((mechanism : List ℕ) × (inner : List ℕ) × IsFramed mechanism inner octets
    × ((f : Framed) → IsBehind (is_spnego mechanism) (start_of mechanism inner) inner f → ⊥))

-- ---- the place

-- the place of the fault of a walk of a message that begins after so many octets, if it has the error's reason
abbrev pub place_from : PageError → ℕ → Walk → Option ℕ
place_from e start (walks.Fault (faults.Refused why at)) =
    if pointwise nat_eq (reason (page.Der why)) (reason e) then Some (min (start + at) (2 ^ 64 - 1)) else None
place_from e start walk = None

-- where this error is in the message that stands in the frame
pub record IsPlaceIn (e : PageError) (f : Framed) (place : Option ℕ) : Type 0 where
  pub walk : Walk
  pub is_walk : IsWalkBy f.type_name.now f.type_name.now f.message.now walk
  pub is_place : place ≡ place_from e f.start walk

-- where it is, if a message stands there
abbrev pub IsPlaceInFrame : PageError → List ℕ → Option ℕ → Type 0
IsPlaceInFrame e octets place = ((f : Framed) × StandsIn octets f × IsPlaceIn e f place) ⊎ (StandsNone octets × (place ≡ None))
