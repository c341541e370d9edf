-- Where the first error of octets is: at the first fault of their kind's row, if that has the error's reason.
use Rattle.std.specs.Prelude.{◌≡◌, ℕ, nat_eq, Bool, true, false, if◌then◌else◌, List, [], ◌∷◌, Option, None, Some}
use Rattle.std.specs.Cmp.Lexicographic.{pointwise}
use Rattle.krb_schema.specs.declared.item.Fault.TheVariants as faults
use Rattle.krb_show_any.specs.Errors.{reason}
use Rattle.krb_show_any.specs.Frames.{IsPlaceInFrame}
use Rattle.krb_show_any.specs.Rows.{IsWalkOf}
use Rattle.krb_show_any.specs.declared.error.PageError.{PageError}
use Rattle.krb_show_any.specs.declared.error.PageError.TheVariants as page
use Rattle.krb_show_any.specs.declared.kind.Kind.{Kind}
use Rattle.krb_show_any.specs.declared.kind.Kind.TheVariants as kinds
use Rattle.krb_show.specs.declared.rows.walk.Walk.{Walk}
use Rattle.krb_show.specs.declared.rows.walk.Walk.TheVariants as walks

-- whether two errors have one reason
abbrev pub is_same_reason : PageError → PageError → Bool
is_same_reason e d = pointwise nat_eq (reason e) (reason d)

-- The place of an error after a walk: that of the first fault, if it has the error's reason. There is none where there is no row, or no fault.
abbrev pub place_in : PageError → Walk → Option ℕ
place_in e (walks.Fault (faults.Refused why at)) = if is_same_reason (page.Der why) e then Some at else None
place_in e walk = None

-- where this error of octets of a kind is, by the kind's row
pub record IsPlaceByRow (kind : Kind) (e : PageError) (octets : List ℕ) (place : Option ℕ) : Type 0 where
  pub walk : Walk
  pub is_walk : IsWalkOf kind octets walk
  pub is_place : place ≡ place_in e walk

-- a token that begins with the tag of a frame (RFC 2743, 3.1)
abbrev pub is_frame : Kind → List ℕ → Bool
is_frame kinds.Token [] = false
is_frame kinds.Token (first ∷ rest) = nat_eq first 96
is_frame kind octets = false

abbrev pub place_of : Bool → Kind → PageError → List ℕ → Option ℕ → Type 0
place_of true kind e octets place = IsPlaceInFrame e octets place
place_of false kind e octets place = IsPlaceByRow kind e octets place

-- where it is: in a frame in the message that stands there
abbrev pub IsPlaceOf : Kind → PageError → List ℕ → Option ℕ → Type 0
IsPlaceOf kind e octets place = place_of (is_frame kind octets) kind e octets place
