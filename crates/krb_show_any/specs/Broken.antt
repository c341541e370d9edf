-- Rules of standards that octets of a kind break which are legal DER.
use Rattle.std.specs.Prelude.{◌≡◌, ◌⊎◌, ℕ, ◌+◌, ◌-◌, ◌^◌, min, Bool, true, false, List, [], map}
use Rattle.krb_schema.specs.Rules.{AreBroken}
use Rattle.krb_schema.specs.declared.item.Item.{Item}
use Rattle.krb_show_any.specs.Frames.{StandsIn, StandsNone}
use Rattle.krb_show_any.specs.Places.{is_frame}
use Rattle.krb_show_any.specs.Rows.{IsWalkOf}
use Rattle.krb_show_any.specs.declared.frames.Framed.{Framed}
use Rattle.krb_show_any.specs.declared.kind.Kind.{Kind}
use Rattle.krb_show.specs.RowWalk.{IsWalkBy}
use Rattle.krb_show.specs.declared.rows.walk.Walk.{Walk}
use Rattle.krb_show.specs.declared.rows.walk.Walk.TheVariants as walks

-- The items of a walk that break the rule of their standard, in order. There are none where there is no row, or a fault.
abbrev pub AreBrokenIn : List ℕ → Walk → List Item → Type 0
AreBrokenIn octets (walks.Items items) broken = AreBroken octets items.items broken
AreBrokenIn octets walk broken = broken ≡ []

-- those of octets of a kind, by its row
pub record AreBrokenByRow (kind : Kind) (octets : List ℕ) (broken : List Item) : Type 0 where
  pub walk : Walk
  pub is_walk : IsWalkOf kind octets walk
  pub are_broken : AreBrokenIn octets walk broken

-- ---- in a frame of the GSS-API (RFC 2743, 3.1)

-- an item of octets before which so many stand
abbrev pub moved : ℕ → Item → Item
moved start i = record i { offset = min (start + i.offset) (2 ^ 64 - 1) }

-- those of the message in a frame, with their places in the frame
pub record AreBrokenFrom (f : Framed) (broken : List Item) : Type 0 where
  pub walk : Walk
  pub is_walk : IsWalkBy f.type_name.now f.type_name.now f.message.now walk
  pub within : List Item
  pub are_broken : AreBrokenIn f.message.now walk within
  pub are_moved : broken ≡ map (moved f.start) within

-- those of the message that stands there, if one does
abbrev pub AreBrokenInFrame : List ℕ → List Item → Type 0
AreBrokenInFrame octets broken = ((f : Framed) × StandsIn octets f × AreBrokenFrom f broken) ⊎ (StandsNone octets × (broken ≡ []))

-- ---- of octets of a kind

abbrev pub broken_of : Bool → Kind → List ℕ → List Item → Type 0
broken_of true kind octets broken = AreBrokenInFrame octets broken
broken_of false kind octets broken = AreBrokenByRow kind octets broken

-- those of octets of a kind: in a frame of the message that stands there
abbrev pub AreBrokenOf : Kind → List ℕ → List Item → Type 0
AreBrokenOf kind octets broken = broken_of (is_frame kind octets) kind octets broken
