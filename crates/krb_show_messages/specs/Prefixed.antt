-- The message within a KDC-PROXY-MESSAGE (MS-KKDCP, 2.2.2), behind its length as over TCP.
use Rattle.std.specs.Prelude.{◌≡◌, ◌⊎◌, ℕ, pos, ◌-◌, ◌≤◌, nat_eq, if◌then◌else◌, List, [], ◌∷◌, Option, None, Some, length, drop, codes}
use Rattle.byteorder.specs.Endian.{big_number}
use Rattle.krb_schema.specs.declared.item.Item.{Item}
use Rattle.krb_schema.specs.declared.shape.Role.{Role}
use Rattle.krb_show.specs.Leaves.{number_of, octets_of}
use Rattle.krb_show.specs.Pages.{◌then◌, struct_of}
use Rattle.krb_show.specs.Tokens.{Label, Token, plain}
use Rattle.krb_show.specs.Items.{shown, start}
use Rattle.krb_show.specs.RowWalk.{IsWalkBy}
use Rattle.krb_show.specs.declared.rows.stand.Secrets.TheVariants as secrets
use Rattle.krb_show.specs.declared.rows.walk.Walk.{Walk}
use Rattle.krb_show.specs.declared.rows.walk.Walk.TheVariants as walks

-- the first four octets are the number of those behind them, the highest first (RFC 4120, 7.2.2)
abbrev pub IsPrefixed : List ℕ → Type 0
IsPrefixed octets = (4 ≤ length octets) × (big_number 4 octets ≡ length octets - 4)

-- the row of a message to a KDC or of one, by its first octet (RFC 4120, 5.10)
abbrev pub message_row : List ℕ → Option (List ℕ)
message_row [] = None
message_row (first ∷ rest) =
    if nat_eq first 106 then Some (codes "AS-REQ")
    else if nat_eq first 107 then Some (codes "AS-REP")
    else if nat_eq first 108 then Some (codes "TGS-REQ")
    else if nat_eq first 109 then Some (codes "TGS-REP")
    else if nat_eq first 126 then Some (codes "KRB-ERROR")
    else None

module _ (tells : Role → List ℕ → Label → List ℕ → List Token → List Token → Type 0) where
  -- how many octets the message has, and the tokens of its items
  abbrev pub length_and_items : List ℕ → List Item → List Token → List Token → Type 0
  length_and_items message items =
      number_of (plain (codes "length")) (pos (length message))
      then shown tells message items (start secrets.Shown)

  -- octets behind whose length a message stands, by what the walk of the message comes to
  abbrev pub by_walk : Label → List ℕ → Walk → List Token → List Token → Type 0
  by_walk label octets (walks.Items items) = struct_of label (length_and_items (drop 4 octets) items.items)
  by_walk label octets walk = octets_of label octets

  -- octets behind whose length octets stand, by the row of these
  abbrev pub by_message_row : Option (List ℕ) → Label → List ℕ → List Token → List Token → Type 0
  by_message_row None label octets old new = octets_of label octets old new
  by_message_row (Some row) label octets old new = (walk : Walk) × IsWalkBy row row (drop 4 octets) walk × by_walk label octets walk old new

  -- a message of a KDC or to it (AS-REQ, AS-REP, TGS-REQ, TGS-REP, KRB-ERROR) behind its length; other octets as octets
  abbrev pub prefixed_of : Label → List ℕ → List Token → List Token → Type 0
  prefixed_of label octets old new =
      (IsPrefixed octets × by_message_row (message_row (drop 4 octets)) label octets old new)
      ⊎ ((IsPrefixed octets → ⊥) × octets_of label octets old new)
