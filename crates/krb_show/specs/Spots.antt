-- The places of values in octets of formats that are no DER.
use Rattle.std.specs.Prelude.{ℕ, suc, ◌+◌, ◌^◌, nat_eq, nat_lt, ℤ, pos, Bool, true, if◌then◌else◌, ◌&&◌, ◌||◌, List, [], ◌∷◌, Option, None, Some, take, drop, length}
use Rattle.std.specs.Cmp.Lexicographic.{pointwise}
use Rattle.std.specs.List.{slice_get}
use Rattle.std.specs.Ordering.{int_eq}
use Rattle.byteorder.specs.Endian.{big_number, little_number, twos_complement}
use Rattle.krb_message_fields.specs.declared.places.place.Place.{Place}
use Rattle.krb_show.specs.declared.token.Form.{Form}
use Rattle.krb_show.specs.declared.token.Form.TheVariants as form
use Rattle.krb_show.specs.Tokens.{Token, placed_where}

-- ---- what octets tell

-- so many octets are this number: without a sign, or in two's complement
abbrev pub is_number : ℕ → ℕ → ℤ → Bool
is_number size number z = int_eq z (pos number) || int_eq z (twos_complement size number)

-- octets are a number of one to eight octets, most significant octet first or last
abbrev pub is_number_of : List ℕ → ℤ → Bool
is_number_of content z =
    nat_lt 0 (length content) && nat_lt (length content) 9
    && (is_number (length content) (big_number (length content) content) z || is_number (length content) (little_number (length content) content) z)

-- octets are what a token with this number or this name is: a number is theirs, and octets that are no name are the same
abbrev pub is_told : Form → List ℕ → List ℕ → Option ℤ → List (List ℕ) → Bool
is_told form.Number content octets (Some z) components = is_number_of content z
is_told form.Text content octets number [] = pointwise nat_eq content octets
is_told form.Octets content octets number components = pointwise nat_eq content octets
is_told form.Secret content octets number components = pointwise nat_eq content octets
is_told form.Cipher content octets number components = pointwise nat_eq content octets
is_told f content octets number components = true

-- what a token tells
abbrev pub is_plain : List ℕ → Token → Bool
is_plain content t = is_told t.form content t.octets t.number t.components

-- ---- places

-- the octets at a place
abbrev pub content_at : Place → List ℕ → List ℕ
content_at p octets = take p.size (drop p.offset octets)

-- there are so many octets
abbrev pub is_in : Place → List ℕ → Bool
is_in p octets = nat_lt (p.offset + p.size) (suc (length octets))

abbrev pub content_in : Place → List ℕ → Option (List ℕ)
content_in p octets = if is_in p octets then Some (content_at p octets) else None

-- a place in octets before which so many others stand
abbrev pub behind : ℕ → Place → Place
behind base p = record { offset = base + p.offset; size = p.size }

module _ (told : List ℕ → Token → Bool) where
  -- the place of a token in octets before which so many others stand, if the octets there are what it tells
  abbrev pub found : ℕ → List ℕ → Option Place → Option Token → Option Place
  found base octets (Some p) (Some t) =
      if nat_lt (base + p.offset) (2 ^ 64) && is_in p octets && told (content_at p octets) t then Some (behind base p) else None
  found base octets p t = None

  -- the tokens from an index on, each with such a place, in the order of the places
  abbrev pub spotted : ℕ → List ℕ → ℕ → List (Option Place) → List Token → List Token
  spotted base octets i [] page = page
  spotted base octets i (p ∷ ps) page =
      spotted base octets (suc i) ps (placed_where (found base octets p (slice_get page i)) i page)
