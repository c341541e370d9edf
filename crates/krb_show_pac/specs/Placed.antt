-- The contents of buffers with their places.
use Rattle.std.specs.Prelude.{◌≡◌, ℕ, nat_eq, Bool, false, List, Option, None, Some}
use Rattle.std.specs.Cmp.Lexicographic.{pointwise}
use Rattle.krb_message_fields.specs.declared.places.place.Place.{Place}
use Rattle.krb_pac_contents.specs.Names.{name_of}
use Rattle.krb_show.specs.Spots.{is_plain, spotted}
use Rattle.krb_show.specs.Tokens.{Token}
use Rattle.krb_show.specs.declared.token.Form.{Form}
use Rattle.krb_show.specs.declared.token.Form.TheVariants as form

-- octets spell a text
abbrev pub is_spelled : Option (List ℕ) → List ℕ → Bool
is_spelled None text = false
is_spelled (Some spelled) text = pointwise nat_eq spelled text

-- octets of a buffer can be what a token tells: a text is in UTF-16 (MS-DTYP 2.3.10)
abbrev pub is_told : List ℕ → Token → Bool
is_told content t = by_form t.form
  where
    by_form : Form → Bool
    by_form form.Text = is_spelled (name_of content) t.octets
    by_form other = is_plain content t

-- behind so many tokens each with a place where the octets are what it tells, if the buffer has a place
abbrev pub placed_contents : Option Place → List ℕ → ℕ → List Token → List Token → Type 0
placed_contents None octets n old new = new ≡ old
placed_contents (Some p) octets n old new = (places : List (Option Place)) × (new ≡ spotted is_told p.offset octets n places old)
