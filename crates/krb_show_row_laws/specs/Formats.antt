-- What formats that are no DER have to tell, for pages by rows to tell octets.
use Rattle.std.specs.Prelude.{◌≡◌, ℕ, true, List, [], ◌∷◌, None, Some}
use Rattle.krb_der_core.specs.Encoding.{IsOctets}
use Rattle.krb_schema.specs.declared.shape.Role.{Role}
use Rattle.krb_show.specs.Tokens.{Label, Token}
use Rattle.krb_show_row_laws.specs.Telling.{is_name}
use Rattle.krb_show_row_laws.specs.Blocks.{Tells}
use Rattle.krb_show_row_laws.specs.Firsts.{Firsts, Kinds, openings}

-- Octets of formats are shown under their label, the first line as one of these for what they are to a program, behind any number and behind this one;
-- and where the numbers before are equal, the lines tell the octets.
pub record FormatsTell (kinds : Kinds) (tells : Role → List ℕ → Label → List ℕ → List Token → List Token → Type 0) : Type 0 where
  pub first : (role : Role) (number : List ℕ) (label : Label) (octets : List ℕ) → is_name label.text ≡ true → IsOctets octets
      → Firsts (openings (kinds role None) label.text) (tells role number label octets)
  pub behind : (role : Role) (number : List ℕ) (label : Label) (octets : List ℕ) → is_name label.text ≡ true → IsOctets octets
      → Firsts (openings (kinds role (Some number)) label.text) (tells role number label octets)
  pub told : (role : Role) (number another : List ℕ) (label : Label) (octets others : List ℕ) → is_name label.text ≡ true → IsOctets octets → IsOctets others
      → Tells (λ names. label.text ∷ []) (λ names. true) (number ≡ another) (octets ≡ others) (tells role number label octets) (tells role another label others)
