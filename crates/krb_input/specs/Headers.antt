-- Tokens behind a scheme of HTTP (RFC 4559, 4; RFC 9110, 11.6 and 11.7), with or without the field's name.
use Rattle.std.specs.Prelude.{ℕ, if◌then◌else◌, Option, Some, None, List, [], ◌∷◌, codes, option_and_then, unwrap_or}
use Rattle.krb_input.specs.Blanks.{is_blank, skip_blanks}
use Rattle.krb_input.specs.Words.{after_word}

-- the first of two that there is
abbrev pub either : {A : Type 0} → Option A → Option A → Option A
either None second = second
either (Some first) second = Some first

-- what follows the name of a field that holds credentials or a challenge, if one is there
abbrev pub after_name : List ℕ → Option (List ℕ)
after_name octets =
    either (after_word (codes "authorization:") octets) (either (after_word (codes "www-authenticate:") octets)
    (either (after_word (codes "proxy-authorization:") octets) (after_word (codes "proxy-authenticate:") octets)))

-- what follows a blank
abbrev pub after_blank : List ℕ → Option (List ℕ)
after_blank [] = None
after_blank (octet ∷ octets) = if is_blank octet then Some octets else None

-- what follows a scheme and a blank
abbrev pub after_scheme : List ℕ → Option (List ℕ)
after_scheme octets =
    option_and_then after_blank (either (after_word (codes "negotiate") octets) (after_word (codes "kerberos") octets))

-- what follows a scheme, which may follow the name of a field
abbrev pub behind_scheme : List ℕ → Option (List ℕ)
behind_scheme octets = after_scheme (skip_blanks (unwrap_or (after_name octets) octets))
