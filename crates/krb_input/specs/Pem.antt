-- Octets between the lines of PEM (RFC 7468, 3): -----BEGIN label-----, base64, -----END label-----.
use Rattle.std.specs.Prelude.{ℕ, Bool, is_some, if◌then◌else◌, Option, Some, None, List, [], ◌∷◌, codes, option_and_then}
use Rattle.krb_input.specs.Blanks.{skip_blanks}
use Rattle.krb_input.specs.Words.{after_text}

-- whether five hyphens are at the start
abbrev pub is_rule : List ℕ → Bool
is_rule octets = is_some (after_text (codes "-----") octets)

-- what stands before the first five hyphens in a row, or all where there are none
abbrev pub before_rule : List ℕ → List ℕ
before_rule [] = []
before_rule (octet ∷ octets) = if is_rule (octet ∷ octets) then [] else octet ∷ before_rule octets

-- the first five hyphens in a row and what follows them
abbrev pub from_rule : List ℕ → List ℕ
from_rule [] = []
from_rule (octet ∷ octets) = if is_rule (octet ∷ octets) then octet ∷ octets else from_rule octets

-- this value, where nothing but blanks is left
abbrev pub where_blank : List ℕ → List ℕ → Option (List ℕ)
where_blank [] body = Some body
where_blank (octet ∷ octets) body = None

-- What stands between the two lines behind the first one's start: a label has no five hyphens in a row, and only blanks follow the second.
abbrev pub between_lines : List ℕ → Option (List ℕ)
between_lines label =
    option_and_then (λ body. option_and_then (λ closing. option_and_then (λ rest. where_blank (skip_blanks rest) (before_rule body))
    (after_text (codes "-----") (from_rule closing)))
    (after_text (codes "-----END ") (from_rule body)))
    (after_text (codes "-----") (from_rule label))
