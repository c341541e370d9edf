-- What follows a text or a word.
use Rattle.std.specs.Prelude.{ℕ, nat_eq, if◌then◌else◌, Option, Some, None, List, [], ◌∷◌}
use Rattle.std.specs.Char.{to_ascii_lowercase}

-- what follows this text
abbrev pub after_text : List ℕ → List ℕ → Option (List ℕ)
after_text [] octets = Some octets
after_text (t ∷ text) [] = None
after_text (t ∷ text) (octet ∷ octets) = if nat_eq octet t then after_text text octets else None

-- what follows this word, which is in lower case here and in either case there
abbrev pub after_word : List ℕ → List ℕ → Option (List ℕ)
after_word [] octets = Some octets
after_word (w ∷ word) [] = None
after_word (w ∷ word) (octet ∷ octets) = if nat_eq (to_ascii_lowercase octet) w then after_word word octets else None
