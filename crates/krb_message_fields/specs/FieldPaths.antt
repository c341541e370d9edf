-- Paths to fields of a SEQUENCE (X.690, 8.1.2).
use Rattle.std.specs.Prelude.{ℕ, ◌+◌, List, [], ◌∷◌}
use Rattle.krb_message_fields.specs.declared.places.place.Step.{Step}
use Rattle.krb_message_fields.specs.declared.places.place.Step.TheVariants.{Tag}

-- to [n] of a SEQUENCE, and on
abbrev pub in_sequence : ℕ → List Step → List Step
in_sequence n path = Tag 48 ∷ Tag (160 + n) ∷ path

abbrev pub octets_path : List Step
octets_path = Tag 4 ∷ []

abbrev pub text_path : List Step
text_path = Tag 27 ∷ []
