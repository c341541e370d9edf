-- Paths into elements within elements (X.690, 8.1.1).
use Rattle.std.specs.Prelude.{◌≡◌, ◌+◌, ℕ, List, [], ◌∷◌}
use Rattle.krb_message_fields.specs.Rows.{IsField, IsItem}
use Rattle.krb_message_fields.specs.declared.places.place.Step.{Step}
use Rattle.krb_message_fields.specs.declared.places.place.Step.TheVariants.{Tag, Item}
use Rattle.krb_message_fields.specs.declared.places.place.Place.{Place}
use Rattle.krb_message_fields.specs.Places.{IsAt}

-- the step leads to these octets, which begin after so many
abbrev pub IsStep : Step → List ℕ → ℕ → List ℕ → Type 0
IsStep (Tag tag) octets start within = IsField tag octets start within
IsStep (Item index) octets start within = IsItem index octets start within

-- The path leads to these octets, which begin after so many: each step leads into those of the step before.
abbrev pub Leads : List Step → List ℕ → ℕ → List ℕ → Type 0
Leads [] octets start end = (start ≡ 0) × (end ≡ octets)
Leads (step ∷ path) octets start end =
    (outer : ℕ) × (within : List ℕ) × (inner : ℕ) × IsStep step octets outer within × Leads path within inner end × (start ≡ outer + inner)

abbrev pub NoStep : Step → List ℕ → Type 0
NoStep step octets = (start : ℕ) (within : List ℕ) → IsStep step octets start within → ⊥

abbrev pub LeadsNowhere : List Step → List ℕ → Type 0
LeadsNowhere path octets = (start : ℕ) (end : List ℕ) → Leads path octets start end → ⊥

-- the path leads to the octets at this place
abbrev pub IsPlace : List Step → List ℕ → Place → Type 0
IsPlace path octets place = IsAt (Leads path octets) octets place
