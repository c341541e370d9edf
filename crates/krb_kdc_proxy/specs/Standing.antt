-- Where octets stand among others, and messages in a KDC-PROXY-MESSAGE (MS-KKDCP, 2.2.2).
use Rattle.std.specs.Prelude.{◌≡◌, ℕ, ◌+◌, ◌≤◌, List, [], ◌∷◌, length, take, drop}
use Rattle.krb_kdc_proxy.specs.Prefixed.{prefixed}
use Rattle.krb_message_fields.specs.Paths.{Leads}
use Rattle.krb_message_fields.specs.declared.places.place.Step.{Step}
use Rattle.krb_message_fields.specs.declared.places.place.Step.TheVariants.{Tag}

-- they stand behind so many
abbrev pub StandsAt : List ℕ → ℕ → List ℕ → Type 0
StandsAt within offset octets = (take (length within) (drop offset octets) ≡ within) × (offset + length within ≤ length octets)

-- to kerb-message: the SEQUENCE (30), its element [0] (a0), the OCTET STRING (04) in it
abbrev pub kerb_message_path : List Step
kerb_message_path = Tag 48 ∷ Tag 160 ∷ Tag 4 ∷ []

-- kerb-message is these octets, which stand behind so many
abbrev pub IsKerbMessage : List ℕ → ℕ → List ℕ → Type 0
IsKerbMessage stream offset octets = Leads kerb_message_path octets offset stream × StandsAt stream offset octets

-- A message stands behind so many, and its length right before it (RFC 4120, 7.2.2): the message with its length, behind four fewer, is kerb-message.
pub record StandsPrefixed (message : List ℕ) (offset : ℕ) (octets : List ℕ) : Type 0 where
  pub start : ℕ
  pub behind : offset ≡ start + 4
  pub whole : IsKerbMessage (prefixed message) start octets
  pub alone : StandsAt message offset octets
