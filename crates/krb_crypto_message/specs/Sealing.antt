-- What the law of a cipher speaks of (RFC 3961, 3). Keys, confounders, payloads and sealed octets are lists of octets,
-- and a meaning says which octets a payload becomes under a confounder: meaning confounder payload octets.
use Rattle.std.specs.Prelude.{◌≡◌, ℕ, List, ◌++◌, ◌↔◌, length}
use Rattle.krb_crypto_block.specs.Modes.{IsPadding}

-- ---- lists

-- the fact holds of this list, and of no other
pub record IsTheOne (fact : List ℕ → Type 0) (octets : List ℕ) : Type 0 where
  pub holds : fact octets
  pub only : (other : List ℕ) → fact other → other ≡ octets

-- the fact holds of no list
abbrev pub IsOfNone : (List ℕ → Type 0) → Type 0
IsOfNone fact = (octets : List ℕ) → ¬ fact octets

-- ---- with the checksum

-- some confounder of size octets gives these octets for the payload
pub record IsGiven (meaning : List ℕ → List ℕ → List ℕ → Type 0) (size : ℕ) (octets payload : List ℕ) : Type 0 where
  pub confounder : List ℕ
  pub size_is : length confounder ≡ size
  pub means : meaning confounder payload octets

-- under no confounder of size octets a payload gives these octets (RFC 3961, 5.3)
abbrev pub HasNoPayload : (List ℕ → List ℕ → List ℕ → Type 0) → ℕ → List ℕ → Type 0
HasNoPayload meaning size octets = IsOfNone (IsGiven meaning size octets)

-- what is opened is a multiple of size octets long, and it is the padded form of each payload that is given and of no other
pub record Opens (size : ℕ) (given : List ℕ → Type 0) (opened : List ℕ) : Type 0 where
  pub whole : IsPadding size opened opened
  pub exactly : (payload : List ℕ) → given payload ↔ IsPadding size payload opened

-- ---- without the checksum

-- with some checksum of size octets after them, the encrypted octets are what the meaning gives
pub record Encrypts (meaning : List ℕ → List ℕ → List ℕ → Type 0) (size : ℕ) (confounder payload encrypted : List ℕ) : Type 0 where
  pub checksum : List ℕ
  pub size_is : length checksum ≡ size
  pub means : meaning confounder payload (encrypted ++ checksum)

-- the octets are encrypted ones and, after them, a checksum of size octets
pub record IsSplit (size : ℕ) (octets encrypted checksum : List ℕ) : Type 0 where
  pub concatenated : octets ≡ encrypted ++ checksum
  pub size_is : length checksum ≡ size

-- the encrypted octets are those of this confounder and of each payload that the plaintext is the padded form of, and of no
-- other confounder and payload
pub record Decrypts (fill_size confounder_size : ℕ) (encrypts : List ℕ → List ℕ → List ℕ → Type 0) (encrypted confounder plaintext : List ℕ) : Type 0 where
  pub size_is : length confounder ≡ confounder_size
  pub whole : IsPadding fill_size plaintext plaintext
  pub exactly : (other payload : List ℕ) → length other ≡ confounder_size → encrypts other payload encrypted ↔ ((other ≡ confounder) × IsPadding fill_size payload plaintext)

-- The octets (RFC 3961, 5.3) are encrypted ones and, after them, this checksum of mac_size octets; the encrypted octets are decrypted to this
-- confounder and plaintext
abbrev pub OpensUnchecked : (fill_size confounder_size mac_size : ℕ) → (List ℕ → List ℕ → List ℕ → Type 0) → (octets confounder plaintext checksum : List ℕ) → Type 0
OpensUnchecked fill_size confounder_size mac_size meaning octets confounder plaintext checksum =
    (encrypted : List ℕ) × IsSplit mac_size octets encrypted checksum
    × Decrypts fill_size confounder_size (Encrypts meaning mac_size) encrypted confounder plaintext

-- whatever their last mac_size octets, the checksum (RFC 3961, 5.3), no payload is encrypted to the octets before these
abbrev pub HasNoPayloadUnchecked : (confounder_size mac_size : ℕ) → (List ℕ → List ℕ → List ℕ → Type 0) → List ℕ → Type 0
HasNoPayloadUnchecked confounder_size mac_size meaning octets =
    (encrypted checksum : List ℕ) → IsSplit mac_size octets encrypted checksum → HasNoPayload (Encrypts meaning mac_size) confounder_size encrypted
