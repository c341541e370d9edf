-- What the message calls keep between their steps.
use Rattle.std.specs.Prelude.{◌≡◌, ℕ, ◌+◌, ◌-◌, ◌%◌, ◌≤◌, List, length, take, drop}
use Rattle.krb_crypto_hash.specs.Hmac.{hmac}
use Rattle.krb_crypto_block.specs.Modes.{IsOctets}

-- the first size octets of an HMAC (RFC 2104, 5; RFC 3961, 5.3, "H1[1..h]")
abbrev pub cut_mac : ℕ → List ℕ → List ℕ → List ℕ
cut_mac size key message = take size (hmac key message)

-- the last size of the octets, where a checksum stands (RFC 3961, 5.3)
abbrev pub end_of : ℕ → List ℕ → List ℕ
end_of size octets = drop (length octets - size) octets

-- the octets end in the first size octets of the HMAC of the message (RFC 3961, 5.3)
abbrev pub EndsInMac : ℕ → List ℕ → List ℕ → List ℕ → Type 0
EndsInMac size key message octets = end_of size octets ≡ cut_mac size key message

-- the one list that is encrypted to the octets without their last h, which holds n octets of a confounder and is a multiple of
-- padding octets long, and the key Ki
pub record IsDecrypted (padding n h : ℕ) (encrypts : List ℕ → List ℕ → Type 0) (integrity_key octets padded ki : List ℕ) : Type 0 where
  pub long : n + h ≤ length octets
  pub prefix : n ≤ length padded
  pub whole : length padded % padding ≡ 0
  pub of_octets : IsOctets padded
  pub encrypted_octets : encrypts padded (take (length octets - h) octets)
  pub only : (other : List ℕ) → IsOctets other → encrypts other (take (length octets - h) octets) → other ≡ padded
  pub ki_is : ki ≡ integrity_key
