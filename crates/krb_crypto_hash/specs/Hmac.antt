-- HMAC (RFC 2104) over a hash function, which processes blocks of so many octets. A key and a message are lists of octets.
use Rattle.std.specs.Prelude.{ℕ, ◌-◌, ◌<◌, ◌≤◌, ◌^◌, nat_lt, List, ◌++◌, length, take, replicate, if◌then◌else◌}
use Rattle.krb_crypto_hash.specs.Xor.{xor_lists}
use Rattle.sha1.specs.Sha1.{sha1}
use Rattle.sha2.specs.Sha256.{sha256}
use Rattle.sha2.specs.Sha512.{sha384}

-- a hash has some octets, and no more than a block, which fits in memory
abbrev pub AreSizes : ℕ → ℕ → Type 0
AreSizes block size = (0 < size) × (size ≤ block) × (block < 2 ^ 63)

-- a key of more than a block is hashed first (RFC 2104, 2)
abbrev pub short_key : (List ℕ → List ℕ) → ℕ → List ℕ → List ℕ
short_key hash block key = if nat_lt block (length key) then hash key else key

-- K, the key padded with zeros to a block (RFC 2104, 2)
abbrev pub block_key : (List ℕ → List ℕ) → ℕ → List ℕ → List ℕ
block_key hash block key = short_key hash block key ++ replicate (block - length (short_key hash block key)) 0

-- K XOR pad: the key's block, combined by exclusive or with a block of this octet
abbrev pub padded : (List ℕ → List ℕ) → ℕ → List ℕ → ℕ → List ℕ
padded hash block key pad = xor_lists (block_key hash block key) (replicate block pad)

-- H(K XOR opad, H(K XOR ipad, message)) (RFC 2104, 2)
unfoldable pub hmac_over : (List ℕ → List ℕ) → ℕ → List ℕ → List ℕ → List ℕ
hmac_over hash block key message = hash (padded hash block key 0x5c ++ hash (padded hash block key 0x36 ++ message))

-- over SHA-1, which processes blocks of 64 octets (FIPS 180-4, figure 1)
abbrev pub hmac : List ℕ → List ℕ → List ℕ
hmac key message = hmac_over sha1 64 key message

-- over SHA-256 and SHA-384, which process blocks of 64 and of 128 octets (FIPS 180-4, figure 1)
abbrev pub hmac_256 : List ℕ → List ℕ → List ℕ
hmac_256 key message = hmac_over sha256 64 key message

abbrev pub hmac_384 : List ℕ → List ℕ → List ℕ
hmac_384 key message = hmac_over sha384 128 key message

-- the first mac_size octets of a MAC of size octets (RFC 2104, 5); past these they are zeros
abbrev pub resized : ℕ → ℕ → List ℕ → List ℕ
resized size mac_size mac = take mac_size (mac ++ replicate (mac_size - size) 0)

-- two hashes, of which these are the messages absorbed, have absorbed the key's padded block
abbrev pub IsReady : (List ℕ → Type 0) → (List ℕ → Type 0) → (List ℕ → List ℕ) → ℕ → List ℕ → Type 0
IsReady inner outer hash block key = inner (padded hash block key 0x36) × outer (padded hash block key 0x5c)
