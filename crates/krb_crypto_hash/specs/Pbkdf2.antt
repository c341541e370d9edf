-- PBKDF2 (RFC 8018, 5.2) over a pseudorandom function of a key and a message, PRF there, and over HMAC.
use Rattle.std.specs.Prelude.{◌≡◌, ℕ, zero, suc, ◌+◌, ◌/◌, ◌%◌, ◌<◌, List, ◌++◌, length, slice_index}
use Rattle.std.specs.Int.{w32, to_be_bytes, bit_at}
use Rattle.krb_crypto_hash.specs.Hmac.{hmac, hmac_256, hmac_384}

-- U_1, U_2, .. of block i, counted from 0: the function of the salt and i in four octets, then of the one before
unfoldable pub chain : (List ℕ → List ℕ → List ℕ) → List ℕ → List ℕ → ℕ → ℕ → List ℕ
chain prf password salt i zero = prf password (salt ++ to_be_bytes w32 i)
chain prf password salt i (suc j) = prf password (chain prf password salt i j)

-- how many of the first c of block i have bit b of octet k set
unfoldable pub count_bits : (List ℕ → List ℕ → List ℕ) → List ℕ → List ℕ → ℕ → ℕ → ℕ → ℕ → ℕ
count_bits prf password salt i zero k b = 0
count_bits prf password salt i (suc c) k b = count_bits prf password salt i c k b + bit_at (slice_index (chain prf password salt i c) k) b

-- The octets are block i, T_i (RFC 8018, 5.2): a bit is set exactly where an odd number of the first c of its chain have it.
abbrev pub IsBlockOf : (List ℕ → List ℕ → List ℕ) → List ℕ → List ℕ → ℕ → ℕ → List ℕ → Type 0
IsBlockOf prf password salt i c octets = (k b : ℕ) → bit_at (slice_index octets k) b ≡ count_bits prf password salt i c k b % 2

-- The octets are the blocks from 1 on, of size octets each, concatenated and cut.
abbrev pub IsPbkdf2Over : (List ℕ → List ℕ → List ℕ) → ℕ → List ℕ → List ℕ → ℕ → List ℕ → Type 0
IsPbkdf2Over prf size password salt c octets = (k b : ℕ) → k < length octets
    → bit_at (slice_index octets k) b ≡ count_bits prf password salt (k / size + 1) c (k % size) b % 2

-- over HMAC with SHA-1
abbrev pub IsPbkdf2 : List ℕ → List ℕ → ℕ → List ℕ → Type 0
IsPbkdf2 password salt c octets = IsPbkdf2Over hmac 20 password salt c octets

-- over HMAC with SHA-256 and with SHA-384
abbrev pub IsPbkdf2_256 : List ℕ → List ℕ → ℕ → List ℕ → Type 0
IsPbkdf2_256 password salt c octets = IsPbkdf2Over hmac_256 32 password salt c octets

abbrev pub IsPbkdf2_384 : List ℕ → List ℕ → ℕ → List ℕ → Type 0
IsPbkdf2_384 password salt c octets = IsPbkdf2Over hmac_384 48 password salt c octets
