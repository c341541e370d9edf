-- Keys from keys by HMAC (RFC 8009, 3): one block of the counter mode of NIST SP 800-108.
use Rattle.std.specs.Prelude.{ℕ, ◌/◌, List, ◌∷◌, ◌++◌, take}
use Rattle.std.specs.Int.{w32, to_be_bytes}
use Rattle.krb_crypto_hash.specs.Hmac.{hmac_256, hmac_384}

-- 1, the label, a zero octet and k: the numbers in 32 bits each
abbrev pub kdf_message : List ℕ → ℕ → List ℕ
kdf_message label k = to_be_bytes w32 1 ++ (label ++ (0 ∷ to_be_bytes w32 k))

-- the first k bits, which are whole octets, of the function of this message
abbrev pub kdf_over : (List ℕ → List ℕ → List ℕ) → List ℕ → List ℕ → ℕ → List ℕ
kdf_over prf key label k = take (k / 8) (prf key (kdf_message label k))

-- over HMAC with SHA-256 and with SHA-384
abbrev pub kdf_256 : List ℕ → List ℕ → ℕ → List ℕ
kdf_256 key label k = kdf_over hmac_256 key label k

abbrev pub kdf_384 : List ℕ → List ℕ → ℕ → List ℕ
kdf_384 key label k = kdf_over hmac_384 key label k
