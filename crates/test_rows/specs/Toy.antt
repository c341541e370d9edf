-- What the cipher of the tests writes.
use Rattle.std.specs.Prelude.{◌≡◌, ◌≢◌, ◌<◌, ◌≤◌, ◌%◌, ◌⊎◌, ℕ, List, [], ◌∷◌, ◌++◌, length, map, bit_xor}
use Rattle.krb_crypto_hash.specs.declared.error.KerberosCryptoError.{KerberosCryptoError}
use Rattle.krb_crypto_hash.specs.declared.error.KerberosCryptoError.TheVariants.{CipherLength, CipherUnpad, KeyLength}
use Rattle.krb_der.specs.Encoding.{IsOctets}
use Rattle.krb_crypto_block.specs.Modes.{IsPadding}

-- The confounder and the payload, padded to a multiple of four octets, each combined with the key's one octet.
pub record IsToy (key confounder payload octets : List ℕ) : Type 0 where
  pub octet : ℕ
  pub padded : List ℕ
  pub key_is : key ≡ octet ∷ []
  pub fill : IsPadding 4 (confounder ++ payload) padded
  pub of_octets : IsOctets padded
  pub xored : octets ≡ map (λ x. bit_xor x octet) padded

-- why so many octets are not opened: first too few for a confounder, then no whole blocks
abbrev pub IsToyRejection : ℕ → KerberosCryptoError → Type 0
IsToyRejection n e = ((n < 4) × (e ≡ CipherLength n 4)) ⊎ ((4 ≤ n) × (n % 4 ≢ 0) × (e ≡ CipherUnpad))

-- why octets are not opened: the key first, which has one octet, then their number
abbrev pub IsToyUnopened : List ℕ → List ℕ → KerberosCryptoError → Type 0
IsToyUnopened key octets e = ((length key ≢ 1) × (e ≡ KeyLength (length key) 1)) ⊎ ((length key ≡ 1) × IsToyRejection (length octets) e)
