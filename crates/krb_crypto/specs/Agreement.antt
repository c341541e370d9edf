-- The key of a Diffie-Hellman secret (RFC 4556, 3.2.3.1).
use Rattle.std.specs.Prelude.{ℕ, zero, suc, List, [], ◌∷◌, ◌++◌, take, Option, None, Some}
use Rattle.sha1.specs.Sha1.{sha1}
use Rattle.krb_crypto.specs.declared.diffie_hellman.DhNonce.{DhNonce}

-- SHA1(00 | x) | SHA1(01 | x) | .., so many of them
unfoldable pub digests : List ℕ → ℕ → List ℕ
digests x zero = []
digests x (suc n) = digests x n ++ sha1 (n ∷ x)

-- octetstring2key(x), where random-to-key makes a key of a seed of so many octets: of the prefix of the digests, of which there
-- are 256, since the number is one octet
abbrev pub octets_to_key : (List ℕ → List ℕ) → ℕ → List ℕ → List ℕ
octets_to_key random_to_key seed_octets x = random_to_key (take seed_octets (digests x 256))

-- n_c | n_k, which are empty where there are none
abbrev pub nonces : Option DhNonce → List ℕ
nonces None = []
nonces (Some n) = n.client_nonce.now ++ n.server_nonce.now
