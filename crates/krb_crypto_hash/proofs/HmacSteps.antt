-- The steps of the HMAC: the key's block, the padding of it, and the two hashes.
use Rattle.std.proofs.Common.{◌≡◌, ℕ, ◌<◌, ◌≤◌, List, ◌++◌, length, drop, replicate, append_assoc, refl, sym, ap, ◌∙◌}
use Rattle.std.proofs.lemmas.List.{length-replicate, drop-replicate}
use Rattle.std.proofs.lemmas.Bool.{le-ltb, lt-ltb}
use Rattle.sha1.specs.Sha1.{sha1, digest_bytes}
use Rattle.sha2.specs.Sha256.{sha256}
use Rattle.sha2.specs.Sha256 as S256
use Rattle.sha2.specs.Sha512.{sha384}
use Rattle.sha2.specs.Sha512 as S512
use Rattle.krb_crypto_hash.specs.Xor.{xor_lists, padded_to}
use Rattle.krb_crypto_hash.specs.Hmac.{block_key, padded, hmac_over, hmac, hmac_256, hmac_384}
use Rattle.krb_crypto_hash.proofs.XorLists.{xor_lists-comm, padded_whole}

-- a key of at most a block is followed by zeros
pub block_short : (hash : List ℕ → List ℕ) (block : ℕ) (key prefix : List ℕ) → prefix ≡ key → length key ≤ block → prefix ++ drop (length key) (replicate block 0) ≡ block_key hash block key
block_short hash block key prefix e short = rw (le-ltb block (length key) short, e, drop-replicate {X = ℕ} (length key) block 0) refl

-- and the hash of a longer one
pub block_long : (hash : List ℕ → List ℕ) (block size : ℕ) (key prefix : List ℕ) → prefix ≡ hash key → length prefix ≡ size → block < length key → prefix ++ drop size (replicate block 0) ≡ block_key hash block key
block_long hash block size key prefix e len long =
    let sized : length (hash key) ≡ size = ap length (sym e) ∙ len in
    rw (lt-ltb block (length key) long, sized, e, drop-replicate {X = ℕ} size block 0) refl

-- the key's block, combined with a block of one octet
pub padded_is : (hash : List ℕ → List ℕ) (block : ℕ) (key out b : List ℕ) (pad : ℕ) → out ≡ xor_lists (padded_to block (replicate block pad)) b → b ≡ block_key hash block key → out ≡ padded hash block key pad
padded_is hash block key out b pad e at =
    e ∙ ap (λ (k : List ℕ). xor_lists k b) (padded_whole block (replicate block pad) (length-replicate block pad))
    ∙ ap (xor_lists (replicate block pad)) at ∙ xor_lists-comm (replicate block pad) (block_key hash block key)

-- the outer hash of the inner one
pub hmac_whole : (hash : List ℕ → List ℕ) (block : ℕ) (key message digest mac : List ℕ) → digest ≡ hash (padded hash block key 0x36 ++ message) → mac ≡ hash (padded hash block key 0x5c ++ digest) → mac ≡ hmac_over hash block key message
unfolding hmac_over
hmac_whole hash block key message digest mac inner outer = outer ∙ ap (λ d. hash (padded hash block key 0x5c ++ d)) inner

pub hmac_is : (hash : List ℕ → List ℕ) (block : ℕ) (key first second digest mac : List ℕ) → digest ≡ hash ((padded hash block key 0x36 ++ first) ++ second) → mac ≡ hash (padded hash block key 0x5c ++ digest) → mac ≡ hmac_over hash block key (first ++ second)
hmac_is hash block key first second digest mac inner outer =
    hmac_whole hash block key (first ++ second) digest mac (inner ∙ ap hash (append_assoc (padded hash block key 0x36) first second)) outer

-- four parts that are taken after the key's block are one message
pub four_parts : (before a b c d : List ℕ) → (((before ++ a) ++ b) ++ c) ++ d ≡ before ++ (a ++ (b ++ (c ++ d)))
four_parts before a b c d = append_assoc ((before ++ a) ++ b) c d ∙ append_assoc (before ++ a) b (c ++ d) ∙ append_assoc before a (b ++ (c ++ d))

-- an HMAC has as many octets as the hash
hmac_over-size : (hash : List ℕ → List ℕ) (block size : ℕ) → ((m : List ℕ) → length (hash m) ≡ size) → (key message : List ℕ) → length (hmac_over hash block key message) ≡ size
unfolding hmac_over
hmac_over-size hash block size sized key message = sized (padded hash block key 0x5c ++ hash (padded hash block key 0x36 ++ message))

sha1_size : (m : List ℕ) → length (sha1 m) ≡ 20
unfolding sha1 digest_bytes
sha1_size m = refl

sha256_size : (m : List ℕ) → length (sha256 m) ≡ 32
unfolding sha256 S256.digest_bytes
sha256_size m = refl

sha384_size : (m : List ℕ) → length (sha384 m) ≡ 48
unfolding sha384 S512.digest_bytes
sha384_size m = refl

pub hmac_size : (key message : List ℕ) → length (hmac key message) ≡ 20
hmac_size key message = hmac_over-size sha1 64 20 sha1_size key message

pub hmac_256-size : (key message : List ℕ) → length (hmac_256 key message) ≡ 32
hmac_256-size key message = hmac_over-size sha256 64 32 sha256_size key message

pub hmac_384-size : (key message : List ℕ) → length (hmac_384 key message) ≡ 48
hmac_384-size key message = hmac_over-size sha384 128 48 sha384_size key message
