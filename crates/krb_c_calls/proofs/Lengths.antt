-- How long what the calls make is.
use Rattle.std.proofs.Common.{◌≡◌, ℕ, ℤ, ◌+◌, ◌-◌, ◌*◌, ◌/◌, ◌%◌, ◌<◌, List, ◌++◌, length, replicate, codes, zero, suc, nat_abs, ◌==◌, if◌then◌else◌, refl, sym, ap, subst, ◌∙◌, arith, inl, inr}
use Rattle.std.proofs.lemmas.List.{length-append, length-replicate, length-take-le}
use Rattle.krb_crypto_hash.proofs.HmacSteps.{hmac_size, hmac_256-size, hmac_384-size}
use Rattle.krb_crypto_hash.specs.Hmac.{hmac, hmac_256, hmac_384}
use Rattle.krb_crypto_hash.specs.Kdf.{kdf_message}
use Rattle.krb_crypto_block.proofs.AesUndoing.{aes_block_size}
use Rattle.krb_crypto_block.proofs.Chaining.{IsCbc-length}
use Rattle.krb_crypto_block.proofs.DesTriple.{AreInverse-ede3}
use Rattle.krb_crypto_block.proofs.Filling.{IsPadding-octets}
use Rattle.krb_crypto_block.proofs.StealingUses.{Cts-length}
use Rattle.krb_crypto_block.specs.Aes.{aes_block}
use Rattle.krb_crypto_block.specs.Des.{ede3, ede3_undo}
use Rattle.krb_crypto_block.specs.Fold.{fold}
use Rattle.krb_crypto_block.specs.Modes.{Cts, IsCbc, IsOctets, IsPadding}
use Rattle.krb_crypto_block.specs.declared.aes.AesSize.TheVariants.{Aes128, Aes256}
use Rattle.krb_crypto_message.proofs.DesLaws.{length-random_to_key}
use Rattle.krb_crypto_message.proofs.Messages.{aes_scheme, des3_scheme}
use Rattle.krb_crypto_message.proofs.Sha2Messages.{sha2_scheme}
use Rattle.krb_crypto_message.specs.AesSha2.{sha2_ke, sha2_ki, sha2_kc, sha2_sum, sha2_seal_mac}
use Rattle.krb_crypto_message.specs.Derive.{blocks_from, dr, aes_dk, des3_dk}
use Rattle.krb_crypto_message.specs.RandomToKey.{random_to_key}
use Rattle.krb_crypto_message.specs.Sealed.{IsSealedBy, aes_ke, aes_ki, aes_kc, des3_ke, des3_ki, des3_kc, mac_96}
use Rattle.krb_crypto.specs.BySuite.{IsSealed, IsPasswordKey, key_octets_of, confounder_octets_of, key_of_seed_of, sum_of}
use Rattle.krb_crypto.specs.declared.cipher_suite.CipherSuite.{CipherSuite}
use Rattle.krb_crypto.specs.declared.cipher_suite.CipherSuite.TheVariants.{Aes128CtsHmacSha196, Aes256CtsHmacSha196, Des3CbcSha1Kd, Aes128CtsHmacSha256128, Aes256CtsHmacSha384192}
use Rattle.krb_crypto.specs.declared.checksum_suite.ChecksumSuite.{ChecksumSuite}
use Rattle.krb_crypto.specs.declared.checksum_suite.ChecksumSuite.TheVariants as checksum
use Rattle.krb_c_calls.specs.Keys.{seed_octets_of}
use Rattle.krb_c_calls.specs.Numbers.{etype_number, checksum_number}
use Rattle.krb_c_calls.specs.Sizes.{IsSizeOf, IsWord, IsEncryptedSize, sealed_octets_of, sum_octets_of}

-- ---- checksums

mac_96_length : (key m : List ℕ) → length (mac_96 key m) ≡ 12
mac_96_length key m = length-take-le 12 (hmac key m) (omega (arith, hmac_size key m))

sum_128_length : (key : List ℕ) (usage : ℤ) (m : List ℕ) → length (sha2_sum Aes128 key usage m) ≡ 16
sum_128_length key usage m = length-take-le 16 (hmac_256 (sha2_kc Aes128 key usage) m) (omega (arith, hmac_256-size (sha2_kc Aes128 key usage) m))

sum_192_length : (key : List ℕ) (usage : ℤ) (m : List ℕ) → length (sha2_sum Aes256 key usage m) ≡ 24
sum_192_length key usage m = length-take-le 24 (hmac_384 (sha2_kc Aes256 key usage) m) (omega (arith, hmac_384-size (sha2_kc Aes256 key usage) m))

pub sum_length : (suite : ChecksumSuite) (key : List ℕ) (usage : ℤ) (m : List ℕ) → length (sum_of suite key usage m) ≡ sum_octets_of suite
sum_length checksum.HmacSha196Aes128 key usage m = mac_96_length (aes_kc key usage) m
sum_length checksum.HmacSha196Aes256 key usage m = mac_96_length (aes_kc key usage) m
sum_length checksum.HmacSha1Des3Kd key usage m = hmac_size (des3_kc key usage) m
sum_length checksum.HmacSha256128Aes128 key usage m = sum_128_length key usage m
sum_length checksum.HmacSha384192Aes256 key usage m = sum_192_length key usage m

-- ---- encrypted messages

module _ (padding h : ℕ) (encrypts : List ℕ → List ℕ → Type 0) (mac : List ℕ → List ℕ → List ℕ) where
  -- the octets padded, and the checksum
  sealed_length : ((p c : List ℕ) → length (mac p c) ≡ h) → ((p c : List ℕ) → IsOctets p → encrypts p c → length c ≡ length p) → (confounder payload octets : List ℕ)
      → (sealed : IsSealedBy padding encrypts mac confounder payload octets) → length octets ≡ length sealed.padded + h
  sealed_length sized same confounder payload octets sealed =
      let all = ap length sealed.concatenated ∙ length-append sealed.cipher (mac sealed.padded sealed.cipher) in
      let whole : IsOctets sealed.padded = IsPadding-octets padding (confounder ++ payload) sealed.padded sealed.padding_is sealed.of_octets in
      let cipher = same sealed.padded sealed.cipher whole sealed.encrypted_octets in
      omega (arith, all, sized sealed.padded sealed.cipher, cipher)

padded_length : (padding : ℕ) (confounder payload padded : List ℕ) (is : IsPadding padding (confounder ++ payload) padded)
    → length padded ≡ length confounder + length payload + is.zeros
padded_length padding confounder payload padded is =
    let all = ap length is.concatenated ∙ length-append (confounder ++ payload) (replicate is.zeros 0) in
    omega (arith, all, length-append confounder payload, length-replicate {A = ℕ} is.zeros 0)

-- nothing is padded under AES
cts_length : (h : ℕ) (ke : List ℕ) (mac : List ℕ → List ℕ → List ℕ) → ((p c : List ℕ) → length (mac p c) ≡ h) → (confounder payload octets : List ℕ) → length confounder ≡ 16
    → IsSealedBy 1 (Cts (aes_block ke)) mac confounder payload octets → length octets ≡ 16 + length payload + h
cts_length h ke mac sized confounder payload octets long sealed =
    let same = sealed_length 1 h (Cts (aes_block ke)) mac sized (λ p c octets is. Cts-length (aes_block ke) (aes_block_size ke) p c is) confounder payload octets sealed in
    let padded = padded_length 1 confounder payload sealed.padded sealed.padding_is in
    omega (arith, same, padded, long, sealed.padding_is.fewer)

-- the fewest zeros to a whole block are those of the payload alone
rounded : (n fill : ℕ) → fill < 8 → (8 + n + fill) % 8 ≡ 0 → 8 + n + fill ≡ 8 + (n + 7) / 8 * 8
rounded n fill few whole = omega (arith, few, whole)

cbc_length : (ke : List ℕ) (mac : List ℕ → List ℕ → List ℕ) → ((p c : List ℕ) → length (mac p c) ≡ 20) → (confounder payload octets : List ℕ) → length confounder ≡ 8
    → IsSealedBy 8 (IsCbc 8 (ede3 ke)) mac confounder payload octets → length octets ≡ 8 + (length payload + 7) / 8 * 8 + 20
cbc_length ke mac sized confounder payload octets long sealed =
    let same = sealed_length 8 20 (IsCbc 8 (ede3 ke)) mac sized (λ p c octets is. IsCbc-length 8 (omega arith) (ede3 ke) (ede3_undo ke) (AreInverse-ede3 ke) p c octets is) confounder payload octets sealed in
    let padded : length sealed.padded ≡ 8 + length payload + sealed.padding_is.zeros = padded_length 8 confounder payload sealed.padded sealed.padding_is ∙ ap (λ (k : ℕ). k + length payload + sealed.padding_is.zeros) long in
    let round = rounded (length payload) sealed.padding_is.zeros sealed.padding_is.fewer (ap (λ (k : ℕ). k % 8) (sym padded) ∙ sealed.padding_is.whole) in
    same ∙ ap (λ (k : ℕ). k + 20) (padded ∙ round)

pub encrypted_length : (suite : CipherSuite) (key : List ℕ) (usage : ℤ) (confounder payload octets : List ℕ) → length confounder ≡ confounder_octets_of suite
    → IsSealed suite key usage confounder payload octets → length octets ≡ sealed_octets_of suite (length payload)
encrypted_length Aes128CtsHmacSha196 key usage confounder payload octets long sealed =
    cts_length 12 (aes_ke key usage) (λ p c. mac_96 (aes_ki key usage) p) (aes_scheme (aes_ke key usage) (aes_ki key usage)).sized confounder payload octets long sealed
encrypted_length Aes256CtsHmacSha196 key usage confounder payload octets long sealed =
    cts_length 12 (aes_ke key usage) (λ p c. mac_96 (aes_ki key usage) p) (aes_scheme (aes_ke key usage) (aes_ki key usage)).sized confounder payload octets long sealed
encrypted_length Des3CbcSha1Kd key usage confounder payload octets long sealed =
    cbc_length (des3_ke key usage) (λ p c. hmac (des3_ki key usage) p) (des3_scheme (des3_ke key usage) (des3_ki key usage)).sized confounder payload octets long sealed
encrypted_length Aes128CtsHmacSha256128 key usage confounder payload octets long sealed =
    cts_length 16 (sha2_ke Aes128 key usage) (λ p c. sha2_seal_mac Aes128 (sha2_ki Aes128 key usage) c) (sha2_scheme Aes128 (sha2_ke Aes128 key usage) (sha2_ki Aes128 key usage)).sized confounder payload octets long sealed
encrypted_length Aes256CtsHmacSha384192 key usage confounder payload octets long sealed =
    cts_length 24 (sha2_ke Aes256 key usage) (λ p c. sha2_seal_mac Aes256 (sha2_ki Aes256 key usage) c) (sha2_scheme Aes256 (sha2_ke Aes256 key usage) (sha2_ki Aes256 key usage)).sized confounder payload octets long sealed

-- ---- keys

blocks_length : (E : List ℕ → List ℕ) → ((b : List ℕ) → length (E b) ≡ 16) → (f : List ℕ) (n : ℕ) → length (blocks_from E f n) ≡ 16 * n
unfolding blocks_from
blocks_length E sized f zero = refl
blocks_length E sized f (suc n) = omega (arith, length-append (E f) (blocks_from E (E f) n), sized f, blocks_length E sized (E f) n)

aes_dk_length : (key constant : List ℕ) → length (aes_dk key constant) ≡ length key
unfolding aes_dk
aes_dk_length key constant =
    let all = blocks_length (aes_block key) (aes_block_size key) (fold constant 128) ((length key + 16 - 1) / 16) in
    length-take-le (length key) (blocks_from (aes_block key) (fold constant 128) ((length key + 16 - 1) / 16)) (omega (arith, all))

des3_dk_length : (key constant : List ℕ) → length (des3_dk key constant) ≡ 24
unfolding des3_dk
des3_dk_length key constant = length-random_to_key (dr (ede3 key) 8 constant 21)

pub password_length : (suite : CipherSuite) (password salt key : List ℕ) → IsPasswordKey suite password salt key → length key ≡ key_octets_of suite
password_length Aes128CtsHmacSha196 password salt key is = ap length is.3 ∙ aes_dk_length is.0 (codes "kerberos") ∙ is.1
password_length Aes256CtsHmacSha196 password salt key is = ap length is.3 ∙ aes_dk_length is.0 (codes "kerberos") ∙ is.1
password_length Des3CbcSha1Kd password salt key is = ap length is.1 ∙ des3_dk_length (random_to_key (fold (password ++ salt) 168)) (codes "kerberos")
password_length Aes128CtsHmacSha256128 password salt key is =
    let m = kdf_message (codes "kerberos") 128 in
    ap length is.3 ∙ length-take-le 16 (hmac_256 is.0 m) (omega (arith, hmac_256-size is.0 m))
password_length Aes256CtsHmacSha384192 password salt key is =
    let m = kdf_message (codes "kerberos") 256 in
    ap length is.3 ∙ length-take-le 32 (hmac_384 is.0 m) (omega (arith, hmac_384-size is.0 m))

pub seed_length : (suite : CipherSuite) (seed : List ℕ) → length seed ≡ seed_octets_of suite → length (key_of_seed_of suite seed) ≡ key_octets_of suite
seed_length Aes128CtsHmacSha196 seed long = long
seed_length Aes256CtsHmacSha196 seed long = long
seed_length Des3CbcSha1Kd seed long = length-random_to_key seed
seed_length Aes128CtsHmacSha256128 seed long = long
seed_length Aes256CtsHmacSha384192 seed long = long

-- ---- numbers

-- a number is that of one suite
abbrev suite_of : ℕ → CipherSuite
suite_of n =
    if n == 16 then Des3CbcSha1Kd
    else if n == 17 then Aes128CtsHmacSha196
    else if n == 18 then Aes256CtsHmacSha196
    else if n == 19 then Aes128CtsHmacSha256128
    else Aes256CtsHmacSha384192

etype_back : (suite : CipherSuite) → suite_of (nat_abs (etype_number suite)) ≡ suite
etype_back Aes128CtsHmacSha196 = refl
etype_back Aes256CtsHmacSha196 = refl
etype_back Des3CbcSha1Kd = refl
etype_back Aes128CtsHmacSha256128 = refl
etype_back Aes256CtsHmacSha384192 = refl

abbrev checksum_suite_of : ℕ → ChecksumSuite
checksum_suite_of n =
    if n == 12 then checksum.HmacSha1Des3Kd
    else if n == 15 then checksum.HmacSha196Aes128
    else if n == 16 then checksum.HmacSha196Aes256
    else if n == 19 then checksum.HmacSha256128Aes128
    else checksum.HmacSha384192Aes256

checksum_back : (suite : ChecksumSuite) → checksum_suite_of (nat_abs (checksum_number suite)) ≡ suite
checksum_back checksum.HmacSha196Aes128 = refl
checksum_back checksum.HmacSha196Aes256 = refl
checksum_back checksum.HmacSha1Des3Kd = refl
checksum_back checksum.HmacSha256128Aes128 = refl
checksum_back checksum.HmacSha384192Aes256 = refl

pub one_etype : (a b : CipherSuite) → etype_number a ≡ etype_number b → a ≡ b
one_etype a b e = sym (etype_back a) ∙ ap (λ n. suite_of (nat_abs n)) e ∙ etype_back b

pub one_checksum : (a b : ChecksumSuite) → checksum_number a ≡ checksum_number b → a ≡ b
one_checksum a b e = sym (checksum_back a) ∙ ap (λ n. checksum_suite_of (nat_abs n)) e ∙ checksum_back b

pub etype_size : (size_of : CipherSuite → ℕ) (n : ℤ) (suite : CipherSuite) (size : ℕ) → etype_number suite ≡ n → IsSizeOf etype_number size_of n size → size_of suite ≡ size
etype_size size_of n suite size is (inl other) = ap size_of (one_etype suite other.0 (is ∙ sym other.1)) ∙ sym other.2
etype_size size_of n suite size is (inr none) = absurd (none.0 suite is)

pub checksum_size : (size_of : ChecksumSuite → ℕ) (n : ℤ) (suite : ChecksumSuite) (size : ℕ) → checksum_number suite ≡ n → IsSizeOf checksum_number size_of n size → size_of suite ≡ size
checksum_size size_of n suite size is (inl other) = ap size_of (one_checksum suite other.0 (is ∙ sym other.1)) ∙ sym other.2
checksum_size size_of n suite size is (inr none) = absurd (none.0 suite is)

pub encrypted_size : (n : ℤ) (suite : CipherSuite) (payload size : ℕ) → etype_number suite ≡ n → IsEncryptedSize n payload size → IsWord (sealed_octets_of suite payload) size
encrypted_size n suite payload size is (inl other) = subst (λ s. IsWord (sealed_octets_of s payload) size) (one_etype other.0 suite (other.1 ∙ sym is)) other.2
encrypted_size n suite payload size is (inr none) = absurd (none.0 suite is)
