-- Kc, as blocks of AES; and a checksum under the Kc that is kept, as the one under its key.
use Rattle.std.proofs.Common.{◌≡◌, ◌-◌, ℕ, ℤ, List, [], ◌++◌, length, take, drop, replicate, refl, sym, ap, ◌∙◌, arith, inl, inr, append_assoc}
use Rattle.std.proofs.lemmas.List.{append-nil, length-append, take_at, drop_at, take_all, drop_all}
use borrow.Rule.Slice.PartMut.{put_mid}
use Rattle.krb_crypto_hash.specs.CryptoError.{RejectsKey}
use Rattle.krb_crypto_hash.specs.declared.error.KerberosCryptoError.{KerberosCryptoError}
use Rattle.krb_crypto_block.proofs.AesUndoing.{aes_block_size}
use Rattle.krb_crypto_block.specs.Aes.{aes_block}
use Rattle.krb_crypto_block.specs.Fold.{fold}
use Rattle.krb_crypto_message.proofs.Deriving.{derived_end}
use Rattle.krb_crypto_message.specs.Derive.{aes_dk, blocks_from}
use Rattle.krb_crypto_message.specs.Sealed.{aes_kc}
use Rattle.krb_crypto_message.specs.WellKnown.{usage_constant}
use Rattle.krb_crypto.specs.BySuite.{sum_of}
use Rattle.krb_crypto.specs.PreparedKeys.{checksum_key_of}
use Rattle.krb_crypto.specs.declared.checksum_suite.ChecksumSuite.{ChecksumSuite}
use Rattle.krb_crypto.specs.declared.checksum_suite.ChecksumSuite.TheVariants as checksum
use Rattle.krb_c_calls.specs.Checksums.{IsChecksum}
use Rattle.krb_c_calls.specs.Kept.{Holds}
use Rattle.krb_c_calls.specs.KeptChecksums.{IsKeptChecksumKey, IsSumOfKept, RefusesKc, kc_octets_of, sum_under}
use Rattle.krb_c_calls.specs.Statuses.{crypto_status}
use Rattle.krb_c_calls.specs.declared.kept_checksums.KeptChecksumKey.{KeptChecksumKey}
use Rattle.krb_c_calls.proofs.Lengths.{one_checksum}

-- ---- blocks of AES

one_block : (key constant : List ℕ) → length key ≡ 16 → aes_block key (fold constant 128) ≡ aes_dk key constant
unfolding blocks_from
one_block key constant long =
    let f = fold constant 128 in
    (derived_end key constant f (aes_block key f) 1 1 (inl long) (omega (arith, long)) (omega arith) refl (aes_block_size key f) f refl).0

two_blocks : (key constant : List ℕ) → length key ≡ 32 → aes_block key (fold constant 128) ++ aes_block key (aes_block key (fold constant 128)) ≡ aes_dk key constant
unfolding blocks_from
two_blocks key constant long =
    let f = fold constant 128 in
    let first = aes_block key f in
    let second = aes_block key first in
    let size : length (first ++ second) ≡ 32 = omega (arith, length-append first second, aes_block_size key f, aes_block_size key first) in
    (derived_end key constant f (first ++ second) 2 2 (inr long) (omega (arith, long)) (omega arith) refl size f (append_assoc first second [])).0

pub held_block : (key : List ℕ) (usage : ℤ) (cipher block field : List ℕ) → length key ≡ 16 → cipher ≡ key → block ≡ aes_block cipher (fold (usage_constant usage 0x99) 128) → length block ≡ 16
    → take (length block) field ≡ block → drop (length block) field ≡ replicate (32 - length block) 0 → Holds 16 (aes_kc key usage) field
held_block key usage cipher block field long is made size octets zeros =
    (rw size at octets ∙ made ∙ ap (λ k. aes_block k (fold (usage_constant usage 0x99) 128)) is ∙ one_block key (usage_constant usage 0x99) long, rw size at zeros)

pub held_blocks : (key : List ℕ) (usage : ℤ) (cipher first second field : List ℕ) → length key ≡ 32 → cipher ≡ key → first ≡ aes_block cipher (fold (usage_constant usage 0x99) 128)
    → second ≡ aes_block cipher first → length field ≡ 32 → field ≡ first ++ second → Holds 32 (aes_kc key usage) field
held_blocks key usage cipher first second field long is one two size both =
    let f = fold (usage_constant usage 0x99) 128 in
    let begin : first ≡ aes_block key f = one ∙ ap (λ k. aes_block k f) is in
    let behind : second ≡ aes_block key (aes_block key f) = two ∙ ap (λ k. aes_block k first) is ∙ ap (aes_block key) begin in (
      take_all 32 field (omega (arith, size)) ∙ both ∙ ap (λ b. b ++ second) begin ∙ ap (λ b. aes_block key f ++ b) behind ∙ two_blocks key (usage_constant usage 0x99) long,
      drop_all 32 field (omega (arith, size)),
    )

pub two_parts : (p q : List ℕ) → length p ≡ 16 → put_mid 16 16 (p ++ replicate 16 0) q ≡ p ++ q
two_parts p q size =
    ap (λ (front : List ℕ). front ++ (q ++ drop 16 (drop 16 (p ++ replicate 16 0)))) (take_at p (replicate 16 0) 16 size)
    ∙ ap (λ (back : List ℕ). p ++ (q ++ drop 16 back)) (drop_at p (replicate 16 0) 16 size)
    ∙ ap (λ (back : List ℕ). p ++ back) (append-nil q)

-- ---- other keys

-- the first octets of an HMAC, and zeros
pub held_cut : (n : ℕ) (block kc field : List ℕ) → length (take n block) ≡ n → take n block ≡ kc → take (length (take n block)) field ≡ take n block
    → drop (length (take n block)) field ≡ replicate (32 - length (take n block)) 0 → Holds n kc field
held_cut n block kc field size is octets zeros = (rw size at octets ∙ is, rw size at zeros)

pub des3_refused : (key : List ℕ) (e : KerberosCryptoError) → length key ≡ 24 → RejectsKey 24 key e → RefusesKc checksum.HmacSha1Des3Kd key (crypto_status e)
des3_refused key e long (inl memory) = inr (refl, long, ap crypto_status memory)
des3_refused key e long (inr other) = absurd (other.0 long)

-- ---- checksums

under_its_key : (suite : ChecksumSuite) (key : List ℕ) (usage : ℤ) (message : List ℕ) → sum_under suite (checksum_key_of suite key usage) message ≡ sum_of suite key usage message
under_its_key checksum.HmacSha196Aes128 key usage message = refl
under_its_key checksum.HmacSha196Aes256 key usage message = refl
under_its_key checksum.HmacSha1Des3Kd key usage message = refl
under_its_key checksum.HmacSha256128Aes128 key usage message = refl
under_its_key checksum.HmacSha384192Aes256 key usage message = refl

pub summed_again : (kept : KeptChecksumKey) (message octets : List ℕ) → IsSumOfKept kept message octets → (key : List ℕ) (usage : ℤ) → IsKeptChecksumKey key usage kept
    → IsChecksum kept.cksumtype key usage message octets
summed_again kept message octets (suite, is, sum) key usage (other, h) = (
  other,
  h.number,
  (
    h.kc.0,
    sum ∙ ap (λ s. sum_under s (take (kc_octets_of s) kept.kc) message) (one_checksum suite other (is ∙ sym h.number))
        ∙ ap (λ kc. sum_under other kc message) h.kc.1.0 ∙ under_its_key other key usage message,
  ),
)
