-- The steps of the message calls.
use Rattle.std.proofs.Common.{◌≡◌, ◌≢◌, ℕ, ℤ, ◌≤◌, ◌<◌, ◌+◌, ◌-◌, ◌%◌, List, ◌++◌, length, take, drop, replicate, refl, sym, ap, subst, ◌∙◌, arith}
use Rattle.std.proofs.lemmas.Bool.{le-ltb, lt-ltb, eq-eqb}
use Rattle.std.proofs.lemmas.List.{length-take-le, take_all, take_at}
use Rattle.krb_crypto_hash.specs.Hmac.{hmac}
use Rattle.krb_crypto_block.proofs.AesUndoing.{aes_block_size}
use Rattle.krb_crypto_hash.proofs.HmacSteps.{hmac_size}
use Rattle.krb_crypto_block.proofs.StealingUses.{Cts-same, Cts-length}
use Rattle.krb_crypto_block.specs.Aes.{aes_block}
use Rattle.krb_crypto_block.specs.Des.{ede3, ede3_undo}
use Rattle.krb_crypto_block.specs.Modes.{Cts, IsCbc, IsPadding, IsOctets}
use Rattle.krb_crypto_block.proofs.Chaining.{IsCbc-same, IsCbc-length}
use Rattle.krb_crypto_block.proofs.DesTriple.{AreInverse-ede3}
use Rattle.krb_crypto_block.proofs.Filling.{IsPadding-one, IsPadding-whole}
use Rattle.krb_crypto_hash.specs.declared.error.KerberosCryptoError.{KerberosCryptoError}
use Rattle.krb_crypto_hash.specs.declared.error.KerberosCryptoError.TheVariants.{CipherLength, IntegrityCheck}
use Rattle.krb_crypto_message.specs.MessageSteps.{cut_mac, IsDecrypted}
use Rattle.krb_crypto_message.proofs.Opening.{IsScheme, IsEncrypted}
use Rattle.krb_crypto_block.specs.declared.aes.AesSize.{AesSize}
use Rattle.krb_crypto_message.specs.AesSha2.{IsSealedSha2, sha2_ke, sha2_ki, sha2_seal_mac}
use Rattle.krb_crypto_message.specs.DerivedKeys.{DerivedKeys, IsSealedUnderAes, IsSealedUnderSha2, IsSealedUnderDes3, unopened_error, unopened_des3_error}
use Rattle.krb_crypto_message.specs.SizedKeys.{SizedKeys}
use Rattle.krb_crypto_message.specs.Sealed.{IsSealedBy, IsSealedAes, aes_ke, aes_ki, mac_96, cts_error, IsSealedDes3, des3_ke, des3_ki, des3_error}

-- ---- AES

-- for any checksum of h octets
pub cts_scheme : (h : ℕ) (ke ki : List ℕ) (mac : List ℕ → List ℕ → List ℕ) (tag : List ℕ → List ℕ → List ℕ → List ℕ) → ((p c : List ℕ) → length (mac p c) ≡ h) → ((p c : List ℕ) → tag ki p c ≡ mac p c)
    → IsScheme 1 16 h (Cts (aes_block ke)) mac tag ki (λ n. 16 ≤ n)
cts_scheme h ke ki mac tag sized computed = record {
  some = omega arith;
  multiple = refl;
  sized = sized;
  computed = computed;
  same = Cts-same (aes_block ke);
  shaped = λ p c octets long is. omega (arith, long, Cts-length (aes_block ke) (aes_block_size ke) p c is);
}

pub aes_scheme : (ke ki : List ℕ) → IsScheme 1 16 12 (Cts (aes_block ke)) (λ p c. mac_96 ki p) (λ ki p c. cut_mac 12 ki p) ki (λ n. 16 ≤ n)
aes_scheme ke ki =
    cts_scheme 12 ke ki (λ p c. mac_96 ki p) (λ ki p c. cut_mac 12 ki p)
    (λ m c. length-take-le 12 (hmac ki m) (omega (arith, hmac_size ki m))) (λ m c. refl)

-- octets enough are rejected for their checksum alone
pub cts_intact : (h : ℕ) (bytes : List ℕ) → 16 + h ≤ length bytes → unopened_error (16 + h) bytes ≡ IntegrityCheck
cts_intact h bytes long = rw (le-ltb (length bytes) (16 + h) long) refl

-- too few, for their number
pub cts_few : (shortest : ℕ) (bytes : List ℕ) → length bytes < shortest → unopened_error shortest bytes ≡ CipherLength (length bytes) shortest
cts_few shortest bytes few = rw (lt-ltb (length bytes) shortest few) refl

-- and what is too short is given for nothing
pub cts_short : (h : ℕ) (bytes : List ℕ) → length bytes < 16 + h → ¬ ((h ≤ length bytes) × (16 ≤ length bytes - h))
cts_short h bytes few shape = absurd (omega (arith, shape.0, shape.1))

-- the error under a key of the right length
pub cts_error_right : (shortest size : ℕ) (key bytes : List ℕ) → length key ≡ size → cts_error shortest size key bytes ≡ unopened_error shortest bytes
cts_error_right shortest size key bytes right = rw (eq-eqb (length key) size right) refl

-- what is rejected for another reason than its checksum is too short
pub cts_unshaped : (h size : ℕ) (key bytes : List ℕ) (e : KerberosCryptoError) → length key ≡ size → (e ≡ cts_error (16 + h) size key bytes) × (e ≢ IntegrityCheck)
    → ¬ ((h ≤ length bytes) × (16 ≤ length bytes - h))
cts_unshaped h size key bytes e right rejected shape =
    rejected.1 (rejected.0 ∙ cts_error_right (16 + h) size key bytes right ∙ cts_intact h bytes (omega (arith, shape.0, shape.1)))

-- what is written by the calls is confounder and payload, encrypted under the keys Ke and Ki
pub cts_encrypted : (ke ki confounder payload padded c : List ℕ) → padded ≡ confounder ++ payload → IsOctets padded → Cts (aes_block ke) padded c
    → IsEncrypted 1 (Cts (aes_block ke)) ki confounder payload padded c ki
cts_encrypted ke ki confounder payload padded c concatenated octets made = record {
  padding_is = subst (λ f. IsPadding 1 (confounder ++ payload) f) (sym concatenated) (IsPadding-whole 1 (omega arith) (confounder ++ payload) (omega arith));
  octets = octets;
  encrypted_octets = made;
  ki_is = refl;
}

-- and what is read is the one list that is encrypted so
pub cts_decrypted : (h : ℕ) (ke ki bytes padded : List ℕ) → 16 + h ≤ length bytes → IsOctets padded → Cts (aes_block ke) padded (take (length bytes - h) bytes)
    → ((q : List ℕ) → IsOctets q → Cts (aes_block ke) q (take (length bytes - h) bytes) → q ≡ padded)
    → IsDecrypted 1 16 h (Cts (aes_block ke)) ki bytes padded ki
cts_decrypted h ke ki bytes padded long octets made only = record {
  long = long;
  prefix = made.0;
  whole = omega arith;
  of_octets = octets;
  encrypted_octets = made;
  only = only;
  ki_is = refl;
}

-- what is opened, padded to a multiple of one octet, is the payload itself
pub unfilled : (payload opened : List ℕ) → IsPadding 1 payload opened → opened ≡ payload
unfilled payload opened is = IsPadding-one 1 payload opened payload is (IsPadding-whole 1 (omega arith) payload (omega arith))

-- ---- triple DES

-- an HMAC of 20 octets is cut and padded by none
pub whole_mac : (key m tag : List ℕ) → tag ≡ take 20 (hmac key m ++ replicate (20 - 20) 0) → tag ≡ hmac key m
whole_mac key m tag e = e ∙ take_at (hmac key m) (replicate (20 - 20) 0) 20 (hmac_size key m)

Cbc-length : (ke p c : List ℕ) → IsOctets p → IsCbc 8 (ede3 ke) p c → length c ≡ length p
Cbc-length ke p c octets h = IsCbc-length 8 (omega arith) (ede3 ke) (ede3_undo ke) (AreInverse-ede3 ke) p c octets h

-- what is encrypted has at least a block, and whole ones; the HMAC has 20 octets, and none is cut off
pub des3_scheme : (ke ki : List ℕ) → IsScheme 8 8 20 (IsCbc 8 (ede3 ke)) (λ p c. hmac ki p) (λ ki p c. cut_mac 20 ki p) ki (λ n. (8 ≤ n) × (n % 8 ≡ 0))
des3_scheme ke ki = record {
  some = omega arith;
  multiple = refl;
  sized = λ m c. hmac_size ki m;
  computed = λ m c. take_all 20 (hmac ki m) (omega (arith, hmac_size ki m));
  same = IsCbc-same 8 (ede3 ke);
  shaped = λ p c octets long h.
      let same : length c ≡ length p = Cbc-length ke p c octets h in
      (omega (arith, same, long), ap (λ (k : ℕ). k % 8) same ∙ h.whole);
}

-- whole blocks after a confounder are rejected for their checksum alone
pub des3_intact : (bytes : List ℕ) → 28 ≤ length bytes → (length bytes - 20) % 8 ≡ 0 → unopened_des3_error bytes ≡ IntegrityCheck
des3_intact bytes long whole = rw (le-ltb (length bytes) 28 long, eq-eqb ((length bytes - 20) % 8) 0 whole) refl

-- and what is rejected for another reason is too short, or not of whole blocks
pub des3_unshaped : (bytes : List ℕ) (e : KerberosCryptoError) → (e ≡ unopened_des3_error bytes) × (e ≢ IntegrityCheck)
    → ¬ ((20 ≤ length bytes) × ((8 ≤ length bytes - 20) × ((length bytes - 20) % 8 ≡ 0)))
des3_unshaped bytes e rejected shape = rejected.1 (rejected.0 ∙ des3_intact bytes (omega (arith, shape.0, shape.1.0)) shape.1.1)

-- the error under a key of the right length
pub des3_error_right : (key bytes : List ℕ) → length key ≡ 24 → des3_error key bytes ≡ unopened_des3_error bytes
des3_error_right key bytes right = rw (eq-eqb (length key) 24 right) refl

-- what is written by the calls is confounder and payload, padded and encrypted
pub des3_encrypted : (ke ki confounder payload padded c : List ℕ) → IsPadding 8 (confounder ++ payload) padded → IsOctets padded → IsCbc 8 (ede3 ke) padded c
    → IsEncrypted 8 (IsCbc 8 (ede3 ke)) ki confounder payload padded c ki
des3_encrypted ke ki confounder payload padded c is octets made = record {
  padding_is = is;
  octets = octets;
  encrypted_octets = made;
  ki_is = refl;
}

-- and what is read is the one list that is encrypted so
pub des3_decrypted : (ke ki bytes padded : List ℕ) → 28 ≤ length bytes → IsOctets padded
    → IsCbc 8 (ede3 ke) padded (take (length bytes - 20) bytes)
    → ((q : List ℕ) → IsOctets q → IsCbc 8 (ede3 ke) q (take (length bytes - 20) bytes) → q ≡ padded)
    → IsDecrypted 8 8 20 (IsCbc 8 (ede3 ke)) ki bytes padded ki
des3_decrypted ke ki bytes padded long octets made only =
    let same : length (take (length bytes - 20) bytes) ≡ length padded = Cbc-length ke padded (take (length bytes - 20) bytes) octets made in
    record {
      long = long;
      prefix = omega (arith, same, long, length-take-le (length bytes - 20) bytes (omega arith));
      whole = made.whole;
      of_octets = octets;
      encrypted_octets = made;
      only = only;
      ki_is = refl;
    }

-- what is decrypted is rejected for its checksum alone
pub des3_checked : (ke ki bytes padded : List ℕ) → IsDecrypted 8 8 20 (IsCbc 8 (ede3 ke)) ki bytes padded ki → unopened_des3_error bytes ≡ IntegrityCheck
des3_checked ke ki bytes padded d =
    let same : length (take (length bytes - 20) bytes) ≡ length padded = Cbc-length ke padded (take (length bytes - 20) bytes) d.of_octets d.encrypted_octets in
    let prefix : length bytes - 20 ≡ length padded = sym (length-take-le (length bytes - 20) bytes (omega arith)) ∙ same in
    des3_intact bytes d.long (ap (λ (k : ℕ). k % 8) prefix ∙ d.whole)

-- ---- calls in place

-- a vector whose octets a call wrote over holds what the call left
pub written : (items new : List ℕ) (n : ℕ) → length new ≡ n → take n (new ++ drop (length new) items) ≡ new
written items new n e = take_at new (drop (length new) items) n e

-- ---- the keys of a key and a usage

-- what holds of a meaning under Ke and Ki holds of the meaning under the key and the usage that they are derived from
module _ (P : (List ℕ → List ℕ → List ℕ → Type 0) → Type 0) where
  pub as_aes : (k : DerivedKeys) (key : List ℕ) (usage : ℤ) → k.ke ≡ aes_ke key usage → k.ki ≡ aes_ki key usage → P (IsSealedUnderAes k) → P (IsSealedAes key usage)
  as_aes k key usage eke eki is =
      subst (λ ki. P (λ c p o. IsSealedBy 1 (Cts (aes_block (aes_ke key usage))) (λ padded cipher. mac_96 ki padded) c p o)) eki
      (subst (λ ke. P (λ c p o. IsSealedBy 1 (Cts (aes_block ke)) (λ padded cipher. mac_96 k.ki padded) c p o)) eke is)

  pub as_des3 : (k : DerivedKeys) (key : List ℕ) (usage : ℤ) → k.ke ≡ des3_ke key usage → k.ki ≡ des3_ki key usage → P (IsSealedUnderDes3 k) → P (IsSealedDes3 key usage)
  as_des3 k key usage eke eki is =
      subst (λ ki. P (λ c p o. IsSealedBy 8 (IsCbc 8 (ede3 (des3_ke key usage))) (λ padded cipher. hmac ki padded) c p o)) eki
      (subst (λ ke. P (λ c p o. IsSealedBy 8 (IsCbc 8 (ede3 ke)) (λ padded cipher. hmac k.ki padded) c p o)) eke is)

  pub as_sha2 : (k : SizedKeys) (size : AesSize) (key : List ℕ) (usage : ℤ) → k.size ≡ size → k.keys.ke ≡ sha2_ke size key usage → k.keys.ki ≡ sha2_ki size key usage
      → P (IsSealedUnderSha2 k.size k.keys) → P (IsSealedSha2 size key usage)
  as_sha2 k size key usage es eke eki is =
      subst (λ ki. P (λ c p o. IsSealedBy 1 (Cts (aes_block (sha2_ke size key usage))) (λ padded cipher. sha2_seal_mac size ki cipher) c p o)) eki
      (subst (λ ke. P (λ c p o. IsSealedBy 1 (Cts (aes_block ke)) (λ padded cipher. sha2_seal_mac size k.keys.ki cipher) c p o)) eke
      (subst (λ s. P (λ c p o. IsSealedBy 1 (Cts (aes_block k.keys.ke)) (λ padded cipher. sha2_seal_mac s k.keys.ki cipher) c p o)) es is))
