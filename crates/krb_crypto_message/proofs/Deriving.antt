-- The steps of `derive_key`.
use Rattle.std.proofs.Common.{◌≡◌, ℕ, suc, ◌+◌, ◌-◌, ◌*◌, ◌/◌, ◌<◌, ◌≤◌, ◌⊎◌, List, [], ◌++◌, length, take, codes, refl, sym, ap, ◌∙◌, arith, inl, inr, append_assoc}
use Rattle.std.proofs.lemmas.List.{append-nil, take_all}
use Rattle.krb_crypto_hash.specs.Hmac.{hmac}
use Rattle.krb_crypto_hash.specs.Pbkdf2.{IsPbkdf2Over}
use Rattle.krb_crypto_block.specs.Fold.{fold}
use Rattle.krb_crypto_block.specs.Aes.{aes_block}
use Rattle.krb_crypto_block.specs.Size.{key_octets}
use Rattle.krb_crypto_block.specs.declared.aes.AesSize.{AesSize}
use Rattle.krb_crypto_block.specs.declared.aes.AesSize.TheVariants.{Aes256, Aes128}
use Rattle.std.proofs.lemmas.List.{ext_get_or}
use Rattle.std.proofs.lemmas.Nat.Bits.{same_from_bits}
use Rattle.krb_crypto_block.specs.Des.{ede3}
use Rattle.krb_crypto_message.specs.Derive.{blocks_from, aes_dk, IsAesPasswordKey, des3_dk}
use Rattle.krb_crypto_message.specs.RandomToKey.{random_to_key}
use Rattle.krb_crypto_message.specs.Sealing.{IsTheOne}

pub key_sizes : (size : AesSize) → (key_octets size ≡ 16) ⊎ (key_octets size ≡ 32)
key_sizes Aes256 = inr refl
key_sizes Aes128 = inl refl

pub blocks_step : (E : List ℕ → List ℕ) (f next out new all : List ℕ) (n i : ℕ) → i < n → next ≡ E f → new ≡ out ++ next
    → out ++ blocks_from E f (n - i) ≡ all → new ++ blocks_from E next (n - (i + 1)) ≡ all
unfolding blocks_from
blocks_step E f next out new all n i low made grown held =
    let count : n - i ≡ suc (n - (i + 1)) = omega arith in
    rw (grown, made) (append_assoc out (E f) (blocks_from E (E f) (n - (i + 1))) ∙ rw count at held)

pub derived_end : (key constant f out : List ℕ) (n i : ℕ) → (length key ≡ 16) ⊎ (length key ≡ 32) → n ≡ length key / 16 → n ≤ i → f ≡ fold constant 128
    → length out ≡ 16 * n → (b : List ℕ) → out ++ blocks_from (aes_block key) b (n - i) ≡ blocks_from (aes_block key) f n
    → (out ≡ aes_dk key constant) × (length out ≡ length key)
unfolding blocks_from aes_dk
derived_end key constant f out n i size en past ef long b held =
    let none : n - i ≡ 0 = omega arith in
    let whole : out ≡ blocks_from (aes_block key) f n = sym (append-nil out) ∙ rw none at held in
    let as_long : length out ≡ length key = elim size [ inl short ↦ omega arith | inr wide ↦ omega arith ] in
    let count : n ≡ (length key + 16 - 1) / 16 = elim size [ inl short ↦ omega arith | inr wide ↦ omega arith ] in (
      sym (take_all (length key) out (omega (arith, as_long)))
          ∙ ap (take (length key)) (whole ∙ ap (λ (g : List ℕ). blocks_from (aes_block key) g n) ef ∙ ap (λ (k : ℕ). blocks_from (aes_block key) (fold constant 128) k) count),
      as_long,
    )

-- PBKDF2 gives one list of so many octets
pub pbkdf2_one : (prf : List ℕ → List ℕ → List ℕ) (block size : ℕ) (password salt : List ℕ) (c : ℕ) (p q : List ℕ) → length p ≡ size → length q ≡ size
    → IsPbkdf2Over prf block password salt c p → IsPbkdf2Over prf block password salt c q → p ≡ q
pbkdf2_one prf block size password salt c p q lp lq is like =
    ext_get_or 0 p q (lp ∙ sym lq) (λ k lt. let within : k < length q = omega (arith, lt, lp, lq) in same_from_bits _ _ (λ b. is k b lt ∙ sym (like k b within)))

-- a password and a salt give one key
pub password_one : (size : ℕ) (password salt key : List ℕ) → IsAesPasswordKey size password salt key → IsTheOne (IsAesPasswordKey size password salt) key
password_one size password salt key made = record {
  holds = made;
  only = λ other is.
      let seeds : is.0 ≡ made.0 = pbkdf2_one hmac 20 size password salt 4096 is.0 made.0 is.1 made.1 is.2 made.2 in
      is.3 ∙ ap (λ (s : List ℕ). aes_dk s (codes "kerberos")) seeds ∙ sym made.3;
}

-- ---- triple DES

pub des3_derived : (key constant f first second third : List ℕ) → f ≡ fold constant 64 → first ≡ ede3 key f → second ≡ ede3 key first → third ≡ ede3 key second
    → random_to_key (take 21 (first ++ second ++ third)) ≡ des3_dk key constant
unfolding des3_dk blocks_from
des3_derived key constant f first second third ef e1 e2 e3 =
    let b1 : first ≡ ede3 key (fold constant 64) = e1 ∙ ap (ede3 key) ef in
    let b2 : second ≡ ede3 key (ede3 key (fold constant 64)) = e2 ∙ ap (ede3 key) b1 in
    let b3 : third ≡ ede3 key (ede3 key (ede3 key (fold constant 64))) = e3 ∙ ap (ede3 key) b2 in
    let x : List ℕ = ede3 key (fold constant 64) in
    let y : List ℕ = ede3 key (ede3 key (fold constant 64)) in
    let z : List ℕ = ede3 key (ede3 key (ede3 key (fold constant 64))) in
    let all : x ++ y ++ z ≡ x ++ (y ++ (z ++ [])) = append_assoc x y z ∙ ap (λ (back : List ℕ). x ++ (y ++ back)) (sym (append-nil z)) in
    rw (b1, b2, b3) (ap (λ (blocks : List ℕ). random_to_key (take 21 blocks)) all)
