-- Triple DES on octets: what the code computes, and that its two calls undo each other.
use Rattle.std.proofs.Common.{◌≡◌, ℕ, List, length, take, drop, map, reverse, sym, ap, ◌∙◌, arith}
use Rattle.std.specs.Int.{w64, to_be_bytes}
use Rattle.krb_crypto_block.specs.Modes.{IsOctets, IsBlock, AreInverse}
use Rattle.krb_crypto_block.specs.DesTables.{initial_table, final_table}
use Rattle.krb_crypto_block.specs.Des.{bits, key_bits, permuted, rounds, ciphered, round_keys, des_block, des_undo, octet_bits, octets_of_bits, cipher_octets, plain_octets, first_key, second_key, third_key, ede3, ede3_undo, AreScheduled}
use Rattle.krb_crypto_block.proofs.DesBits.{length-bits}
use Rattle.krb_crypto_block.proofs.DesFeistel.{initial_final, des_undo-block, des_block-undo}
use Rattle.krb_crypto_block.proofs.DesOctets.{AreBits-octet_bits, AreBits-ciphered, length-octet_bits, length-ciphered, length-octets_of_bits, IsOctets-octets_of_bits, octets_of_bits-octet_bits, octet_bits-octets_of_bits, octets_of_bits-bits}

-- ---- blocks

block_of : (keys : List (List ℕ)) (b : List ℕ) → IsBlock 8 (octets_of_bits 8 (ciphered keys (octet_bits b)))
block_of keys b = (
  length-octets_of_bits 8 (ciphered keys (octet_bits b)),
  IsOctets-octets_of_bits 8 (ciphered keys (octet_bits b)) (AreBits-ciphered keys (octet_bits b) (AreBits-octet_bits b)) (length-ciphered keys (octet_bits b)),
)

bits_of_block : (keys : List (List ℕ)) (b : List ℕ) → octet_bits (octets_of_bits 8 (ciphered keys (octet_bits b))) ≡ ciphered keys (octet_bits b)
bits_of_block keys b =
    octet_bits-octets_of_bits 8 (ciphered keys (octet_bits b)) (AreBits-ciphered keys (octet_bits b) (AreBits-octet_bits b)) (length-ciphered keys (octet_bits b))

-- ---- numbers of 64 bits, with no permutation between the three

-- what the rounds make of the block y is x
abbrev IsRun : List (List ℕ) → ℕ → ℕ → Type 0
IsRun keys y x = bits 64 x ≡ rounds keys (take 32 (bits 64 y)) (drop 32 (bits 64 y))

ciphered_run : (keys : List (List ℕ)) (q : List ℕ) (y x : ℕ) → permuted initial_table q ≡ bits 64 y → IsRun keys y x → ciphered keys q ≡ permuted final_table (bits 64 x)
unfolding ciphered
ciphered_run keys q y x e run = ap (λ (k : List ℕ). permuted final_table (rounds keys (take 32 k) (drop 32 k))) e ∙ ap (permuted final_table) (sym run)

ciphered_again : (keys : List (List ℕ)) (y x : ℕ) → IsRun keys y x → ciphered keys (permuted final_table (bits 64 y)) ≡ permuted final_table (bits 64 x)
ciphered_again keys y x run = ciphered_run keys (permuted final_table (bits 64 y)) y x (initial_final (bits 64 y) (length-bits 64 y)) run

-- three in a row
thrice_is : (first second third : List (List ℕ)) (p : List ℕ) (n s a b d m : ℕ) → octet_bits p ≡ bits 64 n → bits 64 s ≡ permuted initial_table (bits 64 n)
    → IsRun first s a → IsRun second a b → IsRun third b d → bits 64 m ≡ permuted final_table (bits 64 d)
    → ciphered third (ciphered second (ciphered first (octet_bits p))) ≡ bits 64 m
thrice_is first second third p n s a b d m before start once twice thrice after =
    ap (λ (k : List ℕ). ciphered third (ciphered second (ciphered first k))) before
    ∙ ap (λ (k : List ℕ). ciphered third (ciphered second k)) (ciphered_run first (bits 64 n) s a (sym start) once)
    ∙ ap (ciphered third) (ciphered_again second a b twice) ∙ ciphered_again third b d thrice ∙ sym after

octets_thrice : (first second third : List (List ℕ)) (p : List ℕ)
    → octets_of_bits 8 (ciphered third (octet_bits (octets_of_bits 8 (ciphered second (octet_bits (octets_of_bits 8 (ciphered first (octet_bits p))))))))
    ≡ octets_of_bits 8 (ciphered third (ciphered second (ciphered first (octet_bits p))))
octets_thrice first second third p =
    ap (λ (k : List ℕ). octets_of_bits 8 (ciphered third k)) (bits_of_block second (octets_of_bits 8 (ciphered first (octet_bits p))))
    ∙ ap (λ (k : List ℕ). octets_of_bits 8 (ciphered third (ciphered second k))) (bits_of_block first p)

pub ede3_is : (first second third key p : List ℕ) (n s a b d m : ℕ) → AreScheduled first second third key → octet_bits p ≡ bits 64 n
    → bits 64 s ≡ permuted initial_table (bits 64 n)
    → IsRun (map key_bits first) s a → IsRun (reverse (map key_bits second)) a b → IsRun (map key_bits third) b d
    → bits 64 m ≡ permuted final_table (bits 64 d)
    → to_be_bytes w64 m ≡ ede3 key p
unfolding ede3 cipher_octets plain_octets des_block des_undo
ede3_is first second third key p n s a b d m is before start once twice thrice after =
    let k1 : List (List ℕ) = round_keys (octet_bits (first_key key)) in
    let k2 : List (List ℕ) = reverse (round_keys (octet_bits (second_key key))) in
    let k3 : List (List ℕ) = round_keys (octet_bits (third_key key)) in
    let r1 : IsRun k1 s a = rw is.first_keys at once in
    let r2 : IsRun k2 a b = rw is.second_keys at twice in
    let r3 : IsRun k3 b d = rw is.third_keys at thrice in
    sym (octets_thrice k1 k2 k3 p ∙ ap (octets_of_bits 8) (thrice_is k1 k2 k3 p n s a b d m before start r1 r2 r3 after) ∙ octets_of_bits-bits m)

pub ede3_undo_is : (first second third key c : List ℕ) (n s a b d m : ℕ) → AreScheduled first second third key → octet_bits c ≡ bits 64 n
    → bits 64 s ≡ permuted initial_table (bits 64 n)
    → IsRun (reverse (map key_bits third)) s a → IsRun (map key_bits second) a b → IsRun (reverse (map key_bits first)) b d
    → bits 64 m ≡ permuted final_table (bits 64 d)
    → to_be_bytes w64 m ≡ ede3_undo key c
unfolding ede3_undo cipher_octets plain_octets des_block des_undo
ede3_undo_is first second third key c n s a b d m is before start once twice thrice after =
    let k3 : List (List ℕ) = reverse (round_keys (octet_bits (third_key key))) in
    let k2 : List (List ℕ) = round_keys (octet_bits (second_key key)) in
    let k1 : List (List ℕ) = reverse (round_keys (octet_bits (first_key key))) in
    let r3 : IsRun k3 s a = rw is.third_keys at once in
    let r2 : IsRun k2 a b = rw is.second_keys at twice in
    let r1 : IsRun k1 b d = rw is.first_keys at thrice in
    sym (octets_thrice k3 k2 k1 c ∙ ap (octets_of_bits 8) (thrice_is k3 k2 k1 c n s a b d m before start r3 r2 r1 after) ∙ octets_of_bits-bits m)

-- ---- the two calls undo each other

bits_in_block : (b : List ℕ) → IsBlock 8 b → length (octet_bits b) ≡ 64
bits_in_block b h = length-octet_bits b ∙ omega (arith, h.0)

octets_of_block : (b : List ℕ) → IsBlock 8 b → octets_of_bits 8 (octet_bits b) ≡ b
octets_of_block b h = ap (λ n. octets_of_bits n (octet_bits b)) (sym h.0) ∙ octets_of_bits-octet_bits b h.1

plain-cipher : (key b : List ℕ) → IsBlock 8 b → plain_octets key (cipher_octets key b) ≡ b
unfolding plain_octets cipher_octets des_block
plain-cipher key b h =
    let k = octet_bits key in
    ap (λ (c : List ℕ). octets_of_bits 8 (des_undo k c)) (bits_of_block (round_keys k) b)
    ∙ ap (octets_of_bits 8) (des_undo-block k (octet_bits b) (bits_in_block b h)) ∙ octets_of_block b h

cipher-plain : (key b : List ℕ) → IsBlock 8 b → cipher_octets key (plain_octets key b) ≡ b
unfolding plain_octets cipher_octets des_undo
cipher-plain key b h =
    let k = octet_bits key in
    ap (λ (c : List ℕ). octets_of_bits 8 (des_block k c)) (bits_of_block (reverse (round_keys k)) b)
    ∙ ap (octets_of_bits 8) (des_block-undo k (octet_bits b) (bits_in_block b h)) ∙ octets_of_block b h

AreInverse-octets : (key : List ℕ) → AreInverse 8 (cipher_octets key) (plain_octets key)
unfolding cipher_octets plain_octets des_block des_undo
AreInverse-octets key = record {
  encrypted_octets = λ b h. block_of (round_keys (octet_bits key)) b;
  decrypted = λ b h. block_of (reverse (round_keys (octet_bits key))) b;
  left = plain-cipher key;
  right = cipher-plain key;
}

AreInverse-turned : (size : ℕ) (E D : List ℕ → List ℕ) → AreInverse size E D → AreInverse size D E
AreInverse-turned size E D h = record {
  encrypted_octets = h.decrypted;
  decrypted = h.encrypted_octets;
  left = h.right;
  right = h.left;
}

-- one after the other
AreInverse-concatenated : (size : ℕ) (E D F G : List ℕ → List ℕ) → AreInverse size E D → AreInverse size F G → AreInverse size (λ b. F (E b)) (λ b. D (G b))
AreInverse-concatenated size E D F G h g = record {
  encrypted_octets = λ b is. g.encrypted_octets (E b) (h.encrypted_octets b is);
  decrypted = λ b is. h.decrypted (G b) (g.decrypted b is);
  left = λ b is. ap D (g.left (E b) (h.encrypted_octets b is)) ∙ h.left b is;
  right = λ b is. ap F (h.right (G b) (g.decrypted b is)) ∙ g.right b is;
}

pub AreInverse-ede3 : (key : List ℕ) → AreInverse 8 (ede3 key) (ede3_undo key)
unfolding ede3 ede3_undo
AreInverse-ede3 key =
    AreInverse-concatenated 8 (λ b. plain_octets (second_key key) (cipher_octets (first_key key) b)) (λ b. plain_octets (first_key key) (cipher_octets (second_key key) b)) (cipher_octets (third_key key)) (plain_octets (third_key key))
    (AreInverse-concatenated 8 (cipher_octets (first_key key)) (plain_octets (first_key key)) (plain_octets (second_key key)) (cipher_octets (second_key key))
    (AreInverse-octets (first_key key))
    (AreInverse-turned 8 (cipher_octets (second_key key)) (plain_octets (second_key key)) (AreInverse-octets (second_key key))))
    (AreInverse-octets (third_key key))

-- what gives the block c is what undoing c gives
pub ede3_undo_alone : (key q c : List ℕ) → length q ≡ 8 → IsOctets q → ede3 key q ≡ c → q ≡ ede3_undo key c
ede3_undo_alone key q c long octets e = sym ((AreInverse-ede3 key).left q (long, octets)) ∙ ap (ede3_undo key) e

pub ede3-undo : (key c : List ℕ) → length c ≡ 8 → IsOctets c → ede3 key (ede3_undo key c) ≡ c
ede3-undo key c long octets = (AreInverse-ede3 key).right c (long, octets)
