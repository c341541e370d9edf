-- Octets and their bits, and triple DES on octets.
use Rattle.std.proofs.Common.{◌≡◌, ℕ, zero, suc, ◌+◌, ◌-◌, ◌*◌, ◌/◌, ◌%◌, ◌^◌, ◌<◌, ◌≤◌, List, [], ◌∷◌, ◌++◌, length, take, drop, slice_index, refl, sym, ap, ◌∙◌, arith}
use Rattle.std.specs.Int.{w64, byte_at, bytes_high_first, to_be_bytes, from_be_bytes}
use Rattle.std.proofs.lemmas.Nat.{be_bytes_8}
use Rattle.std.proofs.lemmas.List.{take_at, drop_at, take-append-drop, drop_more, length-append, length-drop, length-take-le}
use Rattle.std.proofs.Math.Arith.{digits_lt}
use Rattle.std.proofs.Math.Nat.{pow-suc}
use Rattle.krb_crypto_block.proofs.FoldWorth.{worth, worth_pow}
use Rattle.krb_crypto_block.specs.Modes.{IsOctets}
use Rattle.krb_crypto_block.specs.DesTables.{initial_table, final_table, expansion_table, round_table, s_boxes}
use Rattle.krb_crypto_hash.specs.Xor.{xor_lists}
use Rattle.krb_crypto_block.specs.Des.{bits, number_of_bits, permuted, substituted_one, substituted, round_value, rounds, ciphered, octet_bits, octets_of_bits}
use Rattle.krb_crypto_block.proofs.DesBits.{bits-suc, bits-zero, bits-append, length-bits, same_from_bits}
use Rattle.krb_crypto_block.proofs.DesRounds.{bits-split}
use Rattle.krb_crypto_block.proofs.Below.{AreBelow, AreBelow-append, AreBelow-drop, AreBelow-one, AreBelow-take, AreBelow-xor_lists}

-- ---- lists of bits

abbrev pub AreBits : List ℕ → Type 0
AreBits xs = AreBelow 2 xs

AreBits-permuted : (table xs : List ℕ) → AreBits xs → AreBits (permuted table xs)
AreBits-permuted [] xs h i = omega arith
AreBits-permuted (t ∷ table) xs h zero = h (t - 1)
AreBits-permuted (t ∷ table) xs h (suc i) = AreBits-permuted table xs h i

AreBits-bits : (w n : ℕ) → AreBits (bits w n)
AreBits-bits zero n i = rw (bits-zero n) (omega arith)
AreBits-bits (suc w) n i =
    let low : n % 2 < 2 = omega arith in
    rw (bits-suc w n) (AreBelow-append (bits w (n / 2)) ((n % 2) ∷ []) (AreBits-bits w (n / 2)) (AreBelow-one (n % 2) low) i)

AreBits-substituted : (boxes : List (List (List ℕ))) (xs : List ℕ) → AreBits (substituted boxes xs)
unfolding substituted
AreBits-substituted [] xs i = omega arith
AreBits-substituted (box ∷ boxes) xs i = AreBelow-append (substituted_one box (take 6 xs)) (substituted boxes (drop 6 xs)) (AreBits-bits 4 _) (AreBits-substituted boxes (drop 6 xs)) i

AreBits-round_value : (right key : List ℕ) → AreBits (round_value right key)
unfolding round_value
AreBits-round_value right key = AreBits-permuted round_table (substituted s_boxes (xor_lists (permuted expansion_table right) key)) (AreBits-substituted s_boxes _)

AreBits-rounds : (keys : List (List ℕ)) (left right : List ℕ) → AreBits left → AreBits right → AreBits (rounds keys left right)
unfolding rounds
AreBits-rounds [] left right h g = AreBelow-append right left g h
AreBits-rounds (key ∷ keys) left right h g =
    AreBits-rounds keys right (xor_lists left (round_value right key)) g (AreBelow-xor_lists 1 left (round_value right key) h (AreBits-round_value right key))

pub AreBits-ciphered : (keys : List (List ℕ)) (p : List ℕ) → AreBits p → AreBits (ciphered keys p)
unfolding ciphered
AreBits-ciphered keys p h =
    let q = permuted initial_table p in
    let all : AreBits (permuted initial_table p) = AreBits-permuted initial_table p h in
    AreBits-permuted final_table (rounds keys (take 32 q) (drop 32 q)) (AreBits-rounds keys (take 32 q) (drop 32 q) (AreBelow-take 32 q all) (AreBelow-drop 32 q all))

pub length-ciphered : (keys : List (List ℕ)) (p : List ℕ) → length (ciphered keys p) ≡ 64
unfolding ciphered final_table
length-ciphered keys p = refl

-- ---- the number that bits write

number_of_bits_lt : (xs : List ℕ) → AreBits xs → number_of_bits xs < 2 ^ length xs
unfolding number_of_bits
number_of_bits_lt [] h = omega arith
number_of_bits_lt (x ∷ xs) h =
    let rest : number_of_bits xs < 2 ^ length xs = number_of_bits_lt xs (λ k. h (suc k)) in
    let all : x * 2 ^ length xs + number_of_bits xs < 2 * 2 ^ length xs = digits_lt (h 0) rest in
    omega (arith, all, pow-suc 2 (length xs))

one_bit : (x : ℕ) → x < 2 → bits 1 x ≡ x ∷ []
unfolding bits
one_bit x h = let e : x % 2 ≡ x = omega arith in ap (λ k. k ∷ []) e

pub bits-number_of_bits : (xs : List ℕ) → AreBits xs → bits (length xs) (number_of_bits xs) ≡ xs
unfolding number_of_bits
bits-number_of_bits [] h = bits-zero 0
bits-number_of_bits (x ∷ xs) h =
    let n : ℕ = x * 2 ^ length xs + number_of_bits xs in
    let e : suc (length xs) ≡ 1 + length xs = omega arith in
    ap (λ k. bits k n) e ∙ bits-append 1 (length xs) x (number_of_bits xs) (number_of_bits_lt xs (λ k. h (suc k)))
    ∙ ap (λ (k : List ℕ). k ++ bits (length xs) (number_of_bits xs)) (one_bit x (h 0))
    ∙ ap (λ (k : List ℕ). x ∷ k) (bits-number_of_bits xs (λ k. h (suc k)))

pub number_of_bits-bits : (w n : ℕ) → n < 2 ^ w → number_of_bits (bits w n) ≡ n
number_of_bits-bits w n h =
    let small : number_of_bits (bits w n) < 2 ^ length (bits w n) = number_of_bits_lt (bits w n) (AreBits-bits w n) in
    same_from_bits w (number_of_bits (bits w n)) n (rw (length-bits w n) at small) h
    (ap (λ k. bits k (number_of_bits (bits w n))) (sym (length-bits w n)) ∙ bits-number_of_bits (bits w n) (AreBits-bits w n))

-- ---- octets and their bits

pub AreBits-octet_bits : (xs : List ℕ) → AreBits (octet_bits xs)
unfolding octet_bits
AreBits-octet_bits [] i = omega arith
AreBits-octet_bits (x ∷ xs) i = AreBelow-append (bits 8 x) (octet_bits xs) (AreBits-bits 8 x) (AreBits-octet_bits xs) i

pub length-octet_bits : (xs : List ℕ) → length (octet_bits xs) ≡ 8 * length xs
unfolding octet_bits
length-octet_bits [] = refl
length-octet_bits (x ∷ xs) = length-append (bits 8 x) (octet_bits xs) ∙ omega (arith, length-bits 8 x, length-octet_bits xs)

pub length-octets_of_bits : (n : ℕ) (xs : List ℕ) → length (octets_of_bits n xs) ≡ n
unfolding octets_of_bits
length-octets_of_bits zero xs = refl
length-octets_of_bits (suc n) xs = ap suc (length-octets_of_bits n (drop 8 xs))

pub IsOctets-octets_of_bits : (n : ℕ) (xs : List ℕ) → AreBits xs → length xs ≡ 8 * n → IsOctets (octets_of_bits n xs)
unfolding octets_of_bits
IsOctets-octets_of_bits zero xs h len i = omega arith
IsOctets-octets_of_bits (suc n) xs h len zero =
    let eight : length (take 8 xs) ≡ 8 = length-take-le 8 xs (omega arith) in
    let small : number_of_bits (take 8 xs) < 2 ^ length (take 8 xs) = number_of_bits_lt (take 8 xs) (AreBelow-take 8 xs h) in
    rw eight at small
IsOctets-octets_of_bits (suc n) xs h len (suc i) = IsOctets-octets_of_bits n (drop 8 xs) (AreBelow-drop 8 xs h) (length-drop 8 xs ∙ omega arith) i

pub octets_of_bits-octet_bits : (xs : List ℕ) → IsOctets xs → octets_of_bits (length xs) (octet_bits xs) ≡ xs
unfolding octet_bits octets_of_bits
octets_of_bits-octet_bits [] h = refl
octets_of_bits-octet_bits (x ∷ xs) h =
    let one : number_of_bits (take 8 (bits 8 x ++ octet_bits xs)) ≡ x = ap number_of_bits (take_at (bits 8 x) (octet_bits xs) 8 (length-bits 8 x)) ∙ number_of_bits-bits 8 x (h 0) in
    let rest : octets_of_bits (length xs) (drop 8 (bits 8 x ++ octet_bits xs)) ≡ xs =
    ap (octets_of_bits (length xs)) (drop_at (bits 8 x) (octet_bits xs) 8 (length-bits 8 x)) ∙ octets_of_bits-octet_bits xs (λ k. h (suc k)) in
    rw (one, rest) refl

pub octet_bits-octets_of_bits : (n : ℕ) (xs : List ℕ) → AreBits xs → length xs ≡ 8 * n → octet_bits (octets_of_bits n xs) ≡ xs
unfolding octet_bits octets_of_bits
octet_bits-octets_of_bits zero [] h len = refl
octet_bits-octets_of_bits zero (x ∷ xs) h len = absurd (omega arith)
octet_bits-octets_of_bits (suc n) xs h len =
    let eight : length (take 8 xs) ≡ 8 = length-take-le 8 xs (omega arith) in
    let one : bits 8 (number_of_bits (take 8 xs)) ≡ take 8 xs = ap (λ k. bits k (number_of_bits (take 8 xs))) (sym eight) ∙ bits-number_of_bits (take 8 xs) (AreBelow-take 8 xs h) in
    let rest : octet_bits (octets_of_bits n (drop 8 xs)) ≡ drop 8 xs = octet_bits-octets_of_bits n (drop 8 xs) (AreBelow-drop 8 xs h) (length-drop 8 xs ∙ omega arith) in
    ap (λ (k : List ℕ). k ++ octet_bits (octets_of_bits n (drop 8 xs))) one ∙ ap (λ (k : List ℕ). take 8 xs ++ k) rest ∙ take-append-drop 8 xs

-- ---- the octets of numbers

bits-mod : (w n : ℕ) → bits w (n % 2 ^ w) ≡ bits w n
bits-mod w n =
    let e : w ≡ 0 + w = omega arith in
    sym (ap (λ k. bits k n) e ∙ bits-split 0 w n ∙ ap (λ (k : List ℕ). k ++ bits w (n % 2 ^ w)) (bits-zero (n / 2 ^ w)))

byte_at_is : (k n : ℕ) → byte_at k n ≡ n / 2 ^ (8 * k) % 2 ^ 8
unfolding worth
byte_at_is zero n = omega arith
byte_at_is (suc k) n = ap (λ j. n / j % 256) (worth_pow (suc k))

octet_bits-bytes : (k n : ℕ) → octet_bits (bytes_high_first k n) ≡ bits (8 * k) n
unfolding octet_bits
octet_bits-bytes zero n = sym (bits-zero n)
octet_bits-bytes (suc k) n =
    let high : bits 8 (byte_at k n) ≡ bits 8 (n / 2 ^ (8 * k)) = ap (bits 8) (byte_at_is k n) ∙ bits-mod 8 (n / 2 ^ (8 * k)) in
    let low : octet_bits (bytes_high_first k n) ≡ bits (8 * k) (n % 2 ^ (8 * k)) = octet_bits-bytes k n ∙ sym (bits-mod (8 * k) n) in
    let e : 8 + 8 * k ≡ 8 * suc k = omega arith in
    ap (λ (j : List ℕ). j ++ octet_bits (bytes_high_first k n)) high ∙ ap (λ (j : List ℕ). bits 8 (n / 2 ^ (8 * k)) ++ j) low
    ∙ sym (bits-split 8 (8 * k) n) ∙ ap (λ j. bits j n) e

IsOctets-bytes : (k n : ℕ) → IsOctets (bytes_high_first k n)
IsOctets-bytes zero n i = omega arith
IsOctets-bytes (suc k) n zero = rw (byte_at_is k n) (omega arith)
IsOctets-bytes (suc k) n (suc i) = IsOctets-bytes k n i

-- the bits of a number of 64 bits are those of its eight octets
pub octet_bits-to_be_bytes : (n : ℕ) → octet_bits (to_be_bytes w64 n) ≡ bits 64 n
octet_bits-to_be_bytes n = octet_bits-bytes 8 n

pub octets_of_bits-bits : (n : ℕ) → octets_of_bits 8 (bits 64 n) ≡ to_be_bytes w64 n
octets_of_bits-bits n = ap (octets_of_bits 8) (sym (octet_bits-to_be_bytes n)) ∙ octets_of_bits-octet_bits (to_be_bytes w64 n) (IsOctets-bytes 8 n)

pub octet_bits_is : (xs : List ℕ) (n : ℕ) → length xs ≡ 8 → IsOctets xs → n ≡ from_be_bytes w64 xs → octet_bits xs ≡ bits 64 n
octet_bits_is xs n len h e = ap octet_bits (sym (be_bytes_8 xs n len h e)) ∙ octet_bits-to_be_bytes n

-- ---- eight octets, one by one

abbrev octets_from : List ℕ → ℕ → List ℕ
octets_from xs at =
    slice_index xs at ∷ slice_index xs (at + 1) ∷ slice_index xs (at + 2) ∷ slice_index xs (at + 3)
    ∷ slice_index xs (at + 4) ∷ slice_index xs (at + 5) ∷ slice_index xs (at + 6) ∷ slice_index xs (at + 7) ∷ []

drop_next : (xs : List ℕ) (i j : ℕ) → i < length xs → i + 1 ≡ j → drop i xs ≡ slice_index xs i ∷ drop j xs
drop_next xs i j h e = drop_more xs i 0 h ∙ ap (λ k. slice_index xs i ∷ drop k xs) e

octets_from-take-drop : (xs : List ℕ) (at : ℕ) → at + 8 ≤ length xs
    → octets_from xs at
    ≡ take 8 (drop at xs)
octets_from-take-drop xs at h =
    let d0 = drop_next xs at (at + 1) (omega arith) (omega arith) in
    let d1 = drop_next xs (at + 1) (at + 2) (omega arith) (omega arith) in
    let d2 = drop_next xs (at + 2) (at + 3) (omega arith) (omega arith) in
    let d3 = drop_next xs (at + 3) (at + 4) (omega arith) (omega arith) in
    let d4 = drop_next xs (at + 4) (at + 5) (omega arith) (omega arith) in
    let d5 = drop_next xs (at + 5) (at + 6) (omega arith) (omega arith) in
    let d6 = drop_next xs (at + 6) (at + 7) (omega arith) (omega arith) in
    let d7 = drop_next xs (at + 7) (at + 8) (omega arith) (omega arith) in
    rw (d0, d1, d2, d3, d4, d5, d6, d7) refl

pub eight_octets_is : (xs : List ℕ) (at n : ℕ) → IsOctets xs → at + 8 ≤ length xs → n ≡ from_be_bytes w64 (octets_from xs at)
    → bits 64 n ≡ octet_bits (take 8 (drop at xs))
eight_octets_is xs at n octets h e =
    let long : length (take 8 (drop at xs)) ≡ 8 = length-take-le 8 (drop at xs) (omega (arith, length-drop at xs)) in
    sym (octet_bits_is (take 8 (drop at xs)) n long (AreBelow-take 8 (drop at xs) (AreBelow-drop at xs octets)) (e ∙ ap (from_be_bytes w64) (octets_from-take-drop xs at h)))
