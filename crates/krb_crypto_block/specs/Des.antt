-- DES (FIPS 46-3) on lists of bits, each 0 or 1, and triple DES on lists of octets (NIST SP 800-67, 3.1; RFC 3961, 6.3).
-- Bits are counted from 1, the leftmost first.
use Rattle.std.specs.Prelude.{◌≡◌, ℕ, zero, suc, ◌+◌, ◌-◌, ◌*◌, ◌/◌, ◌%◌, ◌^◌, ◌==◌, ◌&&◌, nat_le, if◌then◌else◌, List, [], ◌∷◌, ◌++◌, length, take, drop, map, reverse, slice_index, slice_index_or}
use Rattle.std.specs.Int.{bit_at}
use Rattle.krb_crypto_hash.specs.Xor.{xor_lists}
use Rattle.krb_crypto_block.specs.DesTables.{initial_table, final_table, expansion_table, round_table, first_choice, second_choice, turns, s_boxes, kept_table}

-- ---- bits

-- the w bits of a number, the highest first
unfoldable pub bits : ℕ → ℕ → List ℕ
bits zero n = []
bits (suc w) n = bits w (n / 2) ++ (n % 2) ∷ []

-- the number that bits write, the highest first
unfoldable pub number_of_bits : List ℕ → ℕ
number_of_bits [] = 0
number_of_bits (x ∷ xs) = x * 2 ^ length xs + number_of_bits xs

-- bit i
abbrev pub bit_of : List ℕ → ℕ → ℕ
bit_of xs i = slice_index xs (i - 1)

-- the bits that a table names, in its order
abbrev pub permuted : List ℕ → List ℕ → List ℕ
permuted table xs = map (bit_of xs) table

-- ---- the function f of a round (FIPS 46-3, The Cipher Function f)

-- the row that six bits choose, by the first and the last of them
abbrev pub row_of : List ℕ → ℕ
row_of xs = number_of_bits (bit_of xs 1 ∷ bit_of xs 6 ∷ [])

-- the column that six bits choose, by the four in the middle
abbrev pub column_of : List ℕ → ℕ
column_of xs = number_of_bits (bit_of xs 2 ∷ bit_of xs 3 ∷ bit_of xs 4 ∷ bit_of xs 5 ∷ [])

-- the four bits that a box has for six
abbrev pub substituted_one : List (List ℕ) → List ℕ → List ℕ
substituted_one box xs = bits 4 (slice_index (slice_index_or box (row_of xs) []) (column_of xs))

-- each six bits by the next box
unfoldable pub substituted : List (List (List ℕ)) → List ℕ → List ℕ
substituted [] xs = []
substituted (box ∷ boxes) xs = substituted_one box (take 6 xs) ++ substituted boxes (drop 6 xs)

-- f(R, K)
unfoldable pub round_value : List ℕ → List ℕ → List ℕ
round_value right key = permuted round_table (substituted s_boxes (xor_lists (permuted expansion_table right) key))

-- ---- the key schedule (FIPS 46-3, Appendix 1)

-- turned left by n places
abbrev pub turned_left : ℕ → List ℕ → List ℕ
turned_left n xs = drop n xs ++ take n xs

-- the round keys from C and D on, for these turns
unfoldable pub keys_from : List ℕ → List ℕ → List ℕ → List (List ℕ)
keys_from [] c d = []
keys_from (t ∷ ts) c d = permuted second_choice (turned_left t c ++ turned_left t d) ∷ keys_from ts (turned_left t c) (turned_left t d)

-- the 16 round keys, of 48 bits each, of a key of 64 bits
unfoldable pub round_keys : List ℕ → List (List ℕ)
round_keys key = keys_from turns (take 28 (permuted first_choice key)) (drop 28 (permuted first_choice key))

-- ---- a block (FIPS 46-3, Enciphering, Deciphering)

-- the rounds, and at the end the right half before the left
unfoldable pub rounds : List (List ℕ) → List ℕ → List ℕ → List ℕ
rounds [] left right = right ++ left
rounds (key ∷ keys) left right = rounds keys right (xor_lists left (round_value right key))

-- the block p under these round keys
unfoldable pub ciphered : List (List ℕ) → List ℕ → List ℕ
ciphered keys p = permuted final_table (rounds keys (take 32 (permuted initial_table p)) (drop 32 (permuted initial_table p)))

-- the block p, of 64 bits, encrypted under a key of 64 bits
unfoldable pub des_block : List ℕ → List ℕ → List ℕ
des_block key p = ciphered (round_keys key) p

-- the block c decrypted: the round keys are taken from the last to the first
unfoldable pub des_undo : List ℕ → List ℕ → List ℕ
des_undo key c = ciphered (reverse (round_keys key)) c

-- ---- octets

-- the bits of octets, the highest of each first
unfoldable pub octet_bits : List ℕ → List ℕ
octet_bits [] = []
octet_bits (x ∷ xs) = bits 8 x ++ octet_bits xs

-- the first n octets that bits write
unfoldable pub octets_of_bits : ℕ → List ℕ → List ℕ
octets_of_bits zero xs = []
octets_of_bits (suc n) xs = number_of_bits (take 8 xs) ∷ octets_of_bits n (drop 8 xs)

-- E(key, p), on 8 octets
unfoldable pub cipher_octets : List ℕ → List ℕ → List ℕ
cipher_octets key p = octets_of_bits 8 (des_block (octet_bits key) (octet_bits p))

-- D(key, c), on 8 octets
unfoldable pub plain_octets : List ℕ → List ℕ → List ℕ
plain_octets key c = octets_of_bits 8 (des_undo (octet_bits key) (octet_bits c))

-- ---- triple DES (NIST SP 800-67, 3.1; RFC 3961, 6.3)

-- K1, K2 and K3: the first, the second and the third eight octets of a key
abbrev pub first_key : List ℕ → List ℕ
first_key key = take 8 key

abbrev pub second_key : List ℕ → List ℕ
second_key key = take 8 (drop 8 key)

abbrev pub third_key : List ℕ → List ℕ
third_key key = take 8 (drop 16 key)

-- E(K3, D(K2, E(K1, p)))
unfoldable pub ede3 : List ℕ → List ℕ → List ℕ
ede3 key p = cipher_octets (third_key key) (plain_octets (second_key key) (cipher_octets (first_key key) p))

-- D(K1, E(K2, D(K3, c)))
unfoldable pub ede3_undo : List ℕ → List ℕ → List ℕ
ede3_undo key c = plain_octets (first_key key) (cipher_octets (second_key key) (plain_octets (third_key key) c))

-- ---- bits that change places

-- the place whose bit comes to place k, both from the right, where each bit that the mask names and the one so many places
-- to its left change places
abbrev pub exchanged_place : ℕ → ℕ → ℕ → ℕ
exchanged_place shift mask k = if bit_at mask k == 1 then k + shift else (if nat_le shift k && (bit_at mask (k - shift) == 1) then k - shift else k)

-- ---- what the code keeps

-- the round key that a number keeps
abbrev pub key_bits : ℕ → List ℕ
key_bits kept = permuted kept_table (bits 64 kept)

-- the numbers keep the round keys of the key of these octets
abbrev pub AreRoundKeys : List ℕ → List ℕ → Type 0
AreRoundKeys keys octets = map key_bits keys ≡ round_keys (octet_bits octets)

-- the round keys of the three keys
pub record AreScheduled (first second third octets : List ℕ) : Type 0 where
  pub first_keys : AreRoundKeys first (first_key octets)
  pub second_keys : AreRoundKeys second (second_key octets)
  pub third_keys : AreRoundKeys third (third_key octets)
