-- Words of four octets, and the four words of a state.
use Rattle.std.proofs.Common.{◌≡◌, ℕ, ◌+◌, ◌*◌, ◌^◌, ◌<◌, bit_xor, List, [], ◌∷◌, slice_index, refl, ap, ◌∙◌, arith}
use Rattle.std.specs.Int.{w32, to_be_bytes, from_be_bytes}
use Rattle.std.specs.List.{All}
use Rattle.std.proofs.lemmas.List.Elements.{All-from_recursion}
use Rattle.std.proofs.lemmas.Nat.{be_bytes_4, xor_block}
use Rattle.krb_crypto_block.specs.Aes.{column_of}
use Rattle.krb_crypto_block.specs.AesWords.{word, Holds}
use Rattle.krb_crypto_block.proofs.AesStates.{octets_at}

pub word_from_bytes : (a b c d : ℕ) → from_be_bytes w32 (a ∷ b ∷ c ∷ d ∷ []) ≡ word a b c d
word_from_bytes a b c d = omega arith

pub bytes_of_word : (a b c d n : ℕ) → a < 256 → b < 256 → c < 256 → d < 256 → n ≡ word a b c d
    → to_be_bytes w32 n ≡ a ∷ b ∷ c ∷ d ∷ []
bytes_of_word a b c d n ha hb hc hd e =
    let s = a ∷ b ∷ c ∷ d ∷ [] in
    let all : All (λ x. x < 256) s = All-from_recursion (λ x. x < 256) s (ha, (hb, (hc, (hd, tt)))) in
    be_bytes_4 s n refl (octets_at s all) (e ∙ omega arith)

-- the octets of a state's words
pub state_bytes : (s st b0 b1 b2 b3 : List ℕ) → Holds s st
    → b0 ≡ to_be_bytes w32 (slice_index s 0) → b1 ≡ to_be_bytes w32 (slice_index s 1)
    → b2 ≡ to_be_bytes w32 (slice_index s 2) → b3 ≡ to_be_bytes w32 (slice_index s 3)
    → (b0 ≡ column_of st 0) × (b1 ≡ column_of st 1) × (b2 ≡ column_of st 2) × (b3 ≡ column_of st 3)
state_bytes s st b0 b1 b2 b3 held m0 m1 m2 m3 =
    let at = λ (i : ℕ). held.0.1 i in (
      m0 ∙ bytes_of_word _ _ _ _ _ (at 0) (at 1) (at 2) (at 3) (ap (λ (x : List ℕ). slice_index x 0) held.1),
      m1 ∙ bytes_of_word _ _ _ _ _ (at 4) (at 5) (at 6) (at 7) (ap (λ (x : List ℕ). slice_index x 1) held.1),
      m2 ∙ bytes_of_word _ _ _ _ _ (at 8) (at 9) (at 10) (at 11) (ap (λ (x : List ℕ). slice_index x 2) held.1),
      m3 ∙ bytes_of_word _ _ _ _ _ (at 12) (at 13) (at 14) (at 15) (ap (λ (x : List ℕ). slice_index x 3) held.1),
    )

pub same4 : (a b c d e f g h : ℕ) → a ≡ e → b ≡ f → c ≡ g → d ≡ h → a ∷ b ∷ c ∷ d ∷ [] ≡ e ∷ f ∷ g ∷ h ∷ []
same4 a b c d e f g h p q r t = cc

-- ---- sums

pub word_xor : (a b c d e f g h : ℕ) → b < 256 → c < 256 → d < 256 → f < 256 → g < 256 → h < 256
    → bit_xor (word a b c d) (word e f g h) ≡ word (bit_xor a e) (bit_xor b f) (bit_xor c g) (bit_xor d h)
word_xor a b c d e f g h hb hc hd hf hg hh =
    xor_block 8 ((a * 2 ^ 8 + b) * 2 ^ 8 + c) ((e * 2 ^ 8 + f) * 2 ^ 8 + g) d h hd hh
    ∙ ap (λ (x : ℕ). x * 2 ^ 8 + bit_xor d h) (xor_block 8 (a * 2 ^ 8 + b) (e * 2 ^ 8 + f) c g hc hg)
    ∙ ap (λ (x : ℕ). (x * 2 ^ 8 + bit_xor c g) * 2 ^ 8 + bit_xor d h) (xor_block 8 a e b f hb hf)
