-- The key expansion, word by word.
use Rattle.std.proofs.Common.{◌≡◌, ℕ, zero, suc, ◌+◌, ◌-◌, ◌*◌, ◌≤◌, ◌<◌, List, [], ◌∷◌, ◌++◌, length, slice_index, take, sym, ap, ◌∙◌, arith, inl, inr, length-append}
use Rattle.std.proofs.lemmas.Bool.{cases_lt}
use Rattle.std.proofs.lemmas.List.{get_or-take, take_all, take-append-le, get_or-append-add}
use Rattle.krb_crypto_block.specs.Aes.{word_at, add_words, next_word, key_term, expanded}

word_at_within : (w : List ℕ) (m j : ℕ) → 4 * j + 4 ≤ m → word_at (take m w) j ≡ word_at w j
word_at_within w m j h =
    let a = get_or-take m w (4 * j) 0 (omega arith) in
    let b = get_or-take m w (4 * j + 1) 0 (omega arith) in
    let c = get_or-take m w (4 * j + 2) 0 (omega arith) in
    let d = get_or-take m w (4 * j + 3) 0 (omega arith) in
    cc

next_word_within : (nk i : ℕ) (w : List ℕ) → 1 ≤ nk → nk ≤ i → next_word nk (take (4 * i) w) i ≡ next_word nk w i
next_word_within nk i w low past =
    ap (λ (t : List ℕ). add_words t (key_term nk i (word_at (take (4 * i) w) (i - 1)))) (word_at_within w (4 * i) (i - nk) (omega arith))
    ∙ ap (λ (t : List ℕ). add_words (word_at w (i - nk)) (key_term nk i t)) (word_at_within w (4 * i) (i - 1) (omega arith))

expanded-prefix : (nk : ℕ) (key : List ℕ) (n : ℕ) → (length key ≤ length (expanded nk key n)) × (take (length key) (expanded nk key n) ≡ key)
unfolding expanded
expanded-prefix nk key zero = (omega arith, take_all (length key) key (omega arith))
expanded-prefix nk key (suc n) =
    let before = expanded-prefix nk key n in
    let long = length-append (expanded nk key n) (next_word nk (expanded nk key n) (n + nk)) in (
      omega (arith, before.0, long),
      take-append-le (length key) (expanded nk key n) (next_word nk (expanded nk key n) (n + nk)) before.0 ∙ before.1,
    )

pub expanded-length : (nk : ℕ) (key : List ℕ) (n : ℕ) → length (expanded nk key n) ≡ length key + 4 * n
unfolding expanded
expanded-length nk key zero = omega arith
expanded-length nk key (suc n) =
    let before = expanded-length nk key n in
    let long = length-append (expanded nk key n) (next_word nk (expanded nk key n) (n + nk)) in
    omega (arith, before, long)

-- lists with one prefix have one word there
word_at_prefix : (v w : List ℕ) (m i : ℕ) → take m v ≡ take m w → 4 * i + 4 ≤ m → word_at v i ≡ word_at w i
word_at_prefix v w m i e h = sym (word_at_within v m i h) ∙ ap (λ (t : List ℕ). word_at t i) e ∙ word_at_within w m i h

next_word_prefix : (nk i : ℕ) (v w : List ℕ) → 1 ≤ nk → nk ≤ i → take (4 * i) v ≡ take (4 * i) w → next_word nk v i ≡ next_word nk w i
next_word_prefix nk i v w low past e =
    sym (next_word_within nk i v low past) ∙ ap (λ (t : List ℕ). next_word nk t i) e ∙ next_word_within nk i w low past

-- the key's own words
pub expanded-own : (nk : ℕ) (key : List ℕ) (n i : ℕ) → length key ≡ 4 * nk → i < nk → word_at (expanded nk key n) i ≡ word_at key i
expanded-own nk key n i long h =
    let prefix = expanded-prefix nk key n in
    word_at_prefix (expanded nk key n) key (length key) i (prefix.1 ∙ sym (take_all (length key) key (omega arith))) (omega (arith, long))

word_at_end : (w : List ℕ) (a b c d m : ℕ) → length w ≡ 4 * m → word_at (w ++ a ∷ b ∷ c ∷ d ∷ []) m ≡ a ∷ b ∷ c ∷ d ∷ []
word_at_end w a b c d m size =
    let word : List ℕ = a ∷ b ∷ c ∷ d ∷ [] in
    let at : (k r : ℕ) → k ≡ length w + r → slice_index (w ++ word) k ≡ slice_index word r =
    λ k r e. ap (slice_index (w ++ word)) e ∙ get_or-append-add w word r 0 in
    let e0 = at (4 * m) 0 (omega (arith, size)) in
    let e1 = at (4 * m + 1) 1 (omega (arith, size)) in
    let e2 = at (4 * m + 2) 2 (omega (arith, size)) in
    let e3 = at (4 * m + 3) 3 (omega (arith, size)) in
    cc

-- each later word is the next one of those before it
pub expanded-word : (nk : ℕ) (key : List ℕ) (n i : ℕ) → 1 ≤ nk → length key ≡ 4 * nk → nk ≤ i → i < n + nk
    → word_at (expanded nk key n) i ≡ next_word nk (expanded nk key n) i
unfolding expanded
expanded-word nk key zero i low long past within = absurd (omega arith)
expanded-word nk key (suc n) i low long past within =
    let w = expanded nk key n in
    let word = next_word nk w (n + nk) in
    let size : length w ≡ 4 * (n + nk) = omega (arith, expanded-length nk key n, long) in
    let prefix : (m : ℕ) → m ≤ 4 * (n + nk) → take m (w ++ word) ≡ take m w = λ m h. take-append-le m w word (omega (arith, size)) in
    elim (cases_lt i (n + nk)) [
      | inl below ↦
          word_at_prefix (w ++ word) w (4 * (n + nk)) i (prefix (4 * (n + nk)) (omega arith)) (omega arith)
          ∙ expanded-word nk key n i low long past below
          ∙ sym (next_word_prefix nk i (w ++ word) w low past (prefix (4 * i) (omega arith)))
      | inr top ↦
          let e : i ≡ n + nk = omega arith in
          rw e (word_at_end w _ _ _ _ (n + nk) size ∙ sym (next_word_prefix nk (n + nk) (w ++ word) w low (omega arith) (prefix (4 * (n + nk)) (omega arith))))
    ]
