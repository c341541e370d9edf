-- The rounds in reverse order undo the rounds, and the last permutation undoes the first.
use Rattle.std.proofs.Common.{◌≡◌, ℕ, List, [], ◌∷◌, ◌++◌, length, take, drop, map, reverse, slice_index, refl, sym, ap, ◌∙◌, arith}
use Rattle.std.specs.List.{range_with_len}
use Rattle.std.proofs.lemmas.List.{length-append, length-take-le, length-drop, take-append-drop, take_at, drop_at, reverse-reverse, reverse-append}
use Rattle.std.proofs.lemmas.List.FromFn.{fill_by_all}
use Rattle.krb_crypto_block.specs.DesTables.{initial_table, final_table, round_table}
use Rattle.krb_crypto_hash.specs.Xor.{xor_lists}
use Rattle.krb_crypto_block.specs.Des.{permuted, round_value, rounds, ciphered, round_keys, des_block, des_undo}
use Rattle.krb_crypto_hash.proofs.XorLists.{length-xor_lists, xor_lists-twice}

pub length-round_value : (right key : List ℕ) → length (round_value right key) ≡ 32
unfolding round_value round_table
length-round_value right key = refl

-- ---- the state of the rounds
abbrev step : List ℕ → List ℕ × List ℕ → List ℕ × List ℕ
step key h = (h.1, xor_lists h.0 (round_value h.1 key))

abbrev swapped : List ℕ × List ℕ → List ℕ × List ℕ
swapped h = (h.1, h.0)

run : List (List ℕ) → List ℕ × List ℕ → List ℕ × List ℕ
run [] h = h
run (key ∷ keys) h = run keys (step key h)

abbrev AreHalves : List ℕ × List ℕ → Type 0
AreHalves h = (length h.0 ≡ 32) × (length h.1 ≡ 32)

AreHalves-step : (key : List ℕ) (h : List ℕ × List ℕ) → AreHalves h → AreHalves (step key h)
AreHalves-step key h ok = (ok.1, length-xor_lists h.0 (round_value h.1 key) (ok.0 ∙ sym (length-round_value h.1 key)) ∙ ok.0)

AreHalves-run : (keys : List (List ℕ)) (h : List ℕ × List ℕ) → AreHalves h → AreHalves (run keys h)
unfolding run
AreHalves-run [] h ok = ok
AreHalves-run (key ∷ keys) h ok = AreHalves-run keys (step key h) (AreHalves-step key h ok)

run-push : (keys : List (List ℕ)) (key : List ℕ) (h : List ℕ × List ℕ) → run (keys ++ key ∷ []) h ≡ step key (run keys h)
unfolding run
run-push [] key h = refl
run-push (k ∷ keys) key h = run-push keys key (step k h)

-- one round, turned round, undoes itself
step_undone : (key : List ℕ) (h : List ℕ × List ℕ) → AreHalves h → step key (swapped (step key h)) ≡ swapped h
step_undone key h ok = ap (λ (k : List ℕ). (h.1, k)) (xor_lists-twice h.0 (round_value h.1 key) (ok.0 ∙ sym (length-round_value h.1 key)))

run_undone : (keys : List (List ℕ)) (h : List ℕ × List ℕ) → AreHalves h → run (reverse keys) (swapped (run keys h)) ≡ swapped h
unfolding run
run_undone [] h ok = refl
run_undone (key ∷ keys) h ok =
    let back : reverse (key ∷ keys) ≡ reverse keys ++ key ∷ [] = reverse-append (key ∷ []) keys in
    ap (λ (k : List (List ℕ)). run k (swapped (run keys (step key h)))) back ∙ run-push (reverse keys) key (swapped (run keys (step key h)))
    ∙ ap (step key) (run_undone keys (step key h) (AreHalves-step key h ok)) ∙ step_undone key h ok

rounds_run : (keys : List (List ℕ)) (l r : List ℕ) → rounds keys l r ≡ (run keys (l, r)).1 ++ (run keys (l, r)).0
unfolding rounds run
rounds_run [] l r = refl
rounds_run (key ∷ keys) l r = rounds_run keys r (xor_lists l (round_value r key))

-- ---- the two permutations
as_indexed : (p : List ℕ) → length p ≡ 64 → p ≡ map (λ i. slice_index p i) (range_with_len 0 64)
as_indexed p h = fill_by_all (λ i. slice_index p i) p 64 0 h (λ k lt. refl)

pub initial_final : (p : List ℕ) → length p ≡ 64 → permuted initial_table (permuted final_table p) ≡ p
unfolding initial_table final_table
initial_final p h = sym (as_indexed p h)

pub final_initial : (p : List ℕ) → length p ≡ 64 → permuted final_table (permuted initial_table p) ≡ p
unfolding initial_table final_table
final_initial p h = sym (as_indexed p h)

length-initial : (p : List ℕ) → length (permuted initial_table p) ≡ 64
unfolding initial_table
length-initial p = refl

pub ciphered_undone : (keys : List (List ℕ)) (p : List ℕ) → length p ≡ 64 → ciphered (reverse keys) (ciphered keys p) ≡ p
unfolding ciphered
ciphered_undone keys p h =
    let q : List ℕ = permuted initial_table p in
    let len : length (permuted initial_table p) ≡ 64 = length-initial p in
    let l : List ℕ = take 32 q in
    let r : List ℕ = drop 32 q in
    let ok : AreHalves (take 32 (permuted initial_table p), drop 32 (permuted initial_table p)) = (length-take-le 32 (permuted initial_table p) (omega arith), length-drop 32 (permuted initial_table p) ∙ omega arith) in
    let s : List ℕ × List ℕ = run keys (l, r) in
    let oks : AreHalves (run keys (take 32 (permuted initial_table p), drop 32 (permuted initial_table p))) = AreHalves-run keys (take 32 (permuted initial_table p), drop 32 (permuted initial_table p)) ok in
    let first : rounds keys l r ≡ s.1 ++ s.0 = rounds_run keys l r in
    let len2 : length (s.1 ++ s.0) ≡ 64 = length-append s.1 s.0 ∙ omega (arith, oks.0, oks.1) in
    let inner : permuted initial_table (permuted final_table (rounds keys l r)) ≡ s.1 ++ s.0 =
    ap (λ (k : List ℕ). permuted initial_table (permuted final_table k)) first ∙ initial_final (s.1 ++ s.0) len2 in
    let halves : rounds (reverse keys) (take 32 (s.1 ++ s.0)) (drop 32 (s.1 ++ s.0)) ≡ l ++ r =
    ap (λ (k : List ℕ). rounds (reverse keys) k (drop 32 (s.1 ++ s.0))) (take_at s.1 s.0 32 oks.1)
    ∙ ap (λ (k : List ℕ). rounds (reverse keys) s.1 k) (drop_at s.1 s.0 32 oks.1)
    ∙ rounds_run (reverse keys) s.1 s.0 ∙ ap (λ (k : List ℕ × List ℕ). k.1 ++ k.0) (run_undone keys (l, r) ok) in
    ap (λ (k : List ℕ). permuted final_table (rounds (reverse keys) (take 32 k) (drop 32 k))) inner
    ∙ ap (λ (k : List ℕ). permuted final_table k) (halves ∙ take-append-drop 32 q) ∙ final_initial p h

pub des_undo-block : (key p : List ℕ) → length p ≡ 64 → des_undo key (des_block key p) ≡ p
unfolding des_undo des_block
des_undo-block key p h = ciphered_undone (round_keys key) p h

pub des_block-undo : (key c : List ℕ) → length c ≡ 64 → des_block key (des_undo key c) ≡ c
unfolding des_undo des_block
des_block-undo key c h =
    ap (λ (k : List (List ℕ)). ciphered k (ciphered (reverse (round_keys key)) c)) (sym (reverse-reverse (round_keys key))) ∙ ciphered_undone (reverse (round_keys key)) c h
