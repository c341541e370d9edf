use Rattle.std.proofs.Common.{◌≡◌, ◌+◌, ◌-◌, ◌++◌, ℕ, List, [], length, take, drop, ap, ◌∙◌, arith}
use Rattle.std.proofs.lemmas.List.{take_rest, drop_all, drop-drop, length-drop, append-nil}
use Rattle.krb_crypto_block.proofs.aes_modes.swap_two_last_blocks.Goals as goal

pub returns-clause-swapped : goal.returns-clause-swapped
returns-clause-swapped c =
    let octets : List ℕ = c.args.octets.now in
    let n : ℕ = length octets in
    let long = c.if-octets-lt-TWO_BLOCKS.false in
    let tail : List ℕ = drop (n - 32) octets in
    let whole : take (n - (n - 32)) tail ≡ tail = take_rest octets (n - 32) in
    let none : drop (n - (n - 32)) tail ≡ [] = drop_all (n - (n - 32)) tail (omega (arith, length-drop (n - 32) octets)) in
    let at : n - 32 + 16 ≡ n - 16 = omega (arith, long) in
    let half : drop 16 tail ≡ drop (n - 16) octets = drop-drop 16 (n - 32) octets ∙ ap (λ (k : ℕ). drop k octets) at in
    let turned : c.rotate_left.new.self ≡ drop (n - 16) octets ++ take 16 tail =
    c.rotate_left.ensures.after ∙ ap (λ (old : List ℕ). drop 16 old ++ take 16 old) whole ∙ ap (λ (prefix : List ℕ). prefix ++ take 16 tail) half in
    ap (λ (middle : List ℕ). take (n - 32) octets ++ (middle ++ drop (n - (n - 32)) tail)) turned
    ∙ ap (λ (rest : List ℕ). take (n - 32) octets ++ ((drop (n - 16) octets ++ take 16 tail) ++ rest)) none
    ∙ ap (λ (rest : List ℕ). take (n - 32) octets ++ rest) (append-nil (drop (n - 16) octets ++ take 16 tail))
