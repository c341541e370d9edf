use Rattle.std.proofs.Common.{rules, ◌≡◌, ℕ, ◌<◌, ◌%◌, ◌+◌, ◌-◌, ◌*◌, ◌/◌, ◌^◌, length, get_or, refl, sym, ap, ◌∙◌, arith}
use Rattle.krb_crypto_block.specs.Modes.{IsOctets}
use Rattle.krb_crypto_block.proofs.FoldTurns.{rot_octet}
use Rattle.krb_crypto_block.proofs.FoldWorth.{worth}
use Rattle.krb_crypto_block.proofs.FoldSteps.{above_last, above_inside}
use Rattle.krb_crypto_block.proofs.nfold.turned_octet.Goals as goal
use Rattle.krb_crypto_block.proofs.nfold.turned_octet.Goals.{then-place-last, else-place-last}

pub returns : goal.returns
unfolding worth
returns c = λ j e lt at few.
    let xs = c.args.input.now in
    let n : ℕ = length c.args.input.now in
    let a : ℕ = (j + 5 * j / 8) % length c.args.input.now + e in
    let octets : IsOctets c.args.input.now = search rules in
    let pos : 0 < length c.args.input.now = omega arith in
    let high : c.if-place-last.high ≡ n - 1 - (a + 1) % n = elim c.if-place-last.branch [
      | then-place-last w ↦ above_last n a c.if-place-last.high pos (sym at ∙ w.if-place-last.true) w.high-is
      | else-place-last w ↦ above_inside n a c.if-place-last.high pos (rw at at w.if-place-last.false) (rw at at w.high-is)
    ] in
    let low : n - 1 - c.args.place ≡ n - 1 - a % n = ap (λ (k : ℕ). n - 1 - k) at in
    ap (λ (k : ℕ). (get_or xs k 0 * 256 + get_or xs (n - 1 - c.args.place) 0) / 2 ^ c.args.shift % 256) high
    ∙ ap (λ (k : ℕ). (get_or xs (n - 1 - (a + 1) % n) 0 * 256 + get_or xs k 0) / 2 ^ c.args.shift % 256) low
    ∙ ap (λ (k : ℕ). (get_or xs (n - 1 - (a + 1) % n) 0 * 256 + get_or xs (n - 1 - a % n) 0) / 2 ^ k % 256) few
    ∙ sym (rot_octet xs j e a n octets refl lt refl)
