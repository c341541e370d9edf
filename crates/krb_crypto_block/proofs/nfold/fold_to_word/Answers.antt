use Rattle.std.proofs.Common.{◌≡◌, ℕ, ◌+◌, ◌-◌, ◌*◌, ◌/◌, ◌%◌, ◌<◌, ◌≤◌, ◌^◌, refl, sym, ap, ◌∙◌, arith}
use Rattle.std.proofs.Math.Nat.{zero-mod}
use Rattle.krb_crypto_block.specs.Fold.{number, rot, folded_number}
use Rattle.krb_crypto_block.specs.Modes.{IsOctets}
use Rattle.krb_crypto_block.proofs.FoldWords.{turn_of, shift_moves, shift_wraps, turn_step, turns_start, turns_all, number_below, twice_whole}
use Rattle.krb_crypto_block.proofs.nfold.fold_to_word.Goals as goal
use Rattle.krb_crypto_block.proofs.nfold.fold_to_word.Goals.{then-shift-bits, else-shift-bits}

pub turns-init : goal.turns-init
turns-init c = record {
  shift = sym (zero-mod (8 * c.args.size));
  below = omega arith;
  left = turns_start (2 ^ 128 - 1) (number c.args.input.now) (8 * c.args.size) 0 refl;
}

pub turns-preserved : goal.turns-preserved
turns-preserved c =
    let xs = c.args.input.now in
    let k : ℕ = 8 * c.args.size in
    let x : ℕ = number c.args.input.now in
    let octets : IsOctets c.args.input.now = λ i. omega (arith, c.type_inv.input i) in
    let below : number c.args.input.now < 2 ^ (8 * c.args.size) = number_below xs k octets (ap (λ (n : ℕ). 8 * n) c.requires.all) in
    let few : 8 * c.args.size ≤ 64 = omega (arith, c.requires.eight) in
    let some : 0 < 8 * c.args.size = omega (arith, c.requires.two) in
    let turned : c.low_bits-turned.result ≡ rot (number c.args.input.now) (8 * c.args.size) c.turns.turn =
    c.low_bits-turned.ensures
    ∙ ap (λ (w : ℕ). (w * 2 ^ (8 * c.args.size) % 2 ^ 128 + w) / 2 ^ c.turns.shift % 2 ^ (8 * c.args.size)) c.number_of-whole.ensures
    ∙ ap (λ (w : ℕ). w / 2 ^ c.turns.shift % 2 ^ (8 * c.args.size)) (twice_whole x k below few) ∙ turn_of x k c.turns.turn c.turns.shift some below c.turns.invariant.shift in
    record {
      shift = elim c.if-shift-bits.branch [
        | then-shift-bits w ↦ w.shift-is ∙ shift_wraps k c.turns.turn c.turns.shift (omega (arith, c.requires.two)) c.turns.invariant.shift w.if-shift-bits.true
        | else-shift-bits w ↦ w.shift-is ∙ shift_moves k c.turns.turn c.turns.shift some c.turns.invariant.shift w.if-shift-bits.false
      ];
      below = c.add_with_carry-sum.type_inv;
      left = turn_step (2 ^ 128 - 1) x k c.turns.turn c.turns.sum c.low_bits-turned.result (c.turns.sum / 2 ^ (128 - 8 * c.args.size)) c.turn_left.result c.add_with_carry-sum.result (omega arith) turned
          c.turns.invariant.left c.turn_left.ensures.value c.turn_left.ensures.above c.add_with_carry-sum.ensures.small c.add_with_carry-sum.ensures.large;
    }

pub returns : goal.returns
returns c =
    let whole : c.turns.turn ≡ c.args.count = omega (arith, c.turns.auto.turn-end, c.turns-test.false) in
    turns_all (number c.args.input.now) c.args.size c.turns.turn c.turns.sum (omega (arith, c.requires.two)) (whole ∙ c.requires.turns) c.turns.invariant.below c.turns.invariant.left
    ∙ ap (λ (n : ℕ). folded_number (number c.args.input.now) (8 * n) 128) c.requires.all
