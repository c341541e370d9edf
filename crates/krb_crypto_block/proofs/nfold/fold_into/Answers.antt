use Rattle.std.proofs.Common.{◌≡◌, ℕ, ◌+◌, ◌*◌, ◌-◌, ◌/◌, ◌%◌, ◌<◌, length, refl, ap, ◌∙◌, arith, rules, add-zero}
use Rattle.std.proofs.Math.Nat.{mod-lt}
use Rattle.krb_crypto_block.specs.Fold.{number, gcd}
use Rattle.krb_crypto_block.proofs.FoldWorth.{worth}
use Rattle.krb_crypto_block.proofs.FoldDivisors.{gcd_pos}
use Rattle.krb_crypto_block.proofs.FoldSteps.{Folding-begin, start_place, octet_step, turns_end, fold_end, place_wraps, place_moves, turn_place}
use Rattle.krb_crypto_block.proofs.nfold.fold_into.Goals as goal
use Rattle.krb_crypto_block.proofs.nfold.fold_into.Goals.{then-from-input, else-from-input, then-place-size, else-place-size}

pub nonzero_div-count : goal.nonzero_div-count
nonzero_div-count c = let pos : 0 < gcd (length c.args.sum.now) (length c.args.input.now) = gcd_pos (length c.args.sum.now) (length c.args.input.now) c.requires.some in omega (arith, pos)

pub turns-init : goal.turns-init
turns-init c = record {
  at = start_place (length c.args.sum.now) (length c.args.input.now);
  folding = Folding-begin (length c.args.sum.now) (worth (length c.args.sum.now) - 1) _ (length c.args.input.now) (number c.args.sum.now) c.requires.zero;
}

pub octets-init : goal.octets-init
octets-init c = record {
  from = turn_place (length c.args.input.now) (length c.args.sum.now / c.greatest_common_divisor.result - 1 - c.turns.back) _ refl;
  at = c.turns.invariant.at ∙ ap (λ (k : ℕ). k % length c.args.sum.now) (omega arith);
  folding = rw add-zero c.turns.invariant.folding;
}

pub turned_octet-octet-requires-clause-inside : goal.turned_octet-octet-requires-clause-inside
turned_octet-octet-requires-clause-inside c = omega (arith, c.octets.invariant.from, mod-lt (((length c.args.sum.now / c.greatest_common_divisor.result - 1 - c.turns.back) + 5 * (length c.args.sum.now / c.greatest_common_divisor.result - 1 - c.turns.back) / 8) % length c.args.input.now + c.octets.e) c.requires.padded)

pub overflow_add-from-in-octets : goal.overflow_add-from-in-octets
overflow_add-from-in-octets c = omega (arith, c.octets.invariant.from, mod-lt (((length c.args.sum.now / c.greatest_common_divisor.result - 1 - c.turns.back) + 5 * (length c.args.sum.now / c.greatest_common_divisor.result - 1 - c.turns.back) / 8) % length c.args.input.now + c.octets.e) c.requires.padded)

pub octets-preserved : goal.octets-preserved
unfolding worth
octets-preserved c =
    let j : ℕ = length c.args.sum.now / c.greatest_common_divisor.result - 1 - c.turns.back in
    let start : ℕ = (j + 5 * j / 8) % length c.args.input.now in
    let shift : 5 * (j % 8) % 8 ≡ 5 * j % 8 = omega arith in
    record {
      from = elim c.if-from-input.branch [
        | then-from-input w ↦
            place_wraps (length c.args.input.now) start c.octets.e c.octets.from c.if-from-input.from c.requires.padded c.octets.invariant.from w.if-from-input.true w.from-is
        | else-from-input w ↦
            place_moves (length c.args.input.now) start c.octets.e c.octets.from c.if-from-input.from c.requires.padded c.octets.invariant.from w.if-from-input.false w.from-is
      ];
      at = elim c.if-place-size.branch [
        | then-place-size w ↦
            place_wraps (length c.args.sum.now) (c.turns.back * length c.args.input.now) c.octets.e c.octets.place c.if-place-size.place c.requires.some c.octets.invariant.at w.if-place-size.true w.place-is
        | else-place-size w ↦
            place_moves (length c.args.sum.now) (c.turns.back * length c.args.input.now) c.octets.e c.octets.place c.if-place-size.place c.requires.some c.octets.invariant.at w.if-place-size.false w.place-is
      ];
      folding = octet_step (length c.args.sum.now) c.turns.back c.octets.e (length c.args.sum.now / c.greatest_common_divisor.result) c.octets.carry c.turned_octet-octet.result c.add_octet-carry.result
          c.args.input.now c.octets.sum c.add_octet-carry.new.sum c.requires.some (search rules) (search rules) (omega arith) c.turns-test.true c.octets-test.true
          (c.turned_octet-octet.ensures j c.octets.e c.octets-test.true c.octets.invariant.from shift) c.add_octet-carry.ensures.carry
          (rw c.octets.invariant.at at c.add_octet-carry.ensures.value) c.octets.invariant.folding;
    }

pub last-init : goal.last-init
last-init c = record {
  one = c.turns.invariant.folding.carry;
  value = turns_end (length c.args.sum.now) c.turns.back (length c.args.sum.now / c.greatest_common_divisor.result) c.turns.carry (number c.turns.sum) c.args.input.now
      c.requires.some c.requires.padded (search rules) (ap (λ (k : ℕ). length c.args.sum.now / k) c.greatest_common_divisor.ensures) (omega arith) c.turns.invariant.folding;
}

pub last-preserved : goal.last-preserved
unfolding worth
last-preserved c = record { one = c.add_octet-carry-in-last.ensures.carry; value = omega (arith, c.add_octet-carry-in-last.ensures.value, c.last.invariant.value) }

pub returns : goal.returns
returns c =
    fold_end (length c.args.sum.now) (length c.args.input.now) (length c.args.sum.now / c.greatest_common_divisor.result) c.last.carry c.last.i (number c.last.sum) (number c.args.input.now)
    c.requires.some c.requires.padded (ap (λ (k : ℕ). length c.args.sum.now / k) c.greatest_common_divisor.ensures) (omega arith) c.last.invariant.value
