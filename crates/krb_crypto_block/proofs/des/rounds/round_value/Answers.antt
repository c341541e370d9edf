use Rattle.std.proofs.Common.{◌≡◌, ◌*◌, arith}
use Rattle.krb_crypto_block.specs.Des.{round_value}
use Rattle.krb_crypto_block.proofs.DesCombined.{concatenated_start, concatenated_two, concatenated_end}
use Rattle.krb_crypto_block.proofs.DesExpansion.{mixed_with, wide_is, six_odd, six_even}
use Rattle.krb_crypto_block.proofs.des.rounds.round_value.Goals as goal

pub boxes-init : goal.boxes-init
unfolding round_value
boxes-init c = concatenated_start (mixed_with c.args.right c.args.key)

pub boxes-preserved : goal.boxes-preserved
boxes-preserved c =
    let wide = wide_is c.args.right c.rotate_right.result c.rotate_right-2.result c.ranges.right.fits c.rotate_right.ensures c.rotate_right-2.ensures in
    concatenated_two (mixed_with c.args.right c.args.key) c.boxes.i c.boxes.value _ _ _ c.boxes-test.true (omega arith) (omega arith)
    (six_odd c.args.right c.args.key _ c.boxes.i wide c.boxes-test.true) (six_even c.args.right c.args.key _ c.boxes.i wide c.boxes-test.true) c.boxes.invariant

pub returns : goal.returns
returns c =
    let all : 2 * c.boxes.i ≡ 8 = omega arith in
    concatenated_end (mixed_with c.args.right c.args.key) (2 * c.boxes.i) c.boxes.value _ all c.boxes.invariant
