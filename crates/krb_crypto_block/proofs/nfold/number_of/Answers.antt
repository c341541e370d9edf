use Rattle.std.proofs.Common.{◌≡◌, ◌+◌, ◌*◌, get_or, take, sym, ap, ◌∙◌, arith}
use Rattle.krb_crypto_block.specs.Fold.{number}
use Rattle.krb_crypto_block.proofs.FoldWorth.{number-nil}
use Rattle.krb_crypto_block.proofs.FoldWords.{number_more, number_fits}
use Rattle.krb_crypto_block.proofs.nfold.number_of.Goals as goal

pub loop-octet-init : goal.loop-octet-init
loop-octet-init c = sym number-nil

pub overflow_mul-n : goal.overflow_mul-n
overflow_mul-n c =
    let fits = number_fits c.args.octets.now c.loop-octet.octet-index (λ i. omega (arith, c.type_inv.octets i)) c.loop-octet-test.true c.requires in
    let scaled : c.loop-octet.n * 256 ≡ number (take c.loop-octet.octet-index c.args.octets.now) * 256 = ap (λ n. n * 256) c.loop-octet.invariant in
    omega (arith, fits, scaled)

pub overflow_add-n : goal.overflow_add-n
overflow_add-n c =
    let fits = number_fits c.args.octets.now c.loop-octet.octet-index (λ i. omega (arith, c.type_inv.octets i)) c.loop-octet-test.true c.requires in
    let scaled : c.loop-octet.n * 256 ≡ number (take c.loop-octet.octet-index c.args.octets.now) * 256 = ap (λ n. n * 256) c.loop-octet.invariant in
    omega (arith, fits, scaled)

pub loop-octet-preserved : goal.loop-octet-preserved
loop-octet-preserved c =
    ap (λ n. n * 256 + get_or c.args.octets.now c.loop-octet.octet-index 0) c.loop-octet.invariant ∙ sym (number_more c.args.octets.now c.loop-octet.octet-index c.loop-octet-test.true)
