use Rattle.std.proofs.Common.{rules, arith, ◌≡◌, ◌*◌, ◌/◌, ℕ, length, replicate, ap, ◌∙◌}
use Rattle.krb_crypto_block.specs.Modes.{IsOctets}
use Rattle.krb_crypto_block.specs.Fold.{number}
use Rattle.krb_crypto_block.proofs.FoldOctets.{folded_is}
use Rattle.krb_crypto_block.proofs.FoldSteps.{number_zeros}
use Rattle.krb_crypto_block.proofs.FoldWords.{folded_word}
use Rattle.krb_crypto_block.proofs.nfold.n_fold_into.Goals as goal

pub fold_into-requires-clause-zero : goal.fold_into-requires-clause-zero
fold_into-requires-clause-zero c =
    let zeros : c.fill.new.self ≡ replicate (length c.args.out.now) 0 = search rules in
    ap number zeros ∙ number_zeros (length c.args.out.now)

pub returns : goal.returns
returns c =
    let n : ℕ = 8 * length c.args.out.now in
    let octets : IsOctets c.fold_into.new.sum = c.are_octets.ensures in
    let size : length c.fold_into.new.sum ≡ 8 * length c.args.out.now / 8 = search rules in
    let same : 8 * length c.fill.new.self ≡ 8 * length c.args.out.now = omega (arith, c.fill.ensures.len) in
    folded_is c.fold_into.new.sum c.args.input.now n (8 * length c.fill.new.self) octets size same c.fold_into.ensures

pub returns-then-input-le8 : goal.returns-then-input-le8
returns-then-input-le8 c =
    folded_word c.copy_from_slice.new.self c.args.input.now c.word_of.result (length c.args.out.now) c.if-out-eq-WORD_SIZE.true c.word_of.ensures (c.copy_from_slice.ensures.after ∙ c.to_be_bytes.ensures)
