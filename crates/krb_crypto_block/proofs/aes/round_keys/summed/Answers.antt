use Rattle.std.proofs.Common.{ap, ◌∙◌}
use Rattle.krb_crypto_block.proofs.AesNextKeys.{vector_sums, sums_are}
use Rattle.krb_crypto_block.proofs.aes.round_keys.summed.Goals as goal

pub returns : goal.returns
returns c = λ st t is e added. ap (λ k. vector_sums k c.args.term) e ∙ ap (vector_sums st) added ∙ sums_are st t is
