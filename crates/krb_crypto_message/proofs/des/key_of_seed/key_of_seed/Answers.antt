use Rattle.std.proofs.Common.{◌∙◌}
use Rattle.krb_crypto_message.proofs.DesParts.{key_concatenated}
use Rattle.krb_crypto_message.proofs.des.key_of_seed.key_of_seed.Goals as goal

pub returns : goal.returns
returns c = c.concatenated.ensures ∙ key_concatenated _ _ _ _ c.key_part-first.ensures c.key_part-second.ensures c.key_part-third.ensures
