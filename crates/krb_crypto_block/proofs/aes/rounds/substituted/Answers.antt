use Rattle.std.proofs.Common.{◌∙◌}
use Rattle.krb_crypto_block.specs.declared.aes.tables.TheConstants.{LAST_U, LAST_V}
use Rattle.krb_crypto_block.proofs.AesVectors.{are_inversion_indices, looked_up_is}
use Rattle.krb_crypto_block.proofs.aes.rounds.substituted.Goals as goal

pub looked_up-requires : goal.looked_up-requires
looked_up-requires c = are_inversion_indices c.args.x _ _ c.fits-x.1 c.inversion_indices.ensures

pub returns : goal.returns
returns c = c.looked_up.ensures ∙ looked_up_is LAST_U LAST_V c.args.x _ _ c.inversion_indices.ensures
