use Rattle.std.proofs.Common.{◌∙◌}
use Rattle.krb_crypto_block.specs.declared.aes.tables.TheConstants.{ONCE_U, ONCE_V, TWICE_U, TWICE_V}
use Rattle.krb_crypto_block.proofs.AesVectors.{are_inversion_indices, looked_up_is}
use Rattle.krb_crypto_block.proofs.AesRoundLanes.{round_is}
use Rattle.krb_crypto_block.proofs.aes.rounds.round.Goals as goal

pub looked_up-once-requires : goal.looked_up-once-requires
looked_up-once-requires c = are_inversion_indices c.args.x _ _ c.fits-x.1 c.inversion_indices.ensures

pub looked_up-twice-requires : goal.looked_up-twice-requires
looked_up-twice-requires c = are_inversion_indices c.args.x _ _ c.fits-x.1 c.inversion_indices.ensures

pub returns : goal.returns
returns c = λ w st n is held has.
    round_is w st n is c.args.x c.args.key _ _ held has
    (c.looked_up-once.ensures ∙ looked_up_is ONCE_U ONCE_V c.args.x _ _ c.inversion_indices.ensures)
    (c.looked_up-twice.ensures ∙ looked_up_is TWICE_U TWICE_V c.args.x _ _ c.inversion_indices.ensures)
