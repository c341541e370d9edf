use Rattle.std.proofs.Common.{refl, ◌∙◌}
use Rattle.krb_crypto_block.specs.AesLanes.{inverse_positions}
use Rattle.krb_crypto_block.specs.declared.aes.tables.TheConstants.{INVERTED_U, INVERTED_V}
use Rattle.krb_crypto_block.proofs.AesVectors.{are_inversion_indices, indices_by_test, looked_up_is}
use Rattle.krb_crypto_block.proofs.AesInverseLanes.{inverse_last_is, term_is}
use Rattle.krb_crypto_block.proofs.aes.inverse_rounds.inverse_last_round.Goals as goal

pub looked_up-requires : goal.looked_up-requires
looked_up-requires c = are_inversion_indices c.args.x _ _ c.fits-x.1 c.inversion_indices.ensures

pub shuffled-requires : goal.shuffled-requires
shuffled-requires c = indices_by_test (inverse_positions 0) _ c.args.turns.now.own_is refl

pub returns : goal.returns
returns c = λ w st is held has.
    let x = c.args.x in
    inverse_last_is w st 0 is c.args.key _ has
    (term_is INVERTED_U INVERTED_V st x _ _ _ 0 held (c.looked_up.ensures ∙ looked_up_is INVERTED_U INVERTED_V x _ _ c.inversion_indices.ensures) c.args.turns.now.own_is c.shuffled.ensures)
