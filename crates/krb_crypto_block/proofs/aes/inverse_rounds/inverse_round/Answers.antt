use Rattle.std.proofs.Common.{refl, ◌∙◌}
use Rattle.krb_crypto_block.specs.AesLanes.{inverse_positions}
use Rattle.krb_crypto_block.specs.declared.aes.tables.TheConstants.{D9_U, D9_V, DB_U, DB_V, DD_U, DD_V, DE_U, DE_V}
use Rattle.krb_crypto_block.proofs.AesVectors.{are_inversion_indices, indices_by_test, looked_up_is}
use Rattle.krb_crypto_block.proofs.AesInverseLanes.{inverse_round_is, term_is}
use Rattle.krb_crypto_block.proofs.aes.inverse_rounds.inverse_round.Goals as goal

pub looked_up-requires : goal.looked_up-requires
looked_up-requires c = are_inversion_indices c.args.x _ _ c.fits-x.1 c.inversion_indices.ensures

pub looked_up-requires-2 : goal.looked_up-requires-2
looked_up-requires-2 c = are_inversion_indices c.args.x _ _ c.fits-x.1 c.inversion_indices.ensures

pub looked_up-requires-3 : goal.looked_up-requires-3
looked_up-requires-3 c = are_inversion_indices c.args.x _ _ c.fits-x.1 c.inversion_indices.ensures

pub looked_up-requires-4 : goal.looked_up-requires-4
looked_up-requires-4 c = are_inversion_indices c.args.x _ _ c.fits-x.1 c.inversion_indices.ensures

pub shuffled-own-requires : goal.shuffled-own-requires
shuffled-own-requires c = indices_by_test (inverse_positions 0) _ c.args.turns.now.own_is refl

pub shuffled-next-requires : goal.shuffled-next-requires
shuffled-next-requires c = indices_by_test (inverse_positions 1) _ c.args.turns.now.next_is refl

pub shuffled-third-requires : goal.shuffled-third-requires
shuffled-third-requires c = indices_by_test (inverse_positions 2) _ c.args.turns.now.third_is refl

pub shuffled-fourth-requires : goal.shuffled-fourth-requires
shuffled-fourth-requires c = indices_by_test (inverse_positions 3) _ c.args.turns.now.fourth_is refl

pub returns : goal.returns
returns c = λ w st n is held has.
    let x = c.args.x in
    let t = c.args.turns.now in
    inverse_round_is w st n is c.args.key _ _ _ _ has
    (term_is DE_U DE_V st x _ _ _ 0 held (c.looked_up.ensures ∙ looked_up_is DE_U DE_V x _ _ c.inversion_indices.ensures) t.own_is c.shuffled-own.ensures)
    (term_is DB_U DB_V st x _ _ _ 1 held (c.looked_up-2.ensures ∙ looked_up_is DB_U DB_V x _ _ c.inversion_indices.ensures) t.next_is c.shuffled-next.ensures)
    (term_is DD_U DD_V st x _ _ _ 2 held (c.looked_up-3.ensures ∙ looked_up_is DD_U DD_V x _ _ c.inversion_indices.ensures) t.third_is c.shuffled-third.ensures)
    (term_is D9_U D9_V st x _ _ _ 3 held (c.looked_up-4.ensures ∙ looked_up_is D9_U D9_V x _ _ c.inversion_indices.ensures) t.fourth_is c.shuffled-fourth.ensures)
