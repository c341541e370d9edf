use Rattle.std.proofs.Common.{◌≡◌, refl, arith}
use Rattle.krb_crypto_block.specs.DesTables.{second_choice}
use Rattle.krb_crypto_block.specs.declared.des.tables.TheConstants.{CHOSEN_OF_C, CHOSEN_OF_D}
use Rattle.krb_crypto_block.specs.Des.{bits, permuted}
use Rattle.krb_crypto_block.proofs.DesBits.{length-bits}
use Rattle.krb_crypto_block.proofs.DesChoice.{choice_of_c, choice_of_d, half_bits, chosen_of_c, chosen_of_d, choice_start, choice_more, choice_end, key_chosen}
use Rattle.krb_crypto_block.proofs.des.key_schedule.second_choice.Goals as goal

pub parts-init : goal.parts-init
unfolding second_choice
parts-init c = record {
  of_c = choice_start choice_of_c (bits 28 c.args.c) refl;
  of_d = choice_start choice_of_d (bits 28 c.args.d) refl;
}

pub parts-preserved : goal.parts-preserved
unfolding second_choice
parts-preserved c = record {
  of_c = choice_more CHOSEN_OF_C choice_of_c c.args.c c.parts.i c.parts.of_c _ chosen_of_c refl c.parts-test.true c.parts.invariant.of_c;
  of_d = choice_more CHOSEN_OF_D choice_of_d c.args.d c.parts.i c.parts.of_d _ chosen_of_d refl c.parts-test.true c.parts.invariant.of_d;
}

pub returns : goal.returns
unfolding second_choice
returns c =
    let of_c : half_bits c.parts.of_c ≡ permuted choice_of_c (bits 28 c.args.c) =
    choice_end choice_of_c (bits 28 c.args.c) c.parts.i c.parts.of_c _ refl (length-bits 28 c.args.c) (omega arith) c.parts.invariant.of_c in
    let of_d : half_bits c.parts.of_d ≡ permuted choice_of_d (bits 28 c.args.d) =
    choice_end choice_of_d (bits 28 c.args.d) c.parts.i c.parts.of_d _ refl (length-bits 28 c.args.d) (omega arith) c.parts.invariant.of_d in
    key_chosen c.args.c c.args.d c.parts.of_c c.parts.of_d (omega arith) (omega arith) of_c of_d
