use Rattle.std.proofs.Common.{◌≡◌}
use Rattle.krb_crypto_hash.specs.Xor.{xor_lists}
use Rattle.krb_crypto_block.specs.Des.{bits, permuted}
use Rattle.krb_crypto_block.proofs.DesChoice.{choice_of_c, choice_of_d, half_bits, parts_from}
use Rattle.krb_crypto_block.proofs.des.key_schedule.second_choice.Given as goal

abbrev pub invariant-parts : goal.invariant-parts
invariant-parts l = record {
  of_c : xor_lists (half_bits l.of_c) (permuted choice_of_c (parts_from l.i (bits 28 l.c))) ≡ permuted choice_of_c (bits 28 l.c);
  of_d : xor_lists (half_bits l.of_d) (permuted choice_of_d (parts_from l.i (bits 28 l.d))) ≡ permuted choice_of_d (bits 28 l.d);
}
