use Rattle.std.proofs.Common.{refl, arith, rules}
use Rattle.krb_crypto_block.specs.DesTables.{turns, first_choice}
use Rattle.krb_crypto_block.specs.declared.des.tables.TheConstants.{TURNS}
use Rattle.krb_crypto_block.specs.Des.{bits, permuted, round_keys}
use Rattle.krb_crypto_block.proofs.DesRounds.{keys_start, keys_more, keys_end, few_turns}
use Rattle.krb_crypto_block.proofs.des.key_schedule.round_keys.Goals as goal

pub keys-init : goal.keys-init
unfolding first_choice
keys-init c = record {
  sized = refl;
  value = keys_start turns c.first_choice-chosen.result (permuted first_choice (bits 64 c.args.key)) c.first_choice-chosen.ensures.value;
  c_small = omega (arith, c.first_choice-chosen.ensures.small);
  d_small = omega arith;
}

pub turn_left-d-requires-clause-few : goal.turn_left-d-requires-clause-few
turn_left-d-requires-clause-few c = few_turns TURNS c.keys.i refl c.keys-test.true

pub keys-preserved : goal.keys-preserved
unfolding turns
keys-preserved c = record {
  sized = search rules;
  value = keys_more turns c.keys.keys c.keys.i c.keys.c c.keys.d c.turn_left-c.result c.turn_left-d.result c.second_choice.result _ c.keys-test.true (omega (arith, c.keys.invariant.sized)) c.turn_left-c.ensures.value c.turn_left-d.ensures.value c.second_choice.ensures c.keys.invariant.value;
  c_small = c.turn_left-c.ensures.small;
  d_small = c.turn_left-d.ensures.small;
}

pub returns : goal.returns
unfolding round_keys turns
returns c = keys_end turns c.keys.keys c.keys.i (bits 28 c.keys.c) (bits 28 c.keys.d) _ (omega arith) (omega (arith, c.keys.invariant.sized)) c.keys.invariant.value
