use Rattle.std.proofs.Common.{◌≡◌, ◌*◌}
use Rattle.krb_crypto_block.specs.DesTables.{round_table}
use Rattle.krb_crypto_hash.specs.Xor.{xor_lists}
use Rattle.krb_crypto_block.specs.Des.{bits, permuted, round_value, key_bits}
use Rattle.krb_crypto_block.proofs.DesCombined.{left_from}
use Rattle.krb_crypto_block.proofs.DesExpansion.{mixed_with}
use Rattle.krb_crypto_block.proofs.des.rounds.round_value.Given as goal

abbrev pub invariant-boxes : goal.invariant-boxes
invariant-boxes l = xor_lists (bits 32 l.value) (permuted round_table (left_from (2 * l.i) (mixed_with l.right l.key))) ≡ round_value (bits 32 l.right) (key_bits l.key)
