use Rattle.std.proofs.Common.{◌≡◌, ◌^◌, ◌<◌, ◌++◌, length, take, drop, map}
use Rattle.krb_crypto_block.specs.DesTables.{turns, first_choice}
use Rattle.krb_crypto_block.specs.Des.{bits, permuted, keys_from, key_bits}
use Rattle.krb_crypto_block.proofs.des.key_schedule.round_keys.Given as goal

abbrev pub invariant-keys : goal.invariant-keys
invariant-keys l = record {
  sized : length l.keys ≡ 16;
  value : map key_bits (take l.i l.keys) ++ keys_from (drop l.i turns) (bits 28 l.c) (bits 28 l.d)
      ≡ keys_from turns (take 28 (permuted first_choice (bits 64 l.key))) (drop 28 (permuted first_choice (bits 64 l.key)));
  c_small : l.c < 2 ^ 28;
  d_small : l.d < 2 ^ 28;
}
