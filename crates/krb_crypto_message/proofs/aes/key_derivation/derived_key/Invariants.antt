use Rattle.std.proofs.Common.{◌≡◌, ◌-◌, ◌*◌, ◌/◌, ◌++◌, length}
use Rattle.krb_crypto_block.specs.Aes.{aes_block}
use Rattle.krb_crypto_block.specs.Fold.{fold}
use Rattle.krb_crypto_block.specs.Size.{key_octets}
use Rattle.krb_crypto_message.specs.Derive.{blocks_from}
use Rattle.krb_crypto_message.proofs.aes.key_derivation.derived_key.Given as goal

abbrev pub invariant-loop-i : goal.invariant-loop-i
invariant-loop-i l = record {
  block : length l.block ≡ 16;
  sized : length l.derived ≡ 16 * l.i;
  so_far : l.derived ++ blocks_from (aes_block l.cipher) l.block (key_octets l.size / 16 - l.i) ≡ blocks_from (aes_block l.cipher) (fold l.well_known 128) (key_octets l.size / 16);
}
