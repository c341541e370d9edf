-- The round constants are the powers of x.
use Rattle.std.proofs.Common.{◌≡◌, ℕ, ◌<◌, true, refl, slice_index}
use Rattle.krb_crypto_block.specs.Polynomial.{times}
use Rattle.krb_crypto_block.specs.Aes.{power_of_x}
use Rattle.krb_crypto_block.specs.AesWords.{word}
use Rattle.krb_crypto_block.specs.declared.aes_key_expansion.TheConstants.{ROUND_CONSTANTS}
use Rattle.krb_crypto_block.proofs.Tables.{same_below, same_below_at}

abbrev constant : ℕ → ℕ
constant n = word (power_of_x n) 0 0 0

round_constants_table : same_below (slice_index ROUND_CONSTANTS) constant 10 ≡ true
unfolding times power_of_x
round_constants_table = refl

pub round_constants_entry : (n : ℕ) → n < 10 → slice_index ROUND_CONSTANTS n ≡ word (power_of_x n) 0 0 0
round_constants_entry n h = same_below_at (slice_index ROUND_CONSTANTS) constant 10 n round_constants_table h
