-- The S-box of FIPS 197 (5.1.1): the inverse, and then the affine map.
use Rattle.std.specs.Prelude.{ℕ, zero, suc, ◌+◌, ◌*◌, ◌^◌, ◌%◌}
use Rattle.std.specs.Int.{bit_at}
use Rattle.krb_crypto_block.specs.Polynomial.{inverse}

-- the number below 2 ^ n whose bit i is f i
abbrev pub from_bits : (ℕ → ℕ) → ℕ → ℕ
from_bits f zero = 0
from_bits f (suc n) = f n * 2 ^ n + from_bits f n

-- bit i of the affine map at b
abbrev pub affine_bit : ℕ → ℕ → ℕ
affine_bit b i =
    (bit_at b i + bit_at b ((i + 4) % 8) + bit_at b ((i + 5) % 8) + bit_at b ((i + 6) % 8)
    + bit_at b ((i + 7) % 8) + bit_at 0x63 i) % 2

abbrev pub affine : ℕ → ℕ
affine b = from_bits (affine_bit b) 8

unfoldable pub s_box : ℕ → ℕ
s_box x = affine (inverse x)
