-- n-fold (RFC 3961, 5.1), on natural numbers.
use Rattle.std.specs.Prelude.{ℕ, zero, suc, ◌+◌, ◌-◌, ◌*◌, ◌/◌, ◌%◌, ◌^◌, ◌==◌, ◌&&◌, List, [], ◌∷◌, length, if◌then◌else◌}
use Rattle.std.specs.Int.{bytes_high_first}

-- the number whose digits to the base 256 are the octets, the highest first
unfoldable pub number : List ℕ → ℕ
number [] = 0
number (x ∷ xs) = x * 256 ^ length xs + number xs

-- the greatest number up to d that divides both, or 0 where there is none
unfoldable pub common_below : ℕ → ℕ → ℕ → ℕ
common_below a b zero = 0
common_below a b (suc d) = if (a % suc d == 0) && (b % suc d == 0) then suc d else common_below a b d

-- the greatest common divisor
unfoldable pub gcd : ℕ → ℕ → ℕ
gcd a b = common_below a b (a + b)

-- the least common multiple
abbrev pub lcm : ℕ → ℕ → ℕ
lcm n k = n / gcd n k * k

-- the k-bit number x turned right by r bits, r being at most k
abbrev pub turned : ℕ → ℕ → ℕ → ℕ
turned x k r = (x % 2 ^ r) * 2 ^ (k - r) + x / 2 ^ r

-- the k-bit number x turned right by 13 j bits
abbrev pub rot : ℕ → ℕ → ℕ → ℕ
rot x k j = turned x k (13 * j % k)

-- the number whose k-bit digits, the highest first, are the first c turns of x
unfoldable pub concatenated : ℕ → ℕ → ℕ → ℕ
concatenated x k zero = 0
concatenated x k (suc c) = concatenated x k c * 2 ^ k + rot x k c

-- 0 for 0, and else the number from 1 to m that is congruent modulo m
abbrev pub residue : ℕ → ℕ → ℕ
residue m zero = 0
residue m (suc j) = suc (j % m)

-- the k-bit number x folded to n bits
unfoldable pub folded_number : ℕ → ℕ → ℕ → ℕ
folded_number x k n = residue (2 ^ n - 1) (concatenated x k (lcm n k / k))

-- the octets of xs folded to n bits, n being a multiple of 8
unfoldable pub fold : List ℕ → ℕ → List ℕ
fold xs n = bytes_high_first (n / 8) (folded_number (number xs) (8 * length xs) n)
