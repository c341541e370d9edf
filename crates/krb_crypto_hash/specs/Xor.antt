-- Addition modulo 2, place by place (FIPS 46-3, the symbol of the circled plus; FIPS 197, 4.1).
use Rattle.std.specs.Prelude.{ℕ, ◌-◌, List, [], ◌∷◌, ◌++◌, length, replicate, bit_xor}

-- of lists of equal length: bits, or octets bit by bit
abbrev pub xor_lists : List ℕ → List ℕ → List ℕ
xor_lists [] ys = []
xor_lists (x ∷ xs) [] = []
xor_lists (x ∷ xs) (y ∷ ys) = bit_xor x y ∷ xor_lists xs ys

-- at most size octets, padded with zeros to just so many (RFC 2104, 2; RFC 3961, 5.3, "pad"; RFC 3962, 5)
abbrev pub padded_to : ℕ → List ℕ → List ℕ
padded_to size t = t ++ replicate (size - length t) 0
