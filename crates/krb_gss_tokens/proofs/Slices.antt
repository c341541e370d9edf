-- What octets of a slice are, by their first octets.
use Rattle.std.proofs.Common.{◌≡◌, ℕ, ◌≤◌, List, [], ◌∷◌, ◌++◌, length, drop, take, get_or, arith}
use Rattle.std.specs.Int.{w16, w64, to_be_bytes}
use Rattle.krb_gss_tokens.specs.Layout.{mic_id, wrap_header, wrap_id}

-- eight octets, the first two of which are the id of a MIC token
pub mic_filler_begins : (xs : List ℕ) → 8 ≤ length xs → get_or xs 0 0 ∷ get_or xs 1 0 ∷ [] ≡ mic_id
    → xs ≡ (mic_id ++ (get_or xs 2 0 ∷ []) ++ (get_or xs 3 0 ∷ get_or xs 4 0 ∷ get_or xs 5 0 ∷ get_or xs 6 0 ∷ get_or xs 7 0 ∷ [])) ++ drop 8 xs
mic_filler_begins (a ∷ b ∷ c ∷ d ∷ e ∷ f ∷ g ∷ h ∷ xs) le p = cc
mic_filler_begins xs le p = absurd (omega (arith, le))

-- sixteen octets, the first four of which are the id, flags and the filler of a Wrap token
pub wrap_begins : (xs number : List ℕ) (f x y n : ℕ) → 16 ≤ length xs → xs ≡ wrap_id ++ (f ∷ 255 ∷ []) ++ drop 4 xs
    → to_be_bytes w16 x ≡ get_or xs 4 0 ∷ get_or xs 5 0 ∷ [] → to_be_bytes w16 y ≡ get_or xs 6 0 ∷ get_or xs 7 0 ∷ []
    → to_be_bytes w64 n ≡ number → number ≡ take 8 (drop 8 xs) → xs ≡ wrap_header f x y n ++ drop 16 xs
wrap_begins (a ∷ b ∷ c ∷ d ∷ e ∷ g ∷ h ∷ i ∷ j ∷ k ∷ l ∷ m ∷ o ∷ p ∷ q ∷ r ∷ xs) number f x y n le s t u v w = cc
wrap_begins xs number f x y n le s t u v w = absurd (omega (arith, le))
