-- Octets that have a place already, each marked `true`.
use Rattle.std.specs.Prelude.{◌≡◌, ℕ, ◌+◌, ◌<◌, ◌≤◌, ◌⊎◌, Bool, true, false, List, slice_index_or}

-- octet k is not taken
abbrev pub IsLeft : List Bool → ℕ → Type 0
IsLeft marks k = slice_index_or marks k false ≡ false

-- the n octets from `at` on were left and are taken now, and nothing else changed
pub record Takes (at n : ℕ) (old new : List Bool) : Type 0 where
  pub left : (k : ℕ) → at ≤ k → k < at + n → IsLeft old k
  pub taken : (k : ℕ) → at ≤ k → k < at + n → slice_index_or new k false ≡ true
  pub kept : (k : ℕ) → (k < at) ⊎ (at + n ≤ k) → slice_index_or new k false ≡ slice_index_or old k false
