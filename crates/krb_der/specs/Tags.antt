-- With which octet encodings begin (X.690, 8.1.2).
use Rattle.std.specs.Prelude.{◌≡◌, ◌==◌, ◌||◌, ℕ, Bool}

-- with this one alone
abbrev pub HasTag : ℕ → (ℕ → Bool) → Type 0
HasTag n first = (t : ℕ) → first t ≡ (t == n)

-- with these two alone
abbrev pub HasTags : ℕ → ℕ → (ℕ → Bool) → Type 0
HasTags n m first = (t : ℕ) → first t ≡ (t == n || t == m)
