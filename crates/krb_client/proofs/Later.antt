-- Why there is none, where memory may have been wanting.
use Rattle.std.proofs.Common.{◌⊎◌, inl, inr}

-- the later part is refused, and the earlier one is there
pub or_later : {M N P B : Type 0} → B → M ⊎ N → M ⊎ (P ⊎ (B × N))
or_later b (inl m) = inl m
or_later b (inr n) = inr (inr (b, n))

-- the first part is refused, and this holds beside it
pub or_first : {M N P Q : Type 0} → P → M ⊎ N → M ⊎ ((N × P) ⊎ Q)
or_first p (inl m) = inl m
or_first p (inr n) = inr (inl (n, p))
