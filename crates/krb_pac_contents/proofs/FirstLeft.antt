-- The first of elements, and what is left.
use Rattle.std.proofs.Common.{◌≡◌, ℕ, zero, suc, ◌-◌, ◌<◌, List, [], ◌∷◌, drop, Ok, Err, refl, arith}
use Rattle.krb_pac_contents.specs.Numbers.{long_at, elements_of}
use Rattle.krb_pac_contents.specs.Elements.{sids_of}
use Rattle.krb_pac_contents.specs.Sid.{sid_of}
use Rattle.krb_pac_contents.specs.Steps.{Read}
use Rattle.krb_pac_contents.specs.declared.error.LogonError.{LogonError}

pub elements-none : {A : Type 0} (width : ℕ) (value : List ℕ → A) (k : ℕ) (b : List ℕ) → k ≡ 0 → elements_of width value k b ≡ []
unfolding elements_of
elements-none width value k b e = rw e refl

pub elements-more : {A : Type 0} (width : ℕ) (value : List ℕ → A) (k : ℕ) (b : List ℕ) → 0 < k → elements_of width value k b ≡ value b ∷ elements_of width value (k - 1) (drop width b)
unfolding elements_of
elements-more width value zero b h = absurd (omega arith)
elements-more width value (suc n) b h = let e : suc n - 1 ≡ n = omega arith in rw e refl

pub sids-none : (k : ℕ) (e b : List ℕ) → k ≡ 0 → sids_of k e b ≡ []
unfolding sids_of
sids-none k e b h = rw h refl

pub sids-refused : (k : ℕ) (e b : List ℕ) (x : LogonError) → sid_of b ≡ Err x → sids_of k e b ≡ []
unfolding sids_of
sids-refused zero e b x h = refl
sids-refused (suc n) e b x h = rw h refl

pub sids-more : (k : ℕ) (e b : List ℕ) (s : Read) → 0 < k → sid_of b ≡ Ok s → sids_of k e b ≡ record { sid = s.octets; attributes = long_at 4 e } ∷ sids_of (k - 1) (drop 8 e) s.rest
unfolding sids_of
sids-more zero e b s h g = absurd (omega arith)
sids-more (suc n) e b s h g = let i : suc n - 1 ≡ n = omega arith in rw (g, i) refl
