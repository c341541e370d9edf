-- Adding the octets of a number one by one, the lowest first, round and round over s places.
use Rattle.std.proofs.Common.{◌≡◌, ℕ, zero, suc, ◌+◌, ◌*◌, ◌/◌, ◌%◌, ◌<◌, ◌≤◌, refl, sym, ap, ◌∙◌, arith, add-one, inl, inr}
use Rattle.std.proofs.Math.Arith.{mod-mul, digits_mod}
use Rattle.std.proofs.Math.Nat.{mul-le-mul_left, add-mul-mod_self_right, mod-eq_of_lt, mul-le-mul_right, div-add-mod', mod-lt, mod-one}
use Rattle.std.proofs.lemmas.Bool.{cases_lt}
use Rattle.krb_crypto_block.specs.Fold.{residue}
use Rattle.krb_crypto_block.proofs.FoldWorth.{worth, worth-zero, worth-suc, worth-add, worth_pos}

worth_turns : (s m p i : ℕ) → worth s ≡ m + 1 → (w : ℕ) × (worth (i * s + p) ≡ worth p + w * m)
worth_turns s m p zero e = (0, let z : 0 * s + p ≡ p = omega arith in rw z (omega arith))
worth_turns s m p (suc i) e =
    let before : (w : ℕ) × (worth (i * s + p) ≡ worth p + w * m) = worth_turns s m p i e in
    let w : ℕ = before.0 in
    let z : suc i * s + p ≡ s + (i * s + p) = omega arith in
    (w + worth p + w * m, rw (z, worth-add s (i * s + p), e, before.1) (omega arith))

pub worth-mod : (s m t : ℕ) → worth s ≡ m + 1 → (w : ℕ) × (worth t ≡ worth (t % s) + w * m)
worth-mod s m t e =
    let found : (w : ℕ) × (worth (t / s * s + t % s) ≡ worth (t % s) + w * m) = worth_turns s m (t % s) (t / s) e in
    (found.0, ap worth (sym (div-add-mod' t s)) ∙ found.1)

-- the lowest t octets of j, added with end-around carry, are v, with the carry c into the next place
pub record Folding (s m j t v c : ℕ) : Type 0 where
  pub carry : c ≤ 1
  pub times : ℕ
  pub whole : j % worth t ≡ v + c * worth (t % s) + times * m
  pub zero_only : v + c * worth (t % s) ≡ 0 → times ≡ 0
  pub below : v + c * worth (t % s) < m + worth (t % s)

pub Folding-start : (s m j : ℕ) → Folding s m j 0 0 0
Folding-start s m j = record {
  carry = omega arith;
  times = 0;
  whole = rw (worth-zero, mod-one) (omega arith);
  zero_only = λ h. refl;
  below = omega (arith, worth_pos (0 % s));
}

mod-worth-suc : (j t : ℕ) → j % worth (t + 1) ≡ (j / worth t % 256) * worth t + j % worth t
mod-worth-suc j t =
    let e : worth (t + 1) ≡ 256 * worth t = rw (add-one, worth-suc) (omega arith) in
    let pos : 0 < worth t = worth_pos t in
    let few : 0 < 256 = omega arith in
    rw e (mod-mul j few pos)

pub next_place : (s t : ℕ) → t % s + 1 < s → (t + 1) % s ≡ t % s + 1
next_place s t h =
    let e : t + 1 ≡ t / s * s + (t % s + 1) = omega (arith, div-add-mod' t s) in
    ap (λ (k : ℕ). k % s) e ∙ digits_mod (t / s) h

pub next_turn : (s t : ℕ) → 0 < s → t % s + 1 ≡ s → (t + 1) % s ≡ 0
next_turn s t pos h =
    let e : t + 1 ≡ (t / s + 1) * s + 0 = omega (arith, div-add-mod' t s) in
    ap (λ (k : ℕ). k % s) e ∙ digits_mod (t / s + 1) pos

lt_of : (n : ℕ) → 0 < suc n
lt_of n = omega arith

le-mul_of_pos_right' : (a b : ℕ) → 0 < b → a ≤ a * b
le-mul_of_pos_right' a b h = let one : a * 1 ≤ a * b = mul-le-mul_left a h in omega (arith, one)

-- at the end of a turn the carry goes to the first place
wrapped : (s m j t v c q : ℕ) → t % s ≡ 0 → worth s ≡ m + 1 → c ≤ 1 → v < worth s
    → j % worth t ≡ v + c * worth s + q * m → (v + c * worth s ≡ 0 → q ≡ 0) → v + c * worth s < m + worth s → Folding s m j t v c
wrapped s m j t v c q at em ec fits whole zero_only below =
    let c01 : c * m ≤ m = omega (arith, mul-le-mul_right m ec) in
    record {
      carry = ec;
      times = q + c;
      whole = rw (at, worth-zero, whole, em) (omega arith);
      zero_only = rw (at, worth-zero) (λ h. let cz : c ≡ 0 = omega arith in let vz : v ≡ 0 = omega arith in let qz : q ≡ 0 = zero_only (rw (cz, vz) (omega arith)) in rw (qz, cz) refl);
      below = rw (at, worth-zero) (elim (cases_lt c 1) [
        | inl lt ↦ omega arith
        | inr ge ↦ let c1 : c ≡ 1 = omega arith in let b : v + 1 * worth s < m + worth s = rw c1 at below in omega (arith, b)
      ]);
    }

-- the step, over the values of the places' worth
step_whole : (old new v v2 c2 x c q w m wt wp up : ℕ) → new ≡ x * wt + old → old ≡ v + c * wp + q * m → wt ≡ wp + w * m → v2 + c2 * up ≡ v + (x + c) * wp
    → new ≡ v2 + c2 * up + (q + x * w) * m
step_whole old new v v2 c2 x c q w m wt wp up en eo ew es = rw (en, eo, ew) (omega (arith, es))

step_zero : (v v2 c2 x c q w wp up : ℕ) → (v + c * wp ≡ 0 → q ≡ 0) → 0 < wp → v2 + c2 * up ≡ v + (x + c) * wp → v2 + c2 * up ≡ 0 → q + x * w ≡ 0
step_zero v v2 c2 x c q w wp up hz pos es ez =
    let some : x + c ≤ (x + c) * wp = le-mul_of_pos_right' (x + c) wp pos in
    let xz : x ≡ 0 = omega arith in
    let cz : c ≡ 0 = omega arith in
    let vz : v ≡ 0 = omega arith in
    let q0 : q ≡ 0 = hz (rw (vz, cz) (omega arith)) in
    rw (q0, xz) (omega arith)

pub Folding-step : (s m j t v c x v2 c2 : ℕ) → worth s ≡ m + 1 → t % s < s → Folding s m j t v c → x ≡ j / worth t % 256
    → v2 + c2 * worth (t % s + 1) ≡ v + (x + c) * worth (t % s) → c2 ≤ 1 → v2 < worth s → Folding s m j (t + 1) v2 c2
Folding-step s m j t v c x v2 c2 em inside f ex es ec fits =
    let found : (w : ℕ) × (worth t ≡ worth (t % s) + w * m) = worth-mod s m t em in
    let w : ℕ = found.0 in
    let pos : 0 < worth (t % s) = worth_pos (t % s) in
    let low : x < 256 = rw ex (mod-lt (j / worth t) (lt_of 255)) in
    let up : worth (t % s + 1) ≡ worth (t % s) * 256 = rw (add-one, worth-suc) refl in
    let new : j % worth (t + 1) ≡ x * worth t + j % worth t = rw (mod-worth-suc j t, ex) refl in
    let whole : j % worth (t + 1) ≡ v2 + c2 * worth (t % s + 1) + (f.times + x * w) * m =
    step_whole (j % worth t) (j % worth (t + 1)) v v2 c2 x c f.times w m (worth t) (worth (t % s)) (worth (t % s + 1)) new f.whole found.1 es in
    let zero_only : v2 + c2 * worth (t % s + 1) ≡ 0 → f.times + x * w ≡ 0 = λ h. step_zero v v2 c2 x c f.times w (worth (t % s)) (worth (t % s + 1)) f.zero_only pos es h in
    let most : x * worth (t % s) ≤ 255 * worth (t % s) = mul-le-mul_right (worth (t % s)) (omega arith) in
    let below : v2 + c2 * worth (t % s + 1) < m + worth (t % s + 1) = rw (es, up) (omega (arith, f.below)) in
    elim (cases_lt (t % s + 1) s) [
      | inl lt ↦
          let e : (t + 1) % s ≡ t % s + 1 = next_place s t lt in
          record {
            carry = ec;
            times = f.times + x * w;
            whole = rw e whole;
            zero_only = rw e zero_only;
            below = rw e below;
          }
      | inr ge ↦
          let turn : t % s + 1 ≡ s = omega arith in
          let e : (t + 1) % s ≡ 0 = next_turn s t (omega arith) turn in
          wrapped s m j (t + 1) v2 c2 (f.times + x * w) e em ec fits (rw turn at whole) (rw turn at zero_only) (rw turn at below)
    ]

pub residue_from : (m j u q : ℕ) → j ≡ u + q * m → u < m + 1 → (u ≡ 0 → q ≡ 0) → u ≡ residue m j
residue_from m j zero q e lt hz =
    let q0 : q ≡ 0 = hz refl in
    let j0 : j ≡ 0 = rw (e, q0) (omega arith) in
    rw j0 refl
residue_from m j (suc u) q e lt hz =
    let below : u < m = omega arith in
    let ej : j ≡ suc (u + q * m) = omega arith in
    let r : (u + q * m) % m ≡ u = add-mul-mod_self_right u q m ∙ mod-eq_of_lt below in
    rw (ej, r) refl

pub Folding-end : (s m j t v c : ℕ) → Folding s m j t v c → t % s ≡ 0 → j < worth t → worth s ≡ m + 1 → (v + c ≡ residue m j) × (v + c < worth s)
Folding-end s m j t v c f at small em =
    let one : v + c * worth (t % s) ≡ v + c = rw (at, worth-zero) (omega arith) in
    let whole : j ≡ v + c + f.times * m = sym (mod-eq_of_lt small) ∙ f.whole ∙ ap (λ (k : ℕ). k + f.times * m) one in
    let zero_only : v + c ≡ 0 → f.times ≡ 0 = rw one at f.zero_only in
    let below : v + c < m + 1 = rw (one, at, worth-zero) at f.below in
    (residue_from m j (v + c) f.times whole below zero_only, rw em below)
