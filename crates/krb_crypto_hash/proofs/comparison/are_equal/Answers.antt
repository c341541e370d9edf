use Rattle.std.proofs.Common.{◌≡◌, ℕ, ◌<◌, List, [], ◌∷◌, ◌++◌, length, take, get_or, bit_or, bit_xor, refl, ap, ◌∙◌, sym, arith, add-one}
use Rattle.std.proofs.lemmas.Nat.{le_or_l, le_or_r}
use Rattle.std.proofs.Math.Seq.{take-suc}
use Rattle.std.proofs.lemmas.List.{take_all}
use Rattle.std.proofs.lemmas.Bool.{eqb-true}
use lib.Bits.{xor_assoc, xor_self, xor_zero_r, xor_zero_l}
use Rattle.krb_crypto_hash.proofs.comparison.are_equal.Goals as goal

-- what is no difference
none : (d a b : ℕ) → bit_or d (bit_xor a b) ≡ 0 → (d ≡ 0) × (a ≡ b)
none d a b e =
    let same : bit_xor a b ≡ 0 = omega (arith, le_or_r d (bit_xor a b)) in (
      omega (arith, le_or_l d (bit_xor a b)),
      sym (xor_assoc a b b ∙ ap (bit_xor a) (xor_self b) ∙ xor_zero_r a) ∙ ap (λ (x : ℕ). bit_xor x b) same ∙ xor_zero_l b,
    )

pub loop-i-preserved : goal.loop-i-preserved
loop-i-preserved c =
    let f : List ℕ = c.args.first.now in
    let s : List ℕ = c.args.second.now in
    let i : ℕ = c.loop-i.i in
    let a : ℕ = get_or f i 0 in
    let b : ℕ = get_or s i 0 in
    let low : i < length f = c.loop-i-test.true in
    let below : i < length s = omega (arith, c.if-first-second.false) in (
      (λ e.
          let both = none c.loop-i.difference a b e in
          ap (λ (n : ℕ). take n f) (add-one i) ∙ take-suc f i 0 low
          ∙ ap (λ (l : List ℕ). l ++ (a ∷ [])) (c.loop-i.invariant.0 both.0) ∙ ap (λ (x : ℕ). take i s ++ (x ∷ [])) both.1
          ∙ sym (ap (λ (n : ℕ). take n s) (add-one i) ∙ take-suc s i 0 below)),
      (λ e.
          ap (λ (d : ℕ). bit_or d (bit_xor a b)) (c.loop-i.invariant.1 e) ∙ ap (λ (l : List ℕ). bit_or 0 (bit_xor a (get_or l i 0))) (sym e)
          ∙ ap (bit_or 0) (xor_self a)),
    )

pub returns : goal.returns
returns c =
    let f : List ℕ = c.args.first.now in
    let s : List ℕ = c.args.second.now in
    let i : ℕ = c.loop-i.i in (
      (λ t. sym (take_all i f c.loop-i-test.false) ∙ c.loop-i.invariant.0 (eqb-true c.loop-i.difference 0 t) ∙ take_all i s (omega (arith, c.loop-i-test.false, c.if-first-second.false))),
      (λ e. rw (c.loop-i.invariant.1 e) refl),
    )
