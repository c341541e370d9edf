-- The digests, and their prefix.
use Rattle.std.proofs.Common.{◌≡◌, ℕ, zero, suc, ◌+◌, ◌-◌, ◌≤◌, inl, inr, List, [], ◌∷◌, ◌++◌, length, take, min, refl, sym, ap, ◌∙◌, arith, rules, add-one}
use Rattle.std.proofs.lemmas.Bool.{cases_lt}
use Rattle.std.proofs.lemmas.List.{length-append, append-nil, length-take-le, take-append-le, take_all}
use Rattle.std.proofs.Math.Seq.{take-append-add}
use Rattle.sha1.specs.Sha1.{sha1}
use Rattle.krb_crypto.specs.Agreement.{digests}

pub no_digests : (x : List ℕ) (size : ℕ) → [] ≡ take size (digests x 0)
unfolding digests
no_digests x size = search rules

pub length_none : (x : List ℕ) → length (digests x 0) ≡ 0
unfolding digests
length_none x = refl

pub next_digest : (x : List ℕ) (n : ℕ) → digests x (n + 1) ≡ digests x n ++ sha1 (n ∷ x)
unfolding digests
next_digest x n = rw add-one refl

-- more digests are no shorter
longer : (x : List ℕ) (n k size : ℕ) → size ≤ length (digests x n) → size ≤ length (digests x (n + k))
unfolding digests
longer x n zero size h = let e : n + 0 ≡ n = omega arith in rw e h
longer x n (suc k) size h =
    let e : n + suc k ≡ suc (n + k) = omega arith in
    let more = length-append (digests x (n + k)) (sha1 ((n + k) ∷ x)) in
    let wide = longer x n k size h in
    rw e (omega (arith, more, wide))

-- more digests leave the prefix as it is
pub same_prefix : (x : List ℕ) (size n k : ℕ) → size ≤ length (digests x n) → take size (digests x (n + k)) ≡ take size (digests x n)
unfolding digests
same_prefix x size n zero h = let e : n + 0 ≡ n = omega arith in ap (λ j. take size (digests x j)) e
same_prefix x size n (suc k) h =
    let e : n + suc k ≡ suc (n + k) = omega arith in
    let wide : size ≤ length (digests x (n + k)) = longer x n k size h in
    ap (λ j. take size (digests x j)) e ∙ take-append-le size (digests x (n + k)) (sha1 ((n + k) ∷ x)) wide ∙ same_prefix x size n k h

-- at most 20 of 20 octets
cut_so : (d : List ℕ) (kept m : ℕ) → length d ≡ 20 → kept ≡ min 20 m → take kept d ≡ take m d
cut_so d kept m ld e = elim (cases_lt m 20) [
  | inl lt ↦ let same : kept ≡ m = omega (arith, e, lt) in ap (λ j. take j d) same
  | inr ge ↦ take_all kept d (omega (arith, e, ge, ld)) ∙ sym (take_all m d (omega (arith, ge, ld)))
]

-- the prefix of the digests so far, and as much of the next as it still wants
pub prefix_next : (size : ℕ) (a d prefix : List ℕ) (kept : ℕ) → length d ≡ 20 → prefix ≡ take size a → kept ≡ min 20 (size - length prefix) → prefix ++ take kept d ≡ take size (a ++ d)
prefix_next size a d prefix kept ld e ek = elim (cases_lt (length a) size) [
  | inl lt ↦
      let whole : prefix ≡ a = e ∙ take_all size a (omega (arith, lt)) in
      let n : length prefix ≡ length a = ap length whole in
      let at : size ≡ length a + (size - length a) = omega (arith, lt) in
      let same : take kept d ≡ take (size - length a) d = cut_so d kept (size - length a) ld (omega (arith, n, ek)) in
      ap (λ f. f ++ take kept d) whole ∙ ap (λ k. a ++ k) same ∙ sym (ap (λ j. take j (a ++ d)) at ∙ take-append-add a d (size - length a))
  | inr ge ↦
      let n : length prefix ≡ size = ap length e ∙ length-take-le size a (omega (arith, ge)) in
      let none : kept ≡ 0 = omega (arith, n, ek) in
      ap (λ k. prefix ++ take k d) none ∙ append-nil prefix ∙ e ∙ sym (take-append-le size a d (omega (arith, ge)))
]
