-- Two contexts of the toy fit together: they have one key, and as many tokens to exchange.
use Rattle.std.proofs.Common.{◌≡◌, ◌∙◌, ◌∷◌, [], ◌==◌, ◌&&◌, ℕ, zero, suc, List, true, Option, Some, None, refl, sym, ap, subst, arith}
use Rattle.std.proofs.lemmas.Bool.Decides.{nat_tests}
use Rattle.std.specs.Prelude.{is_some, nat_eq}
use Rattle.std.specs.Cmp.Lexicographic.{pointwise}
use Rattle.krb_spnego_rules.specs.Fields.{items_in}
use Rattle.krb_spnego_rules.specs.HonestEngines.{Goes, IsHalf, IsPair}
use Rattle.krb_spnego_rules.specs.Runs.{left_after, progress_of}
use Rattle.krb_spnego_rules.specs.Turns.{progress_in, token_in}
use Rattle.krb_spnego_rules.specs.declared.mechanism.Turn.{Turn}
use Rattle.krb_spnego_rules.specs.declared.mechanism.Turn.TheVariants as turns
use Rattle.test_values.specs.Toy.{is_mic, left_at, less, progress_at, toy_meaning}
use Rattle.test_values.specs.declared.toy.Toy.{Toy}

-- the tokens that a context has not seen yet: those that are still to be sent, and one that came
abbrev pub unseen : ℕ → Option (List ℕ) → ℕ
unseen left None = left
unseen left (Some token) = suc left

-- it is x's turn: so many tokens are still to be sent, the next one by x, to which this one of y came
abbrev pub Fits : ℕ → Option (List ℕ) → Toy → Toy → Type 0
Fits left token x y = (x.key ≡ y.key) × ((x.left ≡ unseen left token) × (y.left ≡ left))

-- it is y's turn
abbrev pub FitsOther : ℕ → Option (List ℕ) → Toy → Toy → Type 0
FitsOther left token x y = Fits left token y x

zero_suc : (n : ℕ) → zero ≡ suc n → ⊥
zero_suc n e = cc

-- a context with something to do has tokens left
has_some : (left : ℕ) (token : Option (List ℕ)) → Goes left token → zero ≡ unseen left token → ⊥
has_some left (Some token) goes e = zero_suc left e
has_some zero None goes e = cc
has_some (suc left) None goes e = zero_suc left e

seen : (left : ℕ) (token : Option (List ℕ)) (n : ℕ) → n ≡ unseen left token → left_at (is_some token) n ≡ left
seen left None n e = e
seen left (Some token) n e = ap less e

same_progress : (left : ℕ) → progress_at left ≡ progress_of left
same_progress zero = refl
same_progress (suc zero) = refl
same_progress (suc (suc n)) = refl

same_less : (left : ℕ) → less left ≡ left_after left
same_less zero = refl
same_less (suc n) = refl

-- what the other side has not seen after a turn
left_is : (left : ℕ) (turn : Turn) → progress_in turn ≡ progress_of left → left ≡ unseen (left_after left) (items_in (token_in turn))
left_is zero (turns.Continues token) e = cc
left_is (suc zero) (turns.Continues token) e = cc
left_is (suc (suc n)) (turns.Continues token) e = refl
left_is zero (turns.EndsWithToken token) e = cc
left_is (suc zero) (turns.EndsWithToken token) e = refl
left_is (suc (suc n)) (turns.EndsWithToken token) e = cc
left_is zero turns.Ends e = refl
left_is (suc zero) turns.Ends e = cc
left_is (suc (suc n)) turns.Ends e = cc

same_number : (n : ℕ) → (n == n) ≡ true
same_number n = grind (arith, nat_tests)

same_octets : (xs : List ℕ) → pointwise nat_eq xs xs ≡ true
same_octets [] = refl
same_octets (x ∷ xs) = ap (λ b. b && pointwise nat_eq xs xs) (same_number x) ∙ same_octets xs

own_mic : (key : ℕ) (text : List ℕ) → is_mic key text (key ∷ text) ≡ true
own_mic key text = ap (λ b. b && pointwise nat_eq text text) (same_number key) ∙ same_octets text

turns_of : (left : ℕ) (token : Option (List ℕ)) (x : Toy) (y : Toy) (after : Toy) (turn : Turn) → Goes left token → Fits left token x y
    → toy_meaning.steps x token after turn
    → (progress_in turn ≡ progress_of left) × FitsOther (left_after left) (items_in (token_in turn)) after y
turns_of left token x y after turn goes fits s =
    let n : left_at (is_some token) x.left ≡ left = seen left token x.left fits.1.0 in
    let p : progress_in turn ≡ progress_of left = s.1 ∙ (ap progress_at n ∙ same_progress left) in
    (p, (sym fits.0 ∙ sym (ap (λ t. t.key) s.0), (fits.1.1 ∙ left_is left turn p, ap (λ t. t.left) s.0 ∙ (ap less n ∙ same_less left))))

half : IsHalf toy_meaning toy_meaning Fits FitsOther
half = record {
  takes = λ left token x y goes fits refused. has_some left token goes (sym refused ∙ fits.1.0);
  turns = turns_of;
  rests = λ x y fits. (sym fits.0, (fits.1.1, fits.1.0));
  makes = λ left token x y text mic after fits made. subst (λ t. Fits left token y t) (sym made.0) fits;
  verifies = λ x y before text mic made fits.
      ap (is_mic x.key text) (made.1 ∙ ap (λ k. k ∷ text) (sym (ap (λ t. t.key) made.0) ∙ fits.0)) ∙ own_mic x.key text;
}

pub toy_pair : IsPair toy_meaning toy_meaning Fits FitsOther
toy_pair = record { x_half = half; y_half = half }
