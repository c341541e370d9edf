-- Many tokens, one after another.
use Rattle.std.proofs.Common.{◌≡◌, ◌⊎◌, inl, inr, ℕ, ◌<◌, ◌≤◌, true, false, List, [], ◌∷◌, refl, sym, ◌∙◌, ap, subst, arith, true≢false}
use Rattle.krb_gss_per_message.specs.Sequence.{Arrival, AreTaken, Becomes, IsLate, IsOrder, IsTaken, NeverTaken, Takes, WasTaken, Window, has, next}
use Rattle.krb_gss_per_message.specs.declared.sequence.Order.{Order}
use Rattle.krb_gss_per_message.specs.declared.sequence.Order.TheVariants as order

-- the number is behind, and it is known to be taken as long as it is not too old
record IsBehind (w : Window) (number : ℕ) : Type 0 where
  below : number < next w
  known : IsLate w number → has w number ≡ true

grows : (old new : Window) (m : ℕ) → Takes old m new → next old ≤ next new
grows old new m takes = grind (arith, takes.highest.0, takes.highest.1)

-- it stays so
stays_taken : (old new : Window) (m n : ℕ) → Takes old m new → IsBehind old n → IsBehind new n
stays_taken old new m n takes behind =
    let more : next old ≤ next new = grows old new m takes in
    record {
      below = omega (arith, behind.below, more);
      known = λ late. takes.keeps n late (inl (behind.known (subst (λ f. f ≤ n) takes.first late.0, behind.below, omega (arith, more, late.2))));
    }

same_behind : (old new : Window) (n : ℕ) → new ≡ old → IsBehind old n → IsBehind new n
same_behind old new n e behind = subst (λ w. IsBehind w n) (sym e) behind

stays : (old new : Window) (was : Order) (m n : ℕ) → Becomes was old m new → IsBehind old n → IsBehind new n
stays old new order.InOrder m n becomes behind = stays_taken old new m n becomes behind
stays old new order.Gap m n becomes behind = stays_taken old new m n becomes behind
stays old new order.OutOfOrder m n becomes behind = stays_taken old new m n becomes behind
stays old new order.Replayed m n becomes behind = same_behind old new n becomes behind
stays old new order.Old m n becomes behind = same_behind old new n becomes behind

-- it is not taken then
not_now : (w : Window) (was : Order) (n : ℕ) → IsBehind w n → IsOrder w n was → IsTaken was → ⊥
not_now w order.InOrder n behind is taken = omega (arith, behind.below, is)
not_now w order.Gap n behind is taken = omega (arith, behind.below, is)
not_now w order.OutOfOrder n behind is taken = true≢false (sym (behind.known is.0) ∙ is.1)
not_now w order.Replayed n behind is taken = taken
not_now w order.Old n behind is taken = taken

not_now_at : (w : Window) (was : Order) (m n : ℕ) → IsBehind w n → IsOrder w m was → m ≡ n → IsTaken was → ⊥
not_now_at w was m n behind is e taken = not_now w was n behind (subst (λ k. IsOrder w k was) e is) taken

never : (rest : List Arrival) (w new : Window) (n : ℕ) → IsBehind w n → AreTaken w rest new → NeverTaken n rest
never [] w new n behind run = tt
never (a ∷ rest) w new n behind run =
    (λ e taken. not_now_at w a.was a.number n behind run.1 e taken, never rest run.0 new n (stays w run.0 a.was a.number n run.2 behind) run.3)

-- what was just taken is behind
just_taken : (old new : Window) (n : ℕ) → Takes old n new → IsBehind new n
just_taken old new n takes = record { below = grind (arith, takes.highest.0, takes.highest.1); known = λ late. takes.keeps n late (inr refl) }

behind_of : (old new : Window) (was : Order) (n : ℕ) → Becomes was old n new → IsTaken was → IsBehind new n
behind_of old new order.InOrder n becomes taken = just_taken old new n becomes
behind_of old new order.Gap n becomes taken = just_taken old new n becomes
behind_of old new order.OutOfOrder n becomes taken = just_taken old new n becomes
behind_of old new order.Replayed n becomes taken = absurd taken
behind_of old new order.Old n becomes taken = absurd taken

pub never_again : (old between new : Window) (number : ℕ) (was : Order) (rest : List Arrival) → IsOrder old number was → IsTaken was
    → Becomes was old number between → AreTaken between rest new → NeverTaken number rest
never_again old between new number was rest is taken becomes run = never rest between new number (behind_of old between was number becomes taken) run

-- ---- what is replayed was taken

-- what is known behind these was known before, or taken among them
known_taken : (old new : Window) (was : Order) (m n : ℕ) → Becomes was old m new → has new n ≡ true → (has old n ≡ true) ⊎ ((m ≡ n) × IsTaken was)
known_taken old new order.InOrder m n becomes there = elim (becomes.only n there) [ inl before ↦ inl before | inr e ↦ inr (sym e, tt) ]
known_taken old new order.Gap m n becomes there = elim (becomes.only n there) [ inl before ↦ inl before | inr e ↦ inr (sym e, tt) ]
known_taken old new order.OutOfOrder m n becomes there = elim (becomes.only n there) [ inl before ↦ inl before | inr e ↦ inr (sym e, tt) ]
known_taken old new order.Replayed m n becomes there = inl (sym (ap (λ w. has w n) becomes) ∙ there)
known_taken old new order.Old m n becomes there = inl (sym (ap (λ w. has w n) becomes) ∙ there)

known : (before : List Arrival) (old new : Window) (n : ℕ) → AreTaken old before new → has new n ≡ true → (has old n ≡ true) ⊎ WasTaken n before
known [] old new n run there = inl (sym (ap (λ w. has w n) run) ∙ there)
known (a ∷ rest) old new n run there = elim (known rest run.0 new n run.3 there) [
  | inl between ↦ elim (known_taken old run.0 a.was a.number n run.2 between) [ inl first ↦ inl first | inr now ↦ inr (inl now) ]
  | inr later ↦ inr (inr later)
]

pub replayed_was_taken : (old new : Window) (number : ℕ) (before : List Arrival) → ((n : ℕ) → has old n ≡ false) → AreTaken old before new
    → IsOrder new number order.Replayed → WasTaken number before
replayed_was_taken old new number before none run is = elim (known before old new number run is.1) [
  | inl there ↦ absurd (true≢false (sym there ∙ none number))
  | inr taken ↦ taken
]
