-- Whole runs, from what holds of each step.
use Rattle.std.proofs.Common.{◌≡◌, ℕ, ◌+◌, ◌≤◌, List, [], ◌∷◌, Option, Some, None, sym, ap, subst, ◌∙◌, arith}
use Rattle.krb_client.specs.Runs.{Runs, Sent, last_sent, sent_by}

-- nothing is both there and not
pub clash : {A : Type 0} (o : Option A) (x : A) → o ≡ None → o ≡ Some x → ⊥
clash o x none some = let not : None ≡ Some x = sym none ∙ some in cc

-- 1 where nothing is there
abbrev pub unset : {A : Type 0} → Option A → ℕ
unset None = 1
unset (Some x) = 0

pub unset_most : {A : Type 0} (o : Option A) → unset o ≤ 1
unset_most None = omega arith
unset_most (Some x) = omega arith

module _ {E C : Type 0} (steps : E → C → E → Type 0) where
  -- where each request uses up one of those that are left, they are no more than were left
  pub run_count : (sent : C → ℕ) (left : E → ℕ) → ((e : E) (call : C) (next : E) → steps e call next → sent call + left next ≡ left e)
      → (e : E) (calls : List C) (after : E) → Runs steps e calls after → sent_by sent calls + left after ≡ left e
  run_count sent left one e [] after run = let same : left after ≡ left e = ap left run in omega (arith, same)
  run_count sent left one e (call ∷ calls) after run =
      let first : sent call + left run.0 ≡ left e = one e call run.0 run.1.0 in
      let rest : sent_by sent calls + left after ≡ left run.0 = run_count sent left one run.0 calls after run.1.1 in
      omega (arith, first, rest)

  -- what each step keeps, a run keeps
  pub run_keeps : (fact : E → Type 0) → ((e : E) (call : C) (next : E) → steps e call next → fact e → fact next)
      → (e : E) (calls : List C) (after : E) → Runs steps e calls after → fact e → fact after
  run_keeps fact one e [] after run h = subst fact (sym run) h
  run_keeps fact one e (call ∷ calls) after run h = run_keeps fact one run.0 calls after run.1.1 (one e call run.0 run.1.0 h)

  -- what holds of an exchange and its last request after each step, holds after a run
  pub run_last : (after_call : Sent → C → Sent) (fact : E → Sent → Type 0)
      → ((e : E) (sent : Sent) (call : C) (next : E) → fact e sent → steps e call next → fact next (after_call sent call))
      → (e : E) (sent : Sent) (calls : List C) (after : E) → fact e sent → Runs steps e calls after → fact after (last_sent after_call sent calls)
  run_last after_call fact one e sent [] after h run = subst (λ x. fact x sent) (sym run) h
  run_last after_call fact one e sent (call ∷ calls) after h run =
      run_last after_call fact one run.0 (after_call sent call) calls after (one e sent call run.0 h run.1.0) run.1.1
