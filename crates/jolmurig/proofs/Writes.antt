-- What was written of what was made.
use Rattle.std.proofs.Common.{◌≡◌, ◌⊎◌, ℕ, List, Option, Result, Ok, Err, MatchResult, IfErr, inl, inr, sym, subst}
use Rattle.std.specs.Result.{IsErrAnd}
use Rattle.std.specs.Io.KnownBytes.{Appends, Keeps}
use Rattle.jolmurig.specs.Outcome.{HasTaken, IsWrittenRun, Outcome}
use Rattle.jolmurig.specs.declared.failure.Failure.{Failure}
use Rattle.jolmurig.specs.declared.failure.Failure.TheVariants.{Write}

module _ (makes : List ℕ → List ℕ → Type 0) (fails : Failure → Type 0) (before after : Option (List ℕ)) where
  -- these were made with these notes, and written
  pub written_with : (made notes : List ℕ) (outcome : Outcome) → makes made notes
      → MatchResult outcome (λ told. (told.items ≡ notes) × Appends before after made) (λ e. (e ≡ Write) × HasTaken made before after)
      → IsWrittenRun makes fails before after outcome
  written_with made notes (Ok told) m (same, all) = (made, subst (makes made) (sym same) m, all)
  written_with made notes (Err e) m (is, some) = inr (is, (made, notes, m, some))

  -- none were made, for this reason
  pub refused : (e : Failure) (outcome : Outcome) → IsErrAnd outcome (λ x. x ≡ e) → Keeps before after → fails e
      → IsWrittenRun makes fails before after outcome
  refused e (Ok told) is kept why = absurd is
  refused e (Err x) is kept why = inl (kept, subst fails (sym is) why)

-- what is true of an error is true of the result that has it
pub of_error : {T : Type 0} (fails : Failure → Type 0) (e : Failure) (r : Result T Failure) → IsErrAnd r (λ x. x ≡ e) → fails e → IfErr r fails
of_error fails e (Ok v) is why = absurd is
of_error fails e (Err x) is why = subst fails (sym is) why

pub either : {A B C D : Type 0} → (A → C) → (B → D) → A ⊎ B → C ⊎ D
either f g (inl a) = inl (f a)
either f g (inr b) = inr (g b)
