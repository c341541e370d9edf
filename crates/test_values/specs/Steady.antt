-- The toy keeps its names, and is established once it waits for no token.
use Rattle.std.proofs.Common.{◌≡◌, ◌∙◌, ℕ, zero, suc, Bool, true, false, refl, sym, ap, subst}
use Rattle.std.specs.Prelude.{nat_eq}
use Rattle.std.specs.Cmp.Lexicographic.{pointwise}
use Rattle.krb_spnego_rules.specs.Decisions.{continues}
use Rattle.krb_spnego_rules.specs.Meaning.{IsSteady}
use Rattle.test_values.specs.Toy.{is_mic, less, progress_at, toy_meaning}

abbrev IsYes : Bool → Type 0
IsYes true = Unit {0}
IsYes false = ⊥

true_false : true ≡ false → ⊥
true_false e = subst IsYes e tt

none_left : (left : ℕ) → continues (progress_at left) ≡ false → less left ≡ zero
none_left zero e = refl
none_left (suc zero) e = refl
none_left (suc (suc n)) e = absurd (true_false e)

pub toy_steady : IsSteady toy_meaning
toy_steady = record {
  oid_by_steps = λ a token b turn s. ap (λ t. t.arcs.items) s.0;
  names_by_steps = λ a token b turn s arcs. ap (λ t. pointwise nat_eq arcs t.arcs.items) s.0;
  established_by_steps = λ a token b turn s e. ap (λ t. t.left) s.0 ∙ none_left _ (sym (ap continues s.1) ∙ e);
  oid_by_makes = λ a text mic b s. ap (λ t. t.arcs.items) s.0;
  names_by_makes = λ a text mic b s arcs. ap (λ t. pointwise nat_eq arcs t.arcs.items) s.0;
  established_by_makes = λ a text mic b s e. ap (λ t. t.left) s.0 ∙ e;
  holds_by_makes = λ a text mic b s other peer e. ap (λ t. is_mic t.key other peer) s.0 ∙ e;
}
