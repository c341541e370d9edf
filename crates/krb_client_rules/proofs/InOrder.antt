-- Rules in an order: one answer.
use Rattle.std.proofs.Common.{◌≡◌, ◌∙◌, List, [], ◌∷◌, inl, inr, sym}
use Rattle.krb_client_rules.specs.InOrder.{BreaksFirst, Keeps}
use Rattle.krb_client_rules.specs.declared.mismatch.Mismatch.{Mismatch}

pub not_both : (holds : Mismatch → Type 0) (rules : List Mismatch) (broken : Mismatch) → Keeps holds rules → BreaksFirst holds rules broken → ⊥
not_both holds [] broken kept first = first
not_both holds (rule ∷ rest) broken kept (inl here) = here.1 kept.0
not_both holds (rule ∷ rest) broken kept (inr later) = not_both holds rest broken kept.1 later.1

pub one_first : (holds : Mismatch → Type 0) (rules : List Mismatch) (one other : Mismatch) → BreaksFirst holds rules one → BreaksFirst holds rules other
    → one ≡ other
one_first holds [] one other first second = absurd first
one_first holds (rule ∷ rest) one other (inl here) (inl there) = here.0 ∙ sym there.0
one_first holds (rule ∷ rest) one other (inl here) (inr later) = absurd (here.1 later.0)
one_first holds (rule ∷ rest) one other (inr later) (inl there) = absurd (there.1 later.0)
one_first holds (rule ∷ rest) one other (inr first) (inr second) = one_first holds rest one other first.1 second.1
