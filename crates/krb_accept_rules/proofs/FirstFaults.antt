-- Rules in an order.
use Rattle.std.proofs.Common.{◌≡◌, inl, inr, ℤ, Option, List, [], ◌∷◌, ◌++◌}
use Rattle.krb_accept_rules.specs.FirstFault.{BreaksFirst, Keeps, OrMemory, RefusesFirst}
use Rattle.krb_accept_rules.specs.declared.refusal.Refusal.{Refusal}
use Rattle.krb_accept_rules.specs.declared.refusal.Rule.{Rule}

-- two rows of rules that hold are one
pub keeps_both : (holds : Rule → Type 0) (first second : List Rule) → Keeps holds first → Keeps holds second → Keeps holds (first ++ second)
keeps_both holds [] second h k = k
keeps_both holds (rule ∷ rest) second (p, h) k = (p, keeps_both holds rest second h k)

-- the first fault in the first row is that of both
pub breaks_in_first : (holds : Rule → Type 0) (first second : List Rule) (e : Rule) → BreaksFirst holds first e → BreaksFirst holds (first ++ second) e
breaks_in_first holds [] second e b = absurd b
breaks_in_first holds (rule ∷ rest) second e (inl b) = inl b
breaks_in_first holds (rule ∷ rest) second e (inr b) = inr (b.0, breaks_in_first holds rest second e b.1)

-- and that in the second is, where the first holds
pub breaks_in_second : (holds : Rule → Type 0) (first second : List Rule) (e : Rule) → Keeps holds first → BreaksFirst holds second e → BreaksFirst holds (first ++ second) e
breaks_in_second holds [] second e k b = b
breaks_in_second holds (rule ∷ rest) second e (p, k) b = inr (p, breaks_in_second holds rest second e k b)

-- rules that hold have no first fault
pub keeps_all : (holds : Rule → Type 0) (rules : List Rule) (e : Rule) → Keeps holds rules → BreaksFirst holds rules e → ⊥
keeps_all holds [] e k b = b
keeps_all holds (rule ∷ rest) e (p, k) (inl b) = b.1 p
keeps_all holds (rule ∷ rest) e (p, k) (inr b) = keeps_all holds rest e k b.1

-- and there is one first fault
pub one_fault : (holds : Rule → Type 0) (rules : List Rule) (e d : Rule) → BreaksFirst holds rules e → BreaksFirst holds rules d → e ≡ d
one_fault holds [] e d b c = absurd b
one_fault holds (rule ∷ rest) e d (inl b) (inl c) = cc
one_fault holds (rule ∷ rest) e d (inl b) (inr c) = absurd (b.1 c.0)
one_fault holds (rule ∷ rest) e d (inr b) (inl c) = absurd (c.1 b.0)
one_fault holds (rule ∷ rest) e d (inr b) (inr c) = one_fault holds rest e d b.1 c.1

module _ (holds : Rule → Type 0) (shows : Rule → Option ℤ → Type 0) (first second : List Rule) (e : Refusal) where
  -- the first refusal in the first row is that of both
  pub refuses_in_first : RefusesFirst holds shows first e → RefusesFirst holds shows (first ++ second) e
  refuses_in_first r = (breaks_in_first holds first second e.rule r.0, r.1)

  -- and that in the second is, where the first holds
  pub refuses_in_second : Keeps holds first → RefusesFirst holds shows second e → RefusesFirst holds shows (first ++ second) e
  refuses_in_second k r = (breaks_in_second holds first second e.rule k r.0, r.1)

  -- and so where memory may have been wanting
  pub or_memory_in_second : Keeps holds first → OrMemory (RefusesFirst holds shows second) e → OrMemory (RefusesFirst holds shows (first ++ second)) e
  or_memory_in_second k (inl m) = inl m
  or_memory_in_second k (inr r) = inr (refuses_in_second k r)

-- where memory was wanting, or this, and that follows
pub or_memory : (refuses other : Refusal → Type 0) (e : Refusal) → (refuses e → other e) → OrMemory refuses e → OrMemory other e
or_memory refuses other e f (inl m) = inl m
or_memory refuses other e f (inr r) = inr (f r)

module _ (holds : Rule → Type 0) (shows : Rule → Option ℤ → Type 0) (a b c d : List Rule) (e : Refusal) where
  -- the first refusal in the third row of four, where the two before it hold
  pub third_refuses : Keeps holds a → Keeps holds b → RefusesFirst holds shows c e → RefusesFirst holds shows (a ++ (b ++ (c ++ d))) e
  third_refuses h k r =
      refuses_in_second holds shows a (b ++ (c ++ d)) e h (refuses_in_second holds shows b (c ++ d) e k (refuses_in_first holds shows c d e r))

  -- and that in the last
  pub last_refuses : Keeps holds a → Keeps holds b → Keeps holds c → RefusesFirst holds shows d e → RefusesFirst holds shows (a ++ (b ++ (c ++ d))) e
  last_refuses h k l r =
      refuses_in_second holds shows a (b ++ (c ++ d)) e h (refuses_in_second holds shows b (c ++ d) e k (refuses_in_second holds shows c d e l r))
