-- Keys behind keys.
use Rattle.std.proofs.Common.{refl, ◌≡◌, ℕ, ◌+◌, List, [], ◌∷◌, ◌++◌, subst, inl, inr}
use Rattle.std.proofs.lemmas.List.{append-nil, append_assoc}
use Rattle.krb_decrypt.specs.Keys.{NamedKey}
use Rattle.jolmurig.specs.Files.{Gives}
use Rattle.jolmurig.specs.Keys.{AreKeys, HasNoKeys, IsNoSource, adds, gives_keys}
use Rattle.jolmurig_command.specs.Shows.{Source}
use Rattle.jolmurig.specs.declared.failure.Failure.{Failure}

module _ (gives : Gives) where
  -- what the keys so far are with those of the options that are left, numbered from this on, and what their error is
  pub record Continues (number : ℕ) (rest all : List Source) (keys : List NamedKey) : Type 0 where
    pub found : (more : List NamedKey) → AreKeys gives number rest more → AreKeys gives 1 all (keys ++ more)
    pub none : (e : Failure) → HasNoKeys gives number rest e → HasNoKeys gives 1 all e

  -- those of one more
  pub continues_more : (number : ℕ) (s : Source) (rest behind all : List Source) (keys after : List NamedKey) → rest ≡ s ∷ behind
      → Continues number rest all keys → adds (gives_keys gives number s) keys after → Continues (number + 1) behind all after
  continues_more number s rest behind all keys after e h (mine, is, p) = record {
    found = λ more are.
        let whole : AreKeys gives number rest (mine ++ more) = rw e (mine, more, is, are, refl) in
        rw (p, append_assoc keys mine more) (h.found (mine ++ more) whole);
    none = λ f later. h.none f (rw e (inr (mine, is, later)));
  }

  -- none is left
  pub continues_none : (number : ℕ) (rest all : List Source) (keys : List NamedKey) → rest ≡ [] → Continues number rest all keys
      → AreKeys gives 1 all keys
  continues_none number rest all keys e h = subst (AreKeys gives 1 all) (append-nil keys) (h.found [] (rw e refl))

  -- one has none
  pub continues_rejected : (number : ℕ) (s : Source) (rest behind all : List Source) (keys : List NamedKey) (f : Failure) → rest ≡ s ∷ behind
      → Continues number rest all keys → IsNoSource gives number s f → HasNoKeys gives 1 all f
  continues_rejected number s rest behind all keys f e h none = h.none f (rw e (inl none))
