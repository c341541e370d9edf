-- Passwords behind passwords.
use Rattle.std.proofs.Common.{refl, ◌≡◌, ℕ, List, [], ◌∷◌, ◌++◌, subst, ◌⊎◌, inl, inr}
use Rattle.std.proofs.lemmas.List.{append-nil, append_assoc}
use Rattle.jolmurig.specs.Files.{Gives}
use Rattle.jolmurig.specs.Passwords.{ArePasswords, HasNoPassword, password_gives, pushes}
use Rattle.jolmurig.specs.declared.failure.Failure.{Failure}
use Rattle.jolmurig.specs.declared.failure.Failure.TheVariants as failure

module _ (gives : Gives) where
  -- what the passwords so far are with those of the files that are left, and what their error is
  pub record Continues (rest all : List (List ℕ)) (passwords : List (List ℕ)) : Type 0 where
    pub found : (more : List (List ℕ)) → ArePasswords gives rest more → ArePasswords gives all (passwords ++ more)
    pub none : (e : Failure) → HasNoPassword gives rest e → HasNoPassword gives all e

  -- those of one more
  pub continues_more : (v : List ℕ) (rest behind all : List (List ℕ)) (passwords after : List (List ℕ)) → rest ≡ v ∷ behind → Continues rest all passwords
      → pushes (password_gives gives v) passwords after → Continues behind all after
  continues_more v rest behind all passwords after e h (one, (octets, given, is), p) = record {
    found = λ more are.
        let whole : ArePasswords gives rest (one ∷ more) = rw e (one, more, (octets, given, is), are, refl) in
        rw (p, append_assoc passwords (one ∷ []) more) (h.found (one ∷ more) whole);
    none = λ f later. h.none f (rw e (inr (octets, given, later)));
  }

  -- one is not read
  pub continues_rejected : (v : List ℕ) (rest behind all : List (List ℕ)) (passwords : List (List ℕ)) (f : Failure) → rest ≡ v ∷ behind
      → Continues rest all passwords → (f ≡ failure.Memory) ⊎ HasNoPassword gives (v ∷ []) f → (f ≡ failure.Memory) ⊎ HasNoPassword gives all f
  continues_rejected v rest behind all passwords f e h (inl memory) = inl memory
  continues_rejected v rest behind all passwords f e h (inr (inl unread)) = inr (h.none f (rw e (inl unread)))
  continues_rejected v rest behind all passwords f e h (inr (inr (octets, given, none))) = absurd none

  -- none is left
  pub continues_none : (rest all : List (List ℕ)) (passwords : List (List ℕ)) → rest ≡ [] → Continues rest all passwords
      → ArePasswords gives all passwords
  continues_none rest all passwords e h = subst (ArePasswords gives all) (append-nil passwords) (h.found [] (rw e refl))
