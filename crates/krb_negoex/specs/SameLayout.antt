-- Layouts that say the same of octets, and lay the same.
use Rattle.std.specs.Prelude.{◌≡◌, ◌↔◌, ℕ, List}
use Rattle.std.proofs.Common.{refl}
use Rattle.std.specs.declared.io.Error.{Error}
use Rattle.krb_negoex.specs.Layouts.{Layout}

-- all but the laws, which follow
pub record SameLayout {A : Type 0} (k l : Layout A) : Type 0 where
  pub width : k.width ≡ l.width
  pub part : (f m : List ℕ) (v : A) → k.part f m v ↔ l.part f m v
  pub same : (v w : A) → k.same v w ↔ l.same v w
  pub fixed : (o : ℕ) (v : A) → k.fixed o v ≡ l.fixed o v
  pub payload : (o : ℕ) (v : A) → k.payload o v ≡ l.payload o v
  pub payload_size : (v : A) → k.payload_size v ≡ l.payload_size v
  pub after : (o : ℕ) (v : A) → k.after o v ≡ l.after o v
  pub laid : (o : ℕ) (v : A) → k.laid o v ↔ l.laid o v
  pub readable : (v : A) → k.readable v ↔ l.readable v
  pub rejects : (f m : List ℕ) (e : Error) → k.rejects f m e ↔ l.rejects f m e

pub same_layout : {A : Type 0} (l : Layout A) → SameLayout l l
same_layout l = record {
  width = refl;
  part = λ f m v. (λ x. x, λ x. x);
  same = λ v w. (λ x. x, λ x. x);
  fixed = λ o v. refl;
  payload = λ o v. refl;
  payload_size = λ v. refl;
  after = λ o v. refl;
  laid = λ o v. (λ x. x, λ x. x);
  readable = λ v. (λ x. x, λ x. x);
  rejects = λ f m e. (λ x. x, λ x. x);
}
