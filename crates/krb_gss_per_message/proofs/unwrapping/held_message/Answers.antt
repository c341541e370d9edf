use Rattle.std.proofs.Common.{ℕ, Bool, List, IfOk, IfErr, subst, sym}
use Rattle.krb_gss_per_message.specs.Unwrap.{Holds, IsSealedDataOf, IsClearDataOf}
use Rattle.krb_gss_per_message.specs.UnwrapSteps.{RefusesData, RefusesSealedData, RefusesClearData, ReturnsOctets}
use Rattle.krb_gss_per_message.proofs.unwrapping.held_message.Goals as goal

pub returns-then-sealed : goal.returns-then-sealed
returns-then-sealed c =
    let key = c.args.key.now in
    let x : ℕ = c.args.extra_count in
    let n : ℕ = c.args.sequence_number in
    let f : ℕ = c.args.flags in
    let r = c.sealed_message.result in
    let octets : List ℕ = c.args.octets.items in
    let h = c.header_of-header.ensures in
    let d = c.deref.ensures.value in
    let mark = sym c.if-sealed.true in
    let e = c.sealed_message.ensures in
    record {
      held = subst (λ (s : Bool). IfOk r (λ m. Holds s key f x n octets m.items)) mark
          (subst (λ (xs : List ℕ). IfOk r (λ m. IsSealedDataOf key x xs octets m.items)) h
          (subst (λ (xs : List ℕ). IfOk r (λ m. IsSealedDataOf key x c.header_of-header.result xs m.items)) d e.message));
      refused = subst (λ (s : Bool). IfErr r (RefusesData s key f x n octets)) mark
          (subst (λ (xs : List ℕ). IfErr r (RefusesSealedData key x xs octets)) h
          (subst (λ (xs : List ℕ). IfErr r (RefusesSealedData key x c.header_of-header.result xs)) d e.refused));
      only = subst (λ (s : Bool). (message : List ℕ) → Holds s key f x n octets message → ReturnsOctets message r) mark
          (subst (λ (xs : List ℕ). (message : List ℕ) → IsSealedDataOf key x xs octets message → ReturnsOctets message r) h
          (subst (λ (xs : List ℕ). (message : List ℕ) → IsSealedDataOf key x c.header_of-header.result xs message → ReturnsOctets message r) d e.only));
    }

pub returns-else-sealed : goal.returns-else-sealed
returns-else-sealed c =
    let key = c.args.key.now in
    let x : ℕ = c.args.extra_count in
    let n : ℕ = c.args.sequence_number in
    let f : ℕ = c.args.flags in
    let r = c.clear_message.result in
    let octets : List ℕ = c.args.octets.items in
    let h = c.header_of-header-else-sealed.ensures in
    let mark = sym c.if-sealed.false in
    let e = c.clear_message.ensures in
    record {
      held = subst (λ (s : Bool). IfOk r (λ m. Holds s key f x n octets m.items)) mark
          (subst (λ (xs : List ℕ). IfOk r (λ m. IsClearDataOf key x xs octets m.items)) h e.message);
      refused = subst (λ (s : Bool). IfErr r (RefusesData s key f x n octets)) mark
          (subst (λ (xs : List ℕ). IfErr r (RefusesClearData key x xs octets)) h e.refused);
      only = subst (λ (s : Bool). (message : List ℕ) → Holds s key f x n octets message → ReturnsOctets message r) mark
          (subst (λ (xs : List ℕ). (message : List ℕ) → IsClearDataOf key x xs octets message → ReturnsOctets message r) h e.only);
    }
