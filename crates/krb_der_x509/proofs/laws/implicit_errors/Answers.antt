use Rattle.std.proofs.Common.{◌↔◌, ◌==◌, ◌+◌, ℕ, min, subst}
use Rattle.std.proofs.Math.Nat.{min-eq_left}
use Rattle.krb_der_core.specs.Errors.{PrefixError, TaggedError}
use Rattle.krb_der_x509.proofs.laws.implicit_errors.Goals as goal

pub returns-clause-field : goal.returns-clause-field
returns-clause-field g c = λ small octets e.
    let m = min g.row.N 30 in
    let error = g.T.DerEncode.error g.T.DerPrimitive.tag in
    subst (λ (k : ℕ). PrefixError (λ t. t == 128 + m) (TaggedError (128 + m) error) octets e ↔ PrefixError (λ t. t == 128 + k) (TaggedError (128 + k) error) octets e) (min-eq_left small) (λ f. f, λ f. f)
