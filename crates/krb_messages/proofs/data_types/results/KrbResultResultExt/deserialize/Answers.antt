use Rattle.std.proofs.Common.{◌⊎◌, inl, inr, rules}
use Rattle.std.proofs.lemmas.Result.{err_from_is_err_and}
use Rattle.std.specs.Prelude.{◌≡◌}
use Rattle.krb_der_core.specs.declared.error.Asn1DerError.TheVariants as errors
use Rattle.krb_messages.proofs.data_types.results.KrbResultResultExt.deserialize.Goals as goal

error_of : {M P : Type 0} → M ⊎ P → (M → ⊥) → P
error_of (inl m) n = absurd (n m)
error_of (inr p) n = p

beside : {M P Q : Type 0} → P → M ⊎ Q → M ⊎ (P × Q)
beside p (inl m) = inl m
beside p (inr q) = inr (p, q)

pub returns-in_err-from_bytes-in-Err-clause-first_error : goal.returns-in_err-from_bytes-in-Err-clause-first_error
returns-in_err-from_bytes-in-Err-clause-first_error g c =
    let p = err_from_is_err_and c.from_residual.result c.from_residual.ensures.1 in
    let other : c.in-Err.field-0 ≡ errors.OutOfMemory → ⊥ = search rules in
    let error = error_of c.in-Err.ensures.first_error other in
    rw (p.1, p.2) (beside (c.in-Err.field-0, error) c.in_err-from_bytes-in-Err.ensures.first_error)

pub returns-in_ok-from_bytes-in-Err : goal.returns-in_ok-from_bytes-in-Err
returns-in_ok-from_bytes-in-Err g c = record {
  valid = c.in_ok-from_bytes-in-Err.ensures.valid;
  found = c.in_ok-from_bytes-in-Err.ensures.found;
  error = search rules;
  reads_value = search rules;
  reads_error = search rules;
  cut = search rules;
  more = search rules;
  no_device = search rules;
  wrong_value = search rules;
  first_error = search rules;
}
