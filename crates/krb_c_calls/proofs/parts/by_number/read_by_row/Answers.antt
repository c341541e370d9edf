use Rattle.std.proofs.Common.{◌∙◌, ap, inl, inr, refl, sym}
use Rattle.krb_c_calls.specs.Statuses.{refusal_status}
use Rattle.krb_c_calls.proofs.parts.by_number.read_by_row.Goals as goal

pub returns-in-Ok : goal.returns-in-Ok
returns-in-Ok c = (
  c.kerberos.result,
  c.in-Some.row,
  _,
  record { table = c.kerberos.ensures; row_is = sym c.row_named.ensures ∙ c.in-Some.is; text = refl; registry = refl },
  inl (refl, c.in-Ok.ensures.encoded),
)

pub returns-in-Err : goal.returns-in-Err
returns-in-Err c = (
  c.kerberos.result,
  c.in-Some.row,
  _,
  record { table = c.kerberos.ensures; row_is = sym c.row_named.ensures ∙ c.in-Some.is; text = refl; registry = refl },
  inr (
    c.in-Err.fault,
    record { none = λ f right is. c.in-Err.ensures.refused (f, right, is); first = c.in-Err.ensures.first_fault },
    c.status-in-Err.ensures.number ∙ ap refusal_status c.from.ensures.0,
  ),
)
