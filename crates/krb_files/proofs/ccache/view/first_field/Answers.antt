use Rattle.std.proofs.Common.{arith}
use Rattle.krb_files.specs.FieldReading.{typed_at}
use Rattle.krb_files.specs.FieldWritten.{typed_octets, FitsTyped}
use Rattle.krb_files.proofs.Credentials.{fields}
use Rattle.krb_files.proofs.CcacheSteps.{first_shown, none_shown, error_shown}
use Rattle.krb_files.proofs.ccache.view.first_field.Goals as goal

pub returns-then-is_empty : goal.returns-then-is_empty
returns-then-is_empty c = none_shown (typed_at 2) c.args.octets.now c.if-is_empty.ensures

pub returns-in-Ok : goal.returns-in-Ok
returns-in-Ok c =
    first_shown (typed_at 2) (typed_octets 2) (FitsTyped 2) fields c.args.octets.now c.in-Ok.field c.in-Ok.after.now (λ i. omega (arith, c.type_inv.octets i)) c.if-is_empty.ensures c.in-Ok.ensures

pub returns-in-Err : goal.returns-in-Err
returns-in-Err c = error_shown (typed_at 2) c.args.octets.now c.in-Err.field-0 c.if-is_empty.ensures c.in-Err.ensures
