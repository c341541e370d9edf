use Rattle.std.proofs.Common.{ap, ◌∙◌, arith}
use Rattle.krb_files.specs.KeytabReading.{in_record}
use Rattle.krb_files.proofs.Records.{record_live, entry_and}
use Rattle.krb_files.proofs.keytab.record.record_at.Goals as goal

pub returns-in-Ok-entry_of : goal.returns-in-Ok-entry_of
returns-in-Ok-entry_of c =
    record_live c.args.octets.now c.in-Ok.len c.in-Ok.rest.now c.in_ok-record.record.now c.in_ok-record.after.now c.in-Ok.ensures (omega (arith, c.if-len-ge2147483648.false)) c.in_ok-record.ensures
    ∙ ap (λ r. entry_and (in_record r) c.in_ok-record.after.now) c.in-Ok-entry_of.ensures

pub returns-in-Err : goal.returns-in-Err
returns-in-Err c =
    record_live c.args.octets.now c.in-Ok.len c.in-Ok.rest.now c.in_ok-record.record.now c.in_ok-record.after.now c.in-Ok.ensures (omega (arith, c.if-len-ge2147483648.false)) c.in_ok-record.ensures
    ∙ ap (λ r. entry_and (in_record r) c.in_ok-record.after.now) c.in-Err.ensures
