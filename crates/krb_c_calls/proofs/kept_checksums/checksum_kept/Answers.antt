use Rattle.std.proofs.Common.{sym, subst}
use Rattle.krb_c_calls.specs.KeptChecksums.{IsSumOfKept}
use Rattle.krb_c_calls.proofs.KeptSums.{summed_again}
use Rattle.krb_c_calls.proofs.kept_checksums.checksum_kept.Goals as goal

pub returns-in-Ok-clause-kept : goal.returns-in-Ok-clause-kept
returns-in-Ok-clause-kept c key usage h =
    let sum = subst (IsSumOfKept c.args.kept.now c.args.message.now) (sym c.as_slice.ensures) c.in-Ok.ensures in
    (c.as_slice.result.now, summed_again c.args.kept.now c.args.message.now c.as_slice.result.now sum key usage h, c.put.ensures)
