use Rattle.std.proofs.Common.{length, ap, arith}
use Rattle.krb_files.proofs.Joined.{counted_alone}
use Rattle.krb_files.proofs.keytab.writing.record_of.Goals as goal

pub returns-clause-ok : goal.returns-clause-ok
returns-clause-ok c =
    let len = ap length c.in_ok-body.ensures.octets in (
      counted_alone 4 _ _ _ _ _ c.new-record.ensures.items c.deref.ensures.value c.in_ok-body.ensures.octets c.in_ok-push_counted.ensures.ok,
      ((c.in_ok-body.ensures.fits.0, omega (arith, len, c.len.ensures, c.if-len-ge2147483648.false)), c.in_ok-body.ensures.fits.1),
    )
