use Rattle.std.proofs.Common.{arith}
use Rattle.krb_kdc_proxy.proofs.Framing.{begins}
use Rattle.krb_kdc_proxy.proofs.frame.begins_as_frame.Goals as goal

pub returns-then-length-octets : goal.returns-then-length-octets
returns-then-length-octets c =
    begins c.args.direction c.args.octets.now c.from_be_bytes-length.result c.is_version.result (λ i. omega (arith, c.type_inv.octets i)) c.if-octets-lt4.false
    c.from_be_bytes-length.ensures c.if-length-octets.true c.from_be_bytes-length.type_inv c.is_version.ensures
