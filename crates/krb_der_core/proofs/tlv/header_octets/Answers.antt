use Rattle.krb_der_core.proofs.Growth.{header_small, header_large, digits_copied}
use Rattle.krb_der_core.proofs.tlv.header_octets.Goals as goal

pub returns-then-n-lt128-clause-octets : goal.returns-then-n-lt128-clause-octets
returns-then-n-lt128-clause-octets c = header_small c.args.tag c.args.n c.if-n-lt128.true

pub returns-clause-octets : goal.returns-clause-octets
returns-clause-octets c =
    let count = c.count_digits-count.ensures.count in
    let digits = digits_copied c.args.n _ c.to_be_bytes-digits.result c.copy_from_slice.new.self count c.count_digits-count.ensures.few c.to_be_bytes-digits.ensures c.copy_from_slice.ensures.after in
    header_large c.args.tag c.args.n c.count_digits-count.result c.copy_from_slice.new.self _ c.if-n-lt128.false count digits
