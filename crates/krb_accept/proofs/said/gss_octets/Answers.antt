use Rattle.std.proofs.Common.{◌≡◌, pos, Some, rules}
use Rattle.krb_accept.proofs.said.gss_octets.Goals as goal

pub returns : goal.returns
returns c =
    let is : c.args.checksum.now ≡ Some c.in-Some.checksum = search rules in
    let number : c.in-Some.checksum.cksumtype ≡ pos 32771 = search rules in
    let octets : c.as_slice.result.now ≡ c.in-Some.checksum.checksum = search rules in
    (c.in-Some.checksum, is, number, octets)
