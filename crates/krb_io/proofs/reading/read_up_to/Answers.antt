use Rattle.krb_io.proofs.Transfers.{prefix_read}
use Rattle.krb_io.proofs.reading.read_up_to.Goals as goal

pub returns-clause-octets : goal.returns-clause-octets
returns-clause-octets g c =
    let read = rw c.new-octets.ensures.items at c.in_ok-read_onto.ensures.octets in
    prefix_read c.in_ok-read_onto.field-0 c.args.count c.read_onto.new.out.items _ _ read c.in_ok-read_onto.ensures.within c.in_ok-read_onto.ensures.end
