use Rattle.std.proofs.Common.{◌≡◌, true, rules}
use Rattle.krb_pac.proofs.Fill.{buffer_put}
use Rattle.krb_pac.proofs.buffer.PacBuffer.serialize.Goals as goal

pub returns-clause-put : goal.returns-clause-put
returns-clause-put c =
    let yes : c.has_room.result ≡ true = search rules in
    buffer_put c.args.out.now c.put_buffer.new.out c.args.position.now c.args.self.now (c.has_room.ensures.yes yes) c.put_buffer.ensures.put
