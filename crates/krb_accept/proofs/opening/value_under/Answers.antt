use Rattle.std.proofs.Common.{sym, to_z-of_z}
use Rattle.krb_accept.proofs.Seals.{given_of, sealed_of}
use Rattle.krb_accept.proofs.opening.value_under.Goals as goal

pub returns-in-Ok : goal.returns-in-Ok
returns-in-Ok g c =
    let fits = c.ranges.usage in
    let prepared = simp to_z-of_z at c.in-Some.ensures.some in
    let same = c.in-Some.ensures.none in
    record {
      holds = (
        c.in-Ok.ensures.valid,
        sealed_of c.args.suite.now c.args.key.now c.args.usage c.args.octets.now (g.T.DerEncode.enc c.in-Ok.value) c.in-Some.prepared same prepared
            (c.in-Ok.ensures.opened c.args.key.now c.args.usage prepared),
      );
      only = λ w h. sym (c.in-Ok.ensures.only c.args.key.now c.args.usage prepared w h.0
          (given_of c.args.suite.now c.args.key.now c.args.usage c.args.octets.now (g.T.DerEncode.enc w) c.in-Some.prepared same h.1));
    }

pub returns-else-is_out_of_memory : goal.returns-else-is_out_of_memory
returns-else-is_out_of_memory g c =
    let fits = c.ranges.usage in
    let prepared = simp to_z-of_z at c.in-Some.ensures.some in
    λ v h. c.if-is_out_of_memory.ensures (c.in-Err.ensures.only c.args.key.now c.args.usage prepared v h.0
    (given_of c.args.suite.now c.args.key.now c.args.usage c.args.octets.now (g.T.DerEncode.enc v) c.in-Some.prepared c.in-Some.ensures.none h.1))
