use Rattle.std.proofs.Common.{drop, arith}
use Rattle.krb_c_calls.proofs.FrameLengths.{begins, sizes}
use Rattle.krb_c_calls.proofs.frames.password.sizes.Goals as goal

pub overflow_sub-result-2 : goal.overflow_sub-result-2
overflow_sub-result-2 g c =
    let f = c.requires.found in
    let s = sizes g.A.DerEncode g.B.DerEncode c.args.frame.now f.0 c.args.taken c.element_size-size.result c.args._first.now c.args._second.now c.requires.valid f.1 f.2 c.element_size-size.ensures in
    omega (arith, s.whole, s.first)

pub returns : goal.returns
returns g c =
    let f = c.requires.found in
    let s = sizes g.A.DerEncode g.B.DerEncode c.args.frame.now f.0 c.args.taken c.element_size-size.result c.args._first.now c.args._second.now c.requires.valid f.1 f.2 c.element_size-size.ensures in (
      g.A.DerEncode.enc c.args._first.now,
      g.B.DerEncode.enc c.args._second.now,
      drop c.args.taken c.args.frame.now,
      begins g.A.DerEncode g.B.DerEncode c.args.frame.now f.0 c.args.taken c.args._first.now c.args._second.now c.requires.valid f.1 f.2,
      s.first,
      omega (arith, s.whole, s.first),
    )
