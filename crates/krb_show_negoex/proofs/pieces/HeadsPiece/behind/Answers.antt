use Rattle.std.proofs.Common.{◌+◌, ◌*◌, sym, ◌∙◌, length, arith}
use Rattle.krb_show_negoex.proofs.Elements.{some_there}
use Rattle.krb_show_negoex.proofs.WrittenPieces.{heads_more, heads_none}
use Rattle.krb_show_negoex.proofs.pieces.HeadsPiece.behind.Goals as goal

pub returns-in-None-behind : goal.returns-in-None-behind
returns-in-None-behind c =
    heads_none (96 + 16 * c.args.self.now.schemes + 12 * length c.args.self.now.extensions.now) c.loop-n.offset c.args.self.now.extensions.now c.loop-n.n c.in-Some.extension
    c.extension_type.result c.extension_value.result.now c.args.octets.now c.loop-n.rest.now c.loop-n.invariant.0 (sym c.in-Some.is ∙ c.get.ensures)
    c.extension_type.ensures c.extension_value.ensures c.behind.result (rw (c.count_of-count.ensures.is) at c.behind.ensures) c.in-None-behind.is

pub overflow_add-offset-in-Some : goal.overflow_add-offset-in-Some
overflow_add-offset-in-Some c = omega (arith, c.loop-n.invariant.1, c.loop-n-test.true, c.count_of-count.ensures.small, c.len-n-end.type_inv)

pub unreachable-requires : goal.unreachable-requires
unreachable-requires c =
    some_there c.args.self.now.extensions.now c.loop-n.n (rw (c.len-n-end.ensures) at c.loop-n-test.true) (sym c.in-None.is ∙ c.get.ensures)

pub loop-n-preserved : goal.loop-n-preserved
loop-n-preserved c = (
  rw (c.count_of-count.ensures.is) (heads_more (96 + 16 * c.args.self.now.schemes + 12 * length c.args.self.now.extensions.now) c.loop-n.offset c.args.self.now.extensions.now c.loop-n.n c.in-Some.extension
      c.extension_type.result c.extension_value.result.now c.args.octets.now c.loop-n.rest.now c.loop-n.invariant.0 (sym c.in-Some.is ∙ c.get.ensures)
      c.extension_type.ensures c.extension_value.ensures c.behind.result c.in-Some-behind.trailing (rw (c.count_of-count.ensures.is) at c.behind.ensures) c.in-Some-behind.is),
  omega (arith, c.loop-n.invariant.1, c.count_of-count.ensures.small),
)
