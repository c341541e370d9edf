use Rattle.std.proofs.Common.{sym, ◌∙◌}
use Rattle.krb_show_negoex.proofs.Elements.{some_there}
use Rattle.krb_show_negoex.proofs.WrittenPieces.{each_more, each_none}
use Rattle.uuid.specs.Parts.{swap_fields}
use Rattle.krb_show_negoex.proofs.pieces.SchemesPiece.behind.Goals as goal

pub returns-in-None-behind : goal.returns-in-None-behind
returns-in-None-behind c =
    each_none swap_fields c.args.self.now.0.now c.loop-n.n c.in-Some.scheme c.args.octets.now c.loop-n.rest.now c.loop-n.invariant (sym c.in-Some.is ∙ c.get.ensures)
    c.behind.result c.behind.ensures c.in-None-behind.is

pub unreachable-requires : goal.unreachable-requires
unreachable-requires c =
    some_there c.args.self.now.0.now c.loop-n.n (rw (c.len-n-end.ensures) at c.loop-n-test.true) (sym c.in-None.is ∙ c.get.ensures)

pub loop-n-preserved : goal.loop-n-preserved
loop-n-preserved c =
    each_more swap_fields c.args.self.now.0.now c.loop-n.n c.in-Some.scheme c.args.octets.now c.loop-n.rest.now c.loop-n.invariant (sym c.in-Some.is ∙ c.get.ensures)
    c.behind.result c.in-Some-behind.trailing c.behind.ensures c.in-Some-behind.is
