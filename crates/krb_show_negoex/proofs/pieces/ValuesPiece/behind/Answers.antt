use Rattle.std.proofs.Common.{sym, ◌∙◌}
use Rattle.krb_show_negoex.proofs.Elements.{some_there}
use Rattle.krb_show_negoex.proofs.WrittenPieces.{each_more, each_none}
use Rattle.krb_show_negoex.proofs.pieces.ValuesPiece.behind.Goals as goal

pub returns-in-None-behind : goal.returns-in-None-behind
returns-in-None-behind c =
    each_none (λ v. v.extension_value) c.args.self.now.0.now c.loop-n.n c.in-Some.extension c.args.octets.now c.loop-n.rest.now c.loop-n.invariant (sym c.in-Some.is ∙ c.get.ensures)
    c.behind.result (rw (c.extension_value.ensures) at c.behind.ensures) c.in-None-behind.is

pub unreachable-requires : goal.unreachable-requires
unreachable-requires c =
    some_there c.args.self.now.0.now c.loop-n.n (rw (c.len-n-end.ensures) at c.loop-n-test.true) (sym c.in-None.is ∙ c.get.ensures)

pub loop-n-preserved : goal.loop-n-preserved
loop-n-preserved c =
    each_more (λ v. v.extension_value) c.args.self.now.0.now c.loop-n.n c.in-Some.extension c.args.octets.now c.loop-n.rest.now c.loop-n.invariant (sym c.in-Some.is ∙ c.get.ensures)
    c.behind.result c.in-Some-behind.trailing (rw (c.extension_value.ensures) at c.behind.ensures) c.in-Some-behind.is
