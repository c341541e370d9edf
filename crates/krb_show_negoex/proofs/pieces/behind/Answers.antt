use Rattle.std.proofs.lemmas.Bool.Decides.{Decides-eqb}
use Rattle.std.proofs.lemmas.Slice.Eq.{strip_prefix_is}
use Rattle.krb_show_negoex.proofs.pieces.behind.Goals as goal

pub returns : goal.returns
returns c = strip_prefix_is Decides-eqb c.args.octets.now c.args.piece.now c.strip_prefix.result c.strip_prefix.ensures.cases
