use Rattle.std.specs.Prelude.{Vec}
use Rattle.std.proofs.Common.{length}
use Rattle.std.specs.declared.alloc.Global.{Global}
use Rattle.krb_show.specs.Tokens.{Token}
use Rattle.krb_show_negoex.proofs.Several.{SoFar}
use Rattle.krb_show_negoex.proofs.page_of_several.Given as goal

abbrev pub invariant-loop-rest : goal.invariant-loop-rest
invariant-loop-rest l = SoFar {P = Vec Token Global} (λ page. page.items) l.fn.octets l.rest l.items.items l.count

abbrev pub decreases-loop-rest : goal.decreases-loop-rest
decreases-loop-rest l = length l.rest
