use Rattle.std.proofs.Common.{sym, subst, arith}
use Rattle.krb_der_core.specs.Integer.{IsShortest}
use Rattle.krb_der_core.specs.IntegerLaws.{octets_below, shortest_is, shortest_of_number}
use Rattle.krb_der_core.proofs.integer.IntegerAsn1Content.read_content.Goals as goal

pub returns-then-not-is_shortest-clause-rejected : goal.returns-then-not-is_shortest-clause-rejected
returns-then-not-is_shortest-clause-rejected c = λ v u e. c.if-not-is_shortest.ensures (subst IsShortest (sym e) (shortest_is v))

pub returns-clause-found : goal.returns-clause-found
returns-clause-found c = rw c.in_ok-from_shortest.ensures (sym (shortest_of_number c.args.content.now (octets_below c.args.content.now (λ i. omega (arith, c.type_inv.content i))) c.if-not-is_shortest.ensures))
