use Rattle.std.proofs.Common.{take}
use Rattle.krb_client.specs.Firsts.{NoneIs}
use Rattle.krb_client.specs.Renamed.{IsMark}
use Rattle.krb_client.proofs.renamed.first_mark.Given as goal

-- none of those so far is one
abbrev pub invariant-loop-element : goal.invariant-loop-element
invariant-loop-element l = NoneIs IsMark (take l.element-index l.elements)
