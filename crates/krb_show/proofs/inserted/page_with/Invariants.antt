use Rattle.std.proofs.Common.{[]}
use Rattle.krb_show.specs.Walk.{walk_of}
use Rattle.krb_show.proofs.inserted.page_with.Given as goal

abbrev pub invariant-tokens : goal.invariant-tokens
invariant-tokens g l = walk_of g.I.Insert.inserts l.fn.inserting l.yielded [] l.inserting l.made.items
