use Rattle.std.proofs.Common.{take}
use Rattle.krb_file_tools.specs.Back.{AreEntriesOf}
use Rattle.krb_file_tools.proofs.convert.ccache.entries_of.Given as goal

-- the entries of the credentials so far
abbrev pub invariant-loop-credential : goal.invariant-loop-credential
invariant-loop-credential g l = AreEntriesOf g.T.DerEncode (take l.credential-index l.credentials) l.tickets.items l.infos.items
