use Rattle.std.proofs.Common.{take}
use Rattle.krb_client.specs.Firsts.{NoneIs}
use Rattle.krb_client.specs.KeyHints.{IsEntryOf}
use Rattle.krb_client.proofs.keys.hint.entry_of.Given as goal

abbrev pub invariant-loop-entry : goal.invariant-loop-entry
invariant-loop-entry l = NoneIs (IsEntryOf l.suite) (take l.entry-index l.entries)
