use Rattle.std.proofs.Common.{take}
use Rattle.std.specs.List.{AllByRecursion}
use Rattle.std.specs.Str.{IsAscii}
use Rattle.krb_build.proofs.messages.known.known_texts.Given as goal

-- the texts so far are of ASCII
abbrev pub invariant-loop-text : goal.invariant-loop-text
invariant-loop-text l = AllByRecursion IsAscii (take l.text-index l.texts)
