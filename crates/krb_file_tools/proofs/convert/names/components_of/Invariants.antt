use Rattle.std.proofs.Common.{◌≡◌, map, take}
use Rattle.krb_file_tools.proofs.convert.names.components_of.Given as goal

-- the components so far
abbrev pub invariant-loop-text : goal.invariant-loop-text
invariant-loop-text l = map (λ x. x.now) l.components.items ≡ take l.text-index l.texts
