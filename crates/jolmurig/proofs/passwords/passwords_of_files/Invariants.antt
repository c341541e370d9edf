use Rattle.std.proofs.Common.{drop, map}
use Rattle.jolmurig.proofs.PasswordLists.{Continues}
use Rattle.jolmurig.proofs.passwords.passwords_of_files.Given as goal

abbrev pub invariant-names : goal.invariant-names
invariant-names g l = Continues (g.F.Files.gives l.files) (drop l.name-index l.names) l.names (map (λ p. p.items) l.passwords.items)
