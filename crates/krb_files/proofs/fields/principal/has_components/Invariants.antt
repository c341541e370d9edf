use Rattle.std.proofs.Common.{◌≡◌, drop, map}
use Rattle.std.specs.Str.{bytes_eq}
use Rattle.std.specs.Cmp.Lexicographic.{pointwise}
use Rattle.krb_files.proofs.fields.principal.has_components.Given as goal

abbrev pub invariant-parts : goal.invariant-parts
invariant-parts l = pointwise bytes_eq l.components (map (λ p. p.now) (drop l.part-index l.parts)) ≡ pointwise bytes_eq l.name (map (λ p. p.now) l.parts)
