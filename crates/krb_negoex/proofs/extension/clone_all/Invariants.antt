use Rattle.std.proofs.Common.{◌≡◌, map, take}
use Rattle.krb_negoex.specs.Copies.{extension_parts}
use Rattle.krb_negoex.proofs.extension.clone_all.Given as goal

abbrev pub invariant-extensions : goal.invariant-extensions
invariant-extensions l = map extension_parts l.copies.items ≡ map extension_parts (take l.extension-index l.extensions)
