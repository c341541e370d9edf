use Rattle.std.proofs.Common.{◌≡◌, map, take, true}
use Rattle.krb_accept.specs.Keytab.{are_texts}
use Rattle.krb_accept.proofs.keytab.texts_of.Given as goal

abbrev pub invariant-components : goal.invariant-components
invariant-components l =
    (l.texts.items ≡ map (λ x. x.now) (take l.component-index l.components))
    × (are_texts (map (λ x. x.now) (take l.component-index l.components)) ≡ true)
