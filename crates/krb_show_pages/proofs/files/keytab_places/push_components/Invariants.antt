use Rattle.std.proofs.Common.{◌≡◌, ◌+◌, ◌++◌, length, take}
use Rattle.krb_show_pages.specs.KeytabPlaces.{component_places}
use Rattle.krb_show_pages.proofs.KeytabParts.{counted, seen}
use Rattle.krb_show_pages.proofs.files.keytab_places.push_components.Given as goal

abbrev pub invariant-components : goal.invariant-components
invariant-components l =
    (l.places.items ≡ l.fn.places.items ++ component_places l.fn.at (seen (take l.component-index l.components)))
    × (l.at ≡ l.fn.at + length (counted (seen (take l.component-index l.components))))
