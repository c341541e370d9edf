-- A principal that a caller has, and whether two are the same.
use Rattle.std.specs.Prelude.{Bool, ◌&&◌, map}
use Rattle.std.specs.Str.{bytes_eq}
use Rattle.std.specs.Cmp.Lexicographic.{pointwise}
use Rattle.krb_files.specs.declared.fields.writing.PrincipalParts.{PrincipalParts}
use Rattle.krb_files.specs.FieldReading.{Principal}

-- the realm and the components
abbrev pub principal_of : PrincipalParts → Principal
principal_of n = record { realm = n.realm.now; components = map (λ p. p.now) n.components.now }

-- the same realm, and the same components, octet by octet
abbrev pub same_principal : Principal → Principal → Bool
same_principal p q = bytes_eq p.realm q.realm && pointwise bytes_eq p.components q.components
