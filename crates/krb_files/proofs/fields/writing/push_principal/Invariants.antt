use Rattle.std.proofs.Common.{◌≡◌, ◌++◌, length, take, map}
use Rattle.std.specs.List.{flat_map}
use Rattle.byteorder.specs.Endian.{big_bytes}
use Rattle.krb_files.specs.FieldReading.{size_of}
use Rattle.krb_files.specs.FieldWritten.{counted_octets}
use Rattle.krb_files.proofs.fields.writing.push_principal.Given as goal

abbrev pub invariant-components : goal.invariant-components
invariant-components l =
    l.out.items ≡ l.fn.out.items ++ (big_bytes (size_of l.size) (length l.principal.components.now) ++ (counted_octets (size_of l.size) l.principal.realm.now
    ++ flat_map (counted_octets (size_of l.size)) (map (λ p. p.now) (take l.component-index l.principal.components.now))))
