use Rattle.std.proofs.Common.{◌≡◌, ◌++◌, [], length}
use Rattle.krb_decrypt.specs.Preceding.{start}
use Rattle.krb_c_pages.specs.Found.{keys_in}
use Rattle.krb_c_pages.proofs.decoded.found.push_keys.Given as goal

abbrev pub invariant-items : goal.invariant-items
invariant-items l =
    l.keys.items ++ keys_in l.type_name l.octets l.preceding l.name l.rest ≡ l.initial.keys.items ++ keys_in l.type_name l.octets start [] l.items

abbrev pub decreases-items : goal.decreases-items
decreases-items l = length l.rest
