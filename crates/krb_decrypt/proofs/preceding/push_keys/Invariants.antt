use Rattle.std.proofs.Common.{◌≡◌, ◌++◌, [], length}
use Rattle.krb_decrypt.specs.Preceding.{keys_in, start}
use Rattle.krb_decrypt.proofs.preceding.push_keys.Given as goal

abbrev pub invariant-tokens : goal.invariant-tokens
invariant-tokens l =
    l.keys.items ++ keys_in l.type_name l.preceding l.name l.rest ≡ l.initial.keys.items ++ keys_in l.type_name start [] l.tokens

abbrev pub decreases-tokens : goal.decreases-tokens
decreases-tokens l = length l.rest
