use Rattle.std.proofs.Common.{◌≡◌, drop}
use Rattle.krb_file_tools.specs.Kirbi.{address_from, each_of}
use Rattle.krb_file_tools.proofs.Lists.{after}
use Rattle.krb_file_tools.proofs.convert.credential.each_address.Given as goal

-- the addresses so far, before what is still to be done
abbrev pub invariant-loop-address : goal.invariant-loop-address
invariant-loop-address l = after l.typed.items (each_of address_from (drop l.address-index l.addresses)) ≡ each_of address_from l.addresses
