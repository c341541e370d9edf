use Rattle.std.proofs.Common.{◌≡◌, map, take}
use Rattle.krb_file_tools.specs.Message.{host_address}
use Rattle.krb_file_tools.proofs.convert.message.each_address.Given as goal

-- the addresses so far
abbrev pub invariant-loop-address : goal.invariant-loop-address
invariant-loop-address l = l.addresses.items ≡ map host_address (take l.address-index l.typed)
