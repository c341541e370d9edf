use Rattle.std.proofs.Common.{◌≡◌, take}
use Rattle.krb_spnego.specs.Offering.{identifiers}
use Rattle.krb_spnego.proofs.writing.list_of.Given as goal

abbrev pub invariant-mechanisms : goal.invariant-mechanisms
invariant-mechanisms g l = l.types.items ≡ identifiers g.M.Mechanism.meaning l.first (take l.mechanism-index l.others)
