use Rattle.std.proofs.Common.{◌≡◌, take}
use Rattle.krb_crypto_block.specs.Fold.{number}
use Rattle.krb_crypto_block.proofs.nfold.number_of.Given as goal

abbrev pub invariant-loop-octet : goal.invariant-loop-octet
invariant-loop-octet l = l.n ≡ number (take l.octet-index l.octets)
