use Rattle.std.proofs.Common.{length}
use Rattle.krb_decrypt.specs.PasswordKeys.{KeysOfSalt}
use Rattle.krb_decrypt.proofs.KeyLists.{Continues}
use Rattle.krb_decrypt.proofs.keys.keys_of_salts.Given as goal

abbrev pub invariant-salts : goal.invariant-salts
invariant-salts l = Continues (λ s. s.items) (KeysOfSalt l.password) l.rest l.salts l.keys.items

abbrev pub decreases-salts : goal.decreases-salts
decreases-salts l = length l.rest
