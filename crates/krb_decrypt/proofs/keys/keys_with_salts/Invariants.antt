use Rattle.std.proofs.Common.{length, map}
use Rattle.krb_decrypt.specs.PasswordKeys.{KeysOfSalts}
use Rattle.krb_decrypt.proofs.KeyLists.{Continues}
use Rattle.krb_decrypt.proofs.keys.keys_with_salts.Given as goal

abbrev pub invariant-passwords : goal.invariant-passwords
invariant-passwords l =
    Continues (λ p. p.items) (λ password. KeysOfSalts password (map (λ s. s.items) l.salts)) l.rest l.passwords l.keys.items

abbrev pub decreases-passwords : goal.decreases-passwords
decreases-passwords l = length l.rest
