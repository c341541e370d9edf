use Rattle.std.proofs.Common.{map}
use Rattle.krb_decrypt.specs.PasswordKeys.{KeysOfSalts}
use Rattle.krb_decrypt.proofs.KeyLists.{continues_more, continues_none}
use Rattle.krb_decrypt.proofs.keys.keys_with_salts.Goals as goal

pub passwords-preserved : goal.passwords-preserved
passwords-preserved c =
    continues_more (λ p. p.items) (λ password. KeysOfSalts password (map (λ s. s.items) c.args.salts.now)) c.in-Some.password.now c.passwords.rest.now
    c.in-Some.behind.now c.args.passwords.now c.passwords.keys.items c.push_password.new.keys.items c.in-Some.ensures.cases.0 c.passwords.invariant
    (rw c.deref.ensures.value at c.in_ok-push_password.ensures)

pub returns : goal.returns
returns c =
    continues_none (λ p. p.items) (λ password. KeysOfSalts password (map (λ s. s.items) c.args.salts.now)) c.passwords.rest.now c.args.passwords.now
    c.passwords.keys.items c.in_default.ensures.cases c.passwords.invariant
