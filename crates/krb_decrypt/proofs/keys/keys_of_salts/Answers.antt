use Rattle.krb_decrypt.specs.PasswordKeys.{KeysOfSalt}
use Rattle.krb_decrypt.proofs.KeyLists.{continues_more, continues_none}
use Rattle.krb_decrypt.proofs.keys.keys_of_salts.Goals as goal

pub salts-preserved : goal.salts-preserved
salts-preserved c =
    continues_more (λ s. s.items) (KeysOfSalt c.args.password.now) c.in-Some.salt.now c.salts.rest.now c.in-Some.behind.now c.args.salts.now
    c.salts.keys.items c.push_keys.new.keys.items c.in-Some.ensures.cases.0 c.salts.invariant
    (rw c.deref.ensures.value at c.in_ok-push_keys.ensures)

pub returns : goal.returns
returns c =
    continues_none (λ s. s.items) (KeysOfSalt c.args.password.now) c.salts.rest.now c.args.salts.now c.salts.keys.items c.in_default.ensures.cases
    c.salts.invariant
