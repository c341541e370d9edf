use Rattle.std.proofs.Common.{◌≡◌, ◌∙◌, true, false, refl, sym}
use Rattle.krb_crypto_message.specs.RandomToKey.{repaired, is_weak}
use Rattle.krb_crypto_message.proofs.des.key_of_seed.repaired.Goals as goal

pub returns-then-is_weak : goal.returns-then-is_weak
unfolding repaired
returns-then-is_weak c =
    let weak : is_weak c.args.key ≡ true = sym c.is_weak.ensures ∙ c.if-is_weak.true in
    rw weak refl

pub returns-else-is_weak : goal.returns-else-is_weak
unfolding repaired
returns-else-is_weak c =
    let strong : is_weak c.args.key ≡ false = sym c.is_weak.ensures ∙ c.if-is_weak.false in
    rw strong refl
