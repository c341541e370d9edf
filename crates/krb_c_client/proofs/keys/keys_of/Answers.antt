use Rattle.std.proofs.Common.{List, sym, subst}
use Rattle.krb_client_rules.specs.declared.key.Key.{Key}
use Rattle.krb_c_client.specs.Keys.{AreKeysOf, none}
use Rattle.krb_c_client.proofs.KeyLists.{one_key}
use Rattle.krb_c_client.proofs.keys.keys_of.Goals as goal

pub loop-key-init : goal.loop-key-init
loop-key-init c = subst (λ (x : List Key). AreKeysOf c.args.asked.now _ x) (sym c.new-found.ensures.items) none

pub loop-key-preserved : goal.loop-key-preserved
loop-key-preserved c =
    one_key c.args.asked.now c.args.keys.now c.loop-key.key-index c.key-item.result c.loop-key.found.items c.push_key.new.keys.items c.loop-key-test.true
    c.key-item.is c.loop-key.invariant c.in_ok-push_key.ensures
