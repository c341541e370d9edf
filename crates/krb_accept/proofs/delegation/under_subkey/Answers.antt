use Rattle.std.proofs.Common.{◌≡◌, None, Some, rules}
use Rattle.krb_accept.proofs.Delegations.{no_key, under_key}
use Rattle.krb_accept.proofs.delegation.under_subkey.Goals as goal

pub returns-in-Some : goal.returns-in-Some
returns-in-Some c =
    let is : c.args.subkey.now ≡ Some c.in-Some.key = search rules in
    under_key _ c.args.sealed.now c.value_with.result c.args.subkey.now c.in-Some.key is c.value_with.ensures

pub returns-in-None : goal.returns-in-None
returns-in-None c =
    let is : c.args.subkey.now ≡ None = search rules in
    no_key _ c.args.subkey.now c.args.sealed.now is
