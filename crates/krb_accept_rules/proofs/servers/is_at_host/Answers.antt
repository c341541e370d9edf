use Rattle.krb_accept_rules.proofs.Hosts.{at_host}
use Rattle.krb_accept_rules.proofs.servers.is_at_host.Goals as goal

pub returns : goal.returns
returns c =
    at_host c.args.named.now c.args.components.now c.index-named-0.result c.index-components-0.result c.is_same_realm.result c.if-named-ne1.false
    c.if-components-ne2.false c.index-named-0.is c.index-components-0.is c.is_same_realm.ensures
