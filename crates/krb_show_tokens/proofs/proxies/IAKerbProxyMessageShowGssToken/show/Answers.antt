use Rattle.krb_show_tokens.proofs.proxies.IAKerbProxyMessageShowGssToken.show.Goals as goal

pub returns-clause-ok : goal.returns-clause-ok
returns-clause-ok g c = rw (c.row.ensures) at c.show_struct.ensures.ok
