use Rattle.krb_show_pac.proofs.small.ClientInfoViewShowPac.show.Goals as goal

pub returns-clause-ok : goal.returns-clause-ok
returns-clause-ok c = rw (c.client_id.ensures, c.name.ensures) at c.show_struct.ensures.ok
