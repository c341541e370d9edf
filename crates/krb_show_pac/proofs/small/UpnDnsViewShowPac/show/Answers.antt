use Rattle.krb_show_pac.proofs.small.UpnDnsViewShowPac.show.Goals as goal

pub returns-clause-ok : goal.returns-clause-ok
returns-clause-ok c =
    rw (c.upn.ensures, c.dns_domain_name.ensures, c.flags.ensures, c.sam_name.ensures, c.sid.ensures) at c.show_struct.ensures.ok
