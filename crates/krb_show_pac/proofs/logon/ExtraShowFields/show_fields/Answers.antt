use Rattle.krb_show_pac.proofs.logon.ExtraShowFields.show_fields.Goals as goal

pub returns-clause-ok : goal.returns-clause-ok
returns-clause-ok c =
    rw (c.in_ok-extra_sids.ensures, c.resource_group_domain_sid.ensures, c.in_ok-resource_groups.ensures) at c.show_fields.ensures.ok
