use Rattle.krb_show_pac.proofs.logon.CountsShowFields.show_fields.Goals as goal

pub returns-clause-ok : goal.returns-clause-ok
returns-clause-ok c =
    rw (
      c.from.ensures,
      c.logon_count.ensures,
      c.from-2.ensures,
      c.bad_password_count.ensures,
      c.user_id.ensures,
      c.primary_group_id.ensures,
      c.in_ok-groups.ensures,
    ) at c.show_fields.ensures.ok
