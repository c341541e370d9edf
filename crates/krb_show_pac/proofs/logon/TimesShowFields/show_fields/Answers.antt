use Rattle.krb_show_pac.proofs.logon.TimesShowFields.show_fields.Goals as goal

pub returns-clause-ok : goal.returns-clause-ok
returns-clause-ok c =
    rw (
      c.logon_time.ensures,
      c.logoff_time.ensures,
      c.kick_off_time.ensures,
      c.password_last_set.ensures,
      c.password_can_change.ensures,
      c.password_must_change.ensures,
    ) at c.show_fields.ensures.ok
