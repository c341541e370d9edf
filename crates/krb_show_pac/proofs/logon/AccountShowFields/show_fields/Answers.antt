use Rattle.krb_show_pac.proofs.logon.AccountShowFields.show_fields.Goals as goal

pub returns-clause-ok : goal.returns-clause-ok
returns-clause-ok c =
    rw (
      c.user_account_control.ensures,
      c.sub_auth_status.ensures,
      c.last_successful_logon.ensures,
      c.last_failed_logon.ensures,
      c.failed_logon_count.ensures,
    ) at c.show_fields.ensures.ok
