use Rattle.krb_show_pac.proofs.logon.DomainShowFields.show_fields.Goals as goal

pub returns-clause-ok : goal.returns-clause-ok
returns-clause-ok c =
    rw (
      c.user_flags.ensures,
      c.user_session_key.ensures,
      c.logon_server.ensures,
      c.logon_domain_name.ensures,
      c.logon_domain_id.ensures,
    ) at c.show_fields.ensures.ok
