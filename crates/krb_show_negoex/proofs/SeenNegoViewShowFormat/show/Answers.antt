use Rattle.krb_show_negoex.proofs.SeenNegoViewShowFormat.show.Goals as goal

pub returns-clause-ok : goal.returns-clause-ok
returns-clause-ok c =
    rw (
      c.header.ensures,
      c.random.ensures,
      c.protocol_version.ensures,
      c.in_ok-schemes.ensures,
      c.auth_schemes.ensures,
      c.in_ok-items.ensures,
      c.extensions.ensures,
    ) at c.show_struct.ensures.ok
