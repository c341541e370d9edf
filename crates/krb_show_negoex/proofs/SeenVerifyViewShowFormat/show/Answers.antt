use Rattle.krb_show_negoex.proofs.SeenVerifyViewShowFormat.show.Goals as goal

pub returns-clause-ok : goal.returns-clause-ok
returns-clause-ok c = rw (c.header.ensures, c.auth_scheme.ensures, c.checksum.ensures) at c.show_struct.ensures.ok
