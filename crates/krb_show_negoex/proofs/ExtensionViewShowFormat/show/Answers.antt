use Rattle.krb_show_negoex.proofs.ExtensionViewShowFormat.show.Goals as goal

pub returns-clause-ok : goal.returns-clause-ok
returns-clause-ok c = rw (c.extension_type.ensures, c.extension_value.ensures) at c.show_struct.ensures.ok
