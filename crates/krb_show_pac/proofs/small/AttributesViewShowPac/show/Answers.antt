use Rattle.krb_show_pac.proofs.small.AttributesViewShowPac.show.Goals as goal

pub returns-clause-ok : goal.returns-clause-ok
returns-clause-ok c = rw (c.flags_length.ensures, c.flags.ensures) at c.show_struct.ensures.ok
