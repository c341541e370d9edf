use Rattle.krb_show_pages.proofs.files.principal.PrincipalFieldsShowFile.show.Goals as goal

pub returns-clause-ok : goal.returns-clause-ok
returns-clause-ok c = rw (← c.self.view_is) c.show_struct.ensures.ok
