use Rattle.krb_show_any.proofs.everything.keytab_page.Goals as goal

pub returns : goal.returns
returns c = (c.page_of.result, c.of_file.ensures, c.page_of.ensures)
