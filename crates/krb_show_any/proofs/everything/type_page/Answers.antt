use Rattle.krb_show_any.proofs.everything.type_page.Goals as goal

pub returns : goal.returns
returns c = (c.page_of_type.result, c.of_der.ensures, c.page_of_type.ensures)
