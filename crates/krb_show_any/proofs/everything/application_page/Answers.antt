use Rattle.krb_show_any.proofs.everything.application_page.Goals as goal

pub returns : goal.returns
returns c = (c.page_of_application.result, c.of_der.ensures, c.page_of_application.ensures)
