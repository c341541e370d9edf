use Rattle.krb_show_any.proofs.everything.token_page.Goals as goal

pub returns : goal.returns
returns c = (c.page_of.result, c.of_token.ensures, c.page_of.ensures)
