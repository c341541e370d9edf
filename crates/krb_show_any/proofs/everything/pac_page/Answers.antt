use Rattle.krb_show_any.proofs.everything.pac_page.Goals as goal

pub returns : goal.returns
returns c =
    let told = c.page_of_pac.ensures in
    (c.page_of_pac.result, c.of_pac.ensures, record { found = told.found; reads = told.reads; rejected = told.rejected })
