use Rattle.krb_show_messages.proofs.pac.page_of_pac.Goals as goal

pub returns-clause-found : goal.returns-clause-found
returns-clause-found c =
    (c.in_ok-pac.pac, c.in_ok-pac.ensures.found, rw (c.new-label.ensures, c.new-page.ensures.items) at c.in_ok-show_directory.ensures.ok)
