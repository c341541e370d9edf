use Rattle.krb_show_tokens.proofs.proxies.FramedProxyTokenPages.page_of.Goals as goal

pub returns : goal.returns
returns g c =
    let shown = rw (c.new-label.ensures, c.new-page.ensures.items) at c.in_ok-show.ensures.ok in
    record { found = (c.in_ok-token.token, c.in_ok-token.ensures.found, shown); reads = λ v k. tt; first_error = tt }
