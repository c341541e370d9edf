use Rattle.krb_show_tokens.proofs.OneMessage.{no_tag, some_tag}
use Rattle.krb_show_tokens.proofs.proxies.tag_behind.Goals as goal

pub returns-then-is_empty : goal.returns-then-is_empty
returns-then-is_empty c =
    no_tag c.args.inner.now c.in_ok-header.header.now c.in_ok-message.message.now c.in_ok-header.ensures.0 c.in_ok-header.ensures.1 c.in_ok-message.ensures.0
    c.in_ok-header.ensures.2 c.in_ok-message.ensures.1 c.if-is_empty.ensures

pub returns : goal.returns
returns c =
    some_tag c.args.inner.now c.in_ok-header.header.now c.in_ok-message.message.now c.in_ok-header.ensures.0 c.in_ok-header.ensures.1 c.in_ok-message.ensures.0
    c.in_ok-header.ensures.2 c.in_ok-message.ensures.1 c.if-is_empty.ensures
