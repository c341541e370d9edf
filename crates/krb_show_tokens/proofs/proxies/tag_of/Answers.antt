use Rattle.krb_show_tokens.proofs.OneMessage.{only_tag}
use Rattle.krb_show_tokens.proofs.proxies.tag_of.Goals as goal

pub returns-clause-known : goal.returns-clause-known
returns-clause-known c = λ t h. only_tag c.args.octets.now c.in_ok-tag.tag t c.in_ok-tag.ensures h
