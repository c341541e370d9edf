use Rattle.krb_show_tokens.proofs.OneMessage.{tag_in_frame}
use Rattle.krb_show_tokens.proofs.proxies.tag_in.Goals as goal

pub returns : goal.returns
returns c = tag_in_frame c.args.mechanism.now c.args.inner.now c.args.octets.now c.tag_behind.result c.requires c.tag_behind.ensures
