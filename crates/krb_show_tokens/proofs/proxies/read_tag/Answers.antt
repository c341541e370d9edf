use Rattle.krb_show_tokens.proofs.OneFrame.{of_none}
use Rattle.krb_show_tokens.proofs.OneMessage.{tag_of_none}
use Rattle.krb_show_tokens.proofs.proxies.read_tag.Goals as goal

pub returns-in-None : goal.returns-in-None
returns-in-None c = tag_of_none c.args.octets.now (of_none c.in_ok-mechanism.field-0 _ _ c.in_ok-mechanism.ensures c.in-None.is)
