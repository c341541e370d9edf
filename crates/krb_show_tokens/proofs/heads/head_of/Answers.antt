use Rattle.krb_show_tokens.proofs.OneFrame.{head_none, of_none}
use Rattle.krb_show_tokens.proofs.heads.head_of.Goals as goal

pub returns-in-None : goal.returns-in-None
returns-in-None c = head_none c.args.octets.now (of_none c.in_ok-mechanism.field-0 _ _ c.in_ok-mechanism.ensures c.in-None.is)
