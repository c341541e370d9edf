use Rattle.krb_show_tokens.proofs.OneFrame.{content_framed, of_none}
use Rattle.krb_show_tokens.proofs.heads.read_mechanism.Goals as goal

pub returns-in-None : goal.returns-in-None
returns-in-None c m inner f = of_none c.in_ok-mechanism.field-0 _ _ c.in_ok-mechanism.ensures c.in-None.is m inner
    (content_framed m inner c.in-Ok.content.now c.args.octets.now _ c.in-Ok.ensures.found f)
