use Rattle.krb_show_tokens.proofs.OneFrame.{head_kerberos, head_negotiation, head_short}
use Rattle.krb_show_tokens.proofs.heads.head_in.Goals as goal

pub returns-then-is_negotiation : goal.returns-then-is_negotiation
returns-then-is_negotiation c = head_negotiation c.args.mechanism.now c.args.inner.now c.args.octets.now c.requires c.if-is_negotiation.ensures

pub returns-then-inner-lt2 : goal.returns-then-inner-lt2
returns-then-inner-lt2 c = head_short c.args.mechanism.now c.args.inner.now c.args.octets.now c.requires c.if-is_negotiation.ensures c.if-inner-lt2.true

pub returns : goal.returns
returns c = head_kerberos c.args.mechanism.now c.args.inner.now c.args.octets.now c.requires c.if-is_negotiation.ensures c.if-inner-lt2.false
