use Rattle.std.proofs.Common.{refl}
use Rattle.krb_der.specs.EqualityLaws.{pair_decides, parts_decide}
use Rattle.krb_messages.proofs.kpasswd.laws.equality.Goals as goal

pub returns : goal.returns
returns c = parts_decide (λ v. (v.ap_message, v.krb_priv)) (λ p. record { ap_message = p.0; krb_priv = p.1 }) (λ v. refl) (pair_decides c.equality-2.ensures.ap_message c.equality.ensures.krb_priv)
