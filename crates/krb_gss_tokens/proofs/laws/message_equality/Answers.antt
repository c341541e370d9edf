use Rattle.std.proofs.Common.{refl}
use Rattle.krb_der.specs.EqualityLaws.{octets_decide, pair_decides, parts_decide}
use Rattle.krb_gss_tokens.proofs.laws.message_equality.Goals as goal

pub returns-clause-krb_message : goal.returns-clause-krb_message
returns-clause-krb_message g c = λ h.
    parts_decide (λ v. (v.krb5_oid, (v.krb5_token_id, v.krb_msg))) (λ p. record { krb5_oid = p.0; krb5_token_id = p.1.0; krb_msg = p.1.1 }) (λ v. refl)
    (pair_decides octets_decide (pair_decides octets_decide h))

pub returns-clause-proxy_message : goal.returns-clause-proxy_message
returns-clause-proxy_message g c = λ h.
    parts_decide (λ v. (v.header, v.krb_msg)) (λ p. record { header = p.0; krb_msg = p.1 }) (λ v. refl)
    (pair_decides c.equality.ensures.iakerb_header h)
