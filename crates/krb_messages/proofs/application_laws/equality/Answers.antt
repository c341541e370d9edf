use Rattle.std.proofs.Common.{refl}
use Rattle.krb_der.specs.EqualityLaws.{integers_decide, bits_decide, list_decides, tag_decides, pair_decides, parts_decide}
use Rattle.krb_messages.proofs.application_laws.equality.Goals as goal

pub returns-clause-ap_req : goal.returns-clause-ap_req
returns-clause-ap_req c =
    parts_decide (λ v. (v.pvno, (v.msg_type, (v.ap_options, (v.ticket, v.authenticator))))) (λ p. record {
      pvno = p.0;
      msg_type = p.1.0;
      ap_options = p.1.1.0;
      ticket = p.1.1.1.0;
      authenticator = p.1.1.1.1;
    }) (λ v. refl)
    (pair_decides (tag_decides integers_decide) (pair_decides (tag_decides integers_decide) (pair_decides (tag_decides bits_decide)
    (pair_decides (tag_decides c.equality.ensures.ticket) (tag_decides c.equality.ensures.encrypted_data)))))

pub returns-clause-ap_rep : goal.returns-clause-ap_rep
returns-clause-ap_rep c =
    parts_decide (λ v. (v.pvno, (v.msg_type, v.enc_part))) (λ p. record { pvno = p.0; msg_type = p.1.0; enc_part = p.1.1 }) (λ v. refl)
    (pair_decides (tag_decides integers_decide) (pair_decides (tag_decides integers_decide) (tag_decides c.equality.ensures.encrypted_data)))

pub returns-clause-krb_cred : goal.returns-clause-krb_cred
returns-clause-krb_cred c =
    parts_decide (λ v. (v.pvno, (v.msg_type, (v.tickets, v.enc_part)))) (λ p. record {
      pvno = p.0;
      msg_type = p.1.0;
      tickets = p.1.1.0;
      enc_part = p.1.1.1;
    }) (λ v. refl)
    (pair_decides (tag_decides integers_decide) (pair_decides (tag_decides integers_decide)
    (pair_decides (tag_decides (list_decides c.equality.ensures.ticket)) (tag_decides c.equality.ensures.encrypted_data))))

pub returns-clause-krb_priv : goal.returns-clause-krb_priv
returns-clause-krb_priv c =
    parts_decide (λ v. (v.pvno, (v.msg_type, v.enc_part))) (λ p. record { pvno = p.0; msg_type = p.1.0; enc_part = p.1.1 }) (λ v. refl)
    (pair_decides (tag_decides integers_decide) (pair_decides (tag_decides integers_decide) (tag_decides c.equality.ensures.encrypted_data)))

pub returns-clause-tgt_req : goal.returns-clause-tgt_req
returns-clause-tgt_req c =
    parts_decide (λ v. (v.pvno, (v.msg_type, v.server_name))) (λ p. record { pvno = p.0; msg_type = p.1.0; server_name = p.1.1 }) (λ v. refl)
    (pair_decides (tag_decides integers_decide) (pair_decides (tag_decides integers_decide) (tag_decides c.equality.ensures.principal_name)))

pub returns-clause-tgt_rep : goal.returns-clause-tgt_rep
returns-clause-tgt_rep c =
    parts_decide (λ v. (v.pvno, (v.msg_type, v.ticket))) (λ p. record { pvno = p.0; msg_type = p.1.0; ticket = p.1.1 }) (λ v. refl)
    (pair_decides (tag_decides integers_decide) (pair_decides (tag_decides integers_decide) (tag_decides c.equality.ensures.ticket)))
