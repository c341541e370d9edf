use Rattle.std.proofs.Common.{refl}
use Rattle.krb_der.specs.EqualityLaws.{octets_decide, integers_decide, times_decide, bits_decide, list_decides, tag_decides, optional_decides, pair_decides, parts_decide}
use Rattle.krb_messages.proofs.kdc_laws.equality.Goals as goal

pub returns-clause-kdc_req_body : goal.returns-clause-kdc_req_body
returns-clause-kdc_req_body c =
    parts_decide (λ v. (
      v.kdc_options,
      (
        v.cname,
        (
          v.realm,
          (
            v.sname,
            (
              v.from,
              (
                v.till,
                (
                  v.rtime,
                  (
                    v.nonce,
                    (
                      v.etype,
                      (
                        v.addresses,
                        (v.enc_authorization_data, v.additional_tickets),
                      ),
                    ),
                  ),
                ),
              ),
            ),
          ),
        ),
      ),
    )) (λ p. record {
      kdc_options = p.0;
      cname = p.1.0;
      realm = p.1.1.0;
      sname = p.1.1.1.0;
      from = p.1.1.1.1.0;
      till = p.1.1.1.1.1.0;
      rtime = p.1.1.1.1.1.1.0;
      nonce = p.1.1.1.1.1.1.1.0;
      etype = p.1.1.1.1.1.1.1.1.0;
      addresses = p.1.1.1.1.1.1.1.1.1.0;
      enc_authorization_data = p.1.1.1.1.1.1.1.1.1.1.0;
      additional_tickets = p.1.1.1.1.1.1.1.1.1.1.1;
    }) (λ v. refl)
    (pair_decides (tag_decides bits_decide) (pair_decides (optional_decides (tag_decides c.equality.ensures.principal_name))
    (pair_decides (tag_decides octets_decide) (pair_decides (optional_decides (tag_decides c.equality.ensures.principal_name))
    (pair_decides (optional_decides (tag_decides times_decide)) (pair_decides (tag_decides times_decide)
    (pair_decides (optional_decides (tag_decides times_decide)) (pair_decides (tag_decides integers_decide)
    (pair_decides (tag_decides (list_decides integers_decide))
    (pair_decides (optional_decides (tag_decides (list_decides c.equality.ensures.host_address)))
    (pair_decides (optional_decides (tag_decides c.equality.ensures.encrypted_data)) (optional_decides (tag_decides (list_decides c.equality.ensures.ticket))))))))))))))

pub returns-clause-kdc_req : goal.returns-clause-kdc_req
returns-clause-kdc_req c =
    parts_decide (λ v. (v.pvno, (v.msg_type, (v.padata, v.req_body)))) (λ p. record {
      pvno = p.0;
      msg_type = p.1.0;
      padata = p.1.1.0;
      req_body = p.1.1.1;
    }) (λ v. refl)
    (pair_decides (tag_decides integers_decide) (pair_decides (tag_decides integers_decide)
    (pair_decides (optional_decides (tag_decides (list_decides c.equality-2.ensures.pa_data))) (tag_decides (returns-clause-kdc_req_body c)))))

pub returns-clause-kdc_rep : goal.returns-clause-kdc_rep
returns-clause-kdc_rep c =
    parts_decide (λ v. (v.pvno, (v.msg_type, (v.padata, (v.crealm, (v.cname, (v.ticket, v.enc_part))))))) (λ p. record {
      pvno = p.0;
      msg_type = p.1.0;
      padata = p.1.1.0;
      crealm = p.1.1.1.0;
      cname = p.1.1.1.1.0;
      ticket = p.1.1.1.1.1.0;
      enc_part = p.1.1.1.1.1.1;
    }) (λ v. refl)
    (pair_decides (tag_decides integers_decide) (pair_decides (tag_decides integers_decide)
    (pair_decides (optional_decides (tag_decides (list_decides c.equality-2.ensures.pa_data))) (pair_decides (tag_decides octets_decide)
    (pair_decides (tag_decides c.equality.ensures.principal_name)
    (pair_decides (tag_decides c.equality.ensures.ticket) (tag_decides c.equality.ensures.encrypted_data)))))))

pub returns-clause-enc_kdc_rep_part : goal.returns-clause-enc_kdc_rep_part
returns-clause-enc_kdc_rep_part c =
    parts_decide (λ v. (
      v.key,
      (
        v.last_req,
        (
          v.nonce,
          (
            v.key_expiration,
            (
              v.flags,
              (
                v.auth_time,
                (
                  v.start_time,
                  (
                    v.end_time,
                    (v.renew_till, (v.srealm, (v.sname, (v.caddr, v.encrypted_pa_data)))),
                  ),
                ),
              ),
            ),
          ),
        ),
      ),
    )) (λ p. record {
      key = p.0;
      last_req = p.1.0;
      nonce = p.1.1.0;
      key_expiration = p.1.1.1.0;
      flags = p.1.1.1.1.0;
      auth_time = p.1.1.1.1.1.0;
      start_time = p.1.1.1.1.1.1.0;
      end_time = p.1.1.1.1.1.1.1.0;
      renew_till = p.1.1.1.1.1.1.1.1.0;
      srealm = p.1.1.1.1.1.1.1.1.1.0;
      sname = p.1.1.1.1.1.1.1.1.1.1.0;
      caddr = p.1.1.1.1.1.1.1.1.1.1.1.0;
      encrypted_pa_data = p.1.1.1.1.1.1.1.1.1.1.1.1;
    })
    (λ v. refl)
    (pair_decides (tag_decides c.equality.ensures.encryption_key) (pair_decides (tag_decides (list_decides c.equality.ensures.last_req))
    (pair_decides (tag_decides integers_decide) (pair_decides (optional_decides (tag_decides times_decide)) (pair_decides (tag_decides bits_decide)
    (pair_decides (tag_decides times_decide) (pair_decides (optional_decides (tag_decides times_decide)) (pair_decides (tag_decides times_decide)
    (pair_decides (optional_decides (tag_decides times_decide)) (pair_decides (tag_decides octets_decide)
    (pair_decides (tag_decides c.equality.ensures.principal_name)
    (pair_decides (optional_decides (tag_decides (list_decides c.equality.ensures.host_address))) (optional_decides (tag_decides (list_decides c.equality-2.ensures.pa_data)))))))))))))))
