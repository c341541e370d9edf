use Rattle.std.proofs.Common.{refl}
use Rattle.krb_der.specs.EqualityLaws.{octets_decide, integers_decide, times_decide, bits_decide, list_decides, tag_decides, optional_decides, pair_decides, parts_decide}
use Rattle.krb_enc_parts.proofs.laws.equality.Goals as goal

pub returns-clause-authenticator : goal.returns-clause-authenticator
returns-clause-authenticator c =
    parts_decide (λ v. (
      v.authenticator_vno,
      (
        v.crealm,
        (
          v.cname,
          (
            v.cksum,
            (
              v.cusec,
              (
                v.ctime,
                (
                  v.subkey,
                  (v.seq_number, v.authorization_data),
                ),
              ),
            ),
          ),
        ),
      ),
    )) (λ p. record {
      authenticator_vno = p.0;
      crealm = p.1.0;
      cname = p.1.1.0;
      cksum = p.1.1.1.0;
      cusec = p.1.1.1.1.0;
      ctime = p.1.1.1.1.1.0;
      subkey = p.1.1.1.1.1.1.0;
      seq_number = p.1.1.1.1.1.1.1.0;
      authorization_data = p.1.1.1.1.1.1.1.1;
    }) (λ v. refl)
    (pair_decides (tag_decides integers_decide) (pair_decides (tag_decides octets_decide)
    (pair_decides (tag_decides c.equality.ensures.principal_name)
    (pair_decides (optional_decides (tag_decides c.equality.ensures.checksum)) (pair_decides (tag_decides integers_decide)
    (pair_decides (tag_decides times_decide) (pair_decides (optional_decides (tag_decides c.equality.ensures.encryption_key))
    (pair_decides (optional_decides (tag_decides integers_decide)) (optional_decides (tag_decides (list_decides c.equality.ensures.authorization_data)))))))))))

pub returns-clause-enc_ap_rep_part : goal.returns-clause-enc_ap_rep_part
returns-clause-enc_ap_rep_part c =
    parts_decide (λ v. (v.ctime, (v.cusec, (v.subkey, v.seq_number)))) (λ p. record {
      ctime = p.0;
      cusec = p.1.0;
      subkey = p.1.1.0;
      seq_number = p.1.1.1;
    }) (λ v. refl)
    (pair_decides (tag_decides times_decide) (pair_decides (tag_decides integers_decide)
    (pair_decides (optional_decides (tag_decides c.equality.ensures.encryption_key)) (optional_decides (tag_decides integers_decide)))))

pub returns-clause-krb_cred_info : goal.returns-clause-krb_cred_info
returns-clause-krb_cred_info c =
    parts_decide (λ v. (
      v.key,
      (
        v.prealm,
        (
          v.pname,
          (
            v.flags,
            (
              v.auth_time,
              (
                v.start_time,
                (
                  v.end_time,
                  (
                    v.renew_till,
                    (
                      v.srealm,
                      (v.sname, v.caddr),
                    ),
                  ),
                ),
              ),
            ),
          ),
        ),
      ),
    )) (λ p. record {
      key = p.0;
      prealm = p.1.0;
      pname = p.1.1.0;
      flags = p.1.1.1.0;
      auth_time = p.1.1.1.1.0;
      start_time = p.1.1.1.1.1.0;
      end_time = p.1.1.1.1.1.1.0;
      renew_till = p.1.1.1.1.1.1.1.0;
      srealm = p.1.1.1.1.1.1.1.1.0;
      sname = p.1.1.1.1.1.1.1.1.1.0;
      caddr = p.1.1.1.1.1.1.1.1.1.1;
    }) (λ v. refl)
    (pair_decides (tag_decides c.equality.ensures.encryption_key) (pair_decides (optional_decides (tag_decides octets_decide))
    (pair_decides (optional_decides (tag_decides c.equality.ensures.principal_name))
    (pair_decides (optional_decides (tag_decides bits_decide)) (pair_decides (optional_decides (tag_decides times_decide))
    (pair_decides (optional_decides (tag_decides times_decide)) (pair_decides (optional_decides (tag_decides times_decide))
    (pair_decides (optional_decides (tag_decides times_decide)) (pair_decides (optional_decides (tag_decides octets_decide))
    (pair_decides (optional_decides (tag_decides c.equality.ensures.principal_name)) (optional_decides (tag_decides (list_decides c.equality.ensures.host_address)))))))))))))

pub returns-clause-enc_krb_cred_part : goal.returns-clause-enc_krb_cred_part
returns-clause-enc_krb_cred_part c =
    parts_decide (λ v. (v.ticket_info, (v.nonce, (v.timestamp, (v.usec, (v.s_address, v.r_address))))))
    (λ p. record {
      ticket_info = p.0;
      nonce = p.1.0;
      timestamp = p.1.1.0;
      usec = p.1.1.1.0;
      s_address = p.1.1.1.1.0;
      r_address = p.1.1.1.1.1;
    }) (λ v. refl)
    (pair_decides (tag_decides (list_decides (returns-clause-krb_cred_info c))) (pair_decides (optional_decides (tag_decides integers_decide))
    (pair_decides (optional_decides (tag_decides times_decide)) (pair_decides (optional_decides (tag_decides integers_decide))
    (pair_decides (optional_decides (tag_decides c.equality.ensures.host_address)) (optional_decides (tag_decides c.equality.ensures.host_address)))))))

pub returns-clause-enc_krb_priv_part : goal.returns-clause-enc_krb_priv_part
returns-clause-enc_krb_priv_part c =
    parts_decide (λ v. (v.user_data, (v.timestamp, (v.usec, (v.seq_number, (v.s_address, v.r_address))))))
    (λ p. record {
      user_data = p.0;
      timestamp = p.1.0;
      usec = p.1.1.0;
      seq_number = p.1.1.1.0;
      s_address = p.1.1.1.1.0;
      r_address = p.1.1.1.1.1;
    }) (λ v. refl)
    (pair_decides (tag_decides octets_decide) (pair_decides (optional_decides (tag_decides times_decide))
    (pair_decides (optional_decides (tag_decides integers_decide)) (pair_decides (optional_decides (tag_decides integers_decide))
    (pair_decides (tag_decides c.equality.ensures.host_address) (optional_decides (tag_decides c.equality.ensures.host_address)))))))

pub returns-clause-enc_ticket_part : goal.returns-clause-enc_ticket_part
returns-clause-enc_ticket_part c =
    parts_decide (λ v. (
      v.flags,
      (
        v.key,
        (
          v.crealm,
          (
            v.cname,
            (
              v.transited,
              (
                v.auth_time,
                (
                  v.starttime,
                  (
                    v.endtime,
                    (
                      v.renew_till,
                      (v.caddr, v.authorization_data),
                    ),
                  ),
                ),
              ),
            ),
          ),
        ),
      ),
    ))
    (λ p. record {
      flags = p.0;
      key = p.1.0;
      crealm = p.1.1.0;
      cname = p.1.1.1.0;
      transited = p.1.1.1.1.0;
      auth_time = p.1.1.1.1.1.0;
      starttime = p.1.1.1.1.1.1.0;
      endtime = p.1.1.1.1.1.1.1.0;
      renew_till = p.1.1.1.1.1.1.1.1.0;
      caddr = p.1.1.1.1.1.1.1.1.1.0;
      authorization_data = p.1.1.1.1.1.1.1.1.1.1;
    }) (λ v. refl)
    (pair_decides (tag_decides bits_decide) (pair_decides (tag_decides c.equality.ensures.encryption_key) (pair_decides (tag_decides octets_decide)
    (pair_decides (tag_decides c.equality.ensures.principal_name) (pair_decides (tag_decides c.equality.ensures.transited_encoding)
    (pair_decides (tag_decides times_decide) (pair_decides (optional_decides (tag_decides times_decide)) (pair_decides (tag_decides times_decide)
    (pair_decides (optional_decides (tag_decides times_decide))
    (pair_decides (optional_decides (tag_decides (list_decides c.equality.ensures.host_address))) (optional_decides (tag_decides (list_decides c.equality.ensures.authorization_data)))))))))))))
