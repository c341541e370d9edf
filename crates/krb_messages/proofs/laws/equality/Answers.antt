use Rattle.std.proofs.Common.{refl}
use Rattle.krb_der.specs.EqualityLaws.{numbers_decide, octets_decide, integers_decide, times_decide, tag_decides, optional_decides, pair_decides, parts_decide}
use Rattle.krb_messages.proofs.laws.equality.Goals as goal

pub returns-clause-krb_error : goal.returns-clause-krb_error
returns-clause-krb_error c =
    parts_decide (λ v. (
      v.pvno,
      (
        v.msg_type,
        (
          v.ctime,
          (
            v.cusec,
            (
              v.stime,
              (
                v.susec,
                (
                  v.error_code,
                  (
                    v.crealm,
                    (
                      v.cname,
                      (
                        v.realm,
                        (v.sname, (v.e_text, v.e_data)),
                      ),
                    ),
                  ),
                ),
              ),
            ),
          ),
        ),
      ),
    )) (λ p. record {
      pvno = p.0;
      msg_type = p.1.0;
      ctime = p.1.1.0;
      cusec = p.1.1.1.0;
      stime = p.1.1.1.1.0;
      susec = p.1.1.1.1.1.0;
      error_code = p.1.1.1.1.1.1.0;
      crealm = p.1.1.1.1.1.1.1.0;
      cname = p.1.1.1.1.1.1.1.1.0;
      realm = p.1.1.1.1.1.1.1.1.1.0;
      sname = p.1.1.1.1.1.1.1.1.1.1.0;
      e_text = p.1.1.1.1.1.1.1.1.1.1.1.0;
      e_data = p.1.1.1.1.1.1.1.1.1.1.1.1;
    }) (λ v. refl)
    (pair_decides (tag_decides integers_decide) (pair_decides (tag_decides integers_decide) (pair_decides (optional_decides (tag_decides times_decide))
    (pair_decides (optional_decides (tag_decides integers_decide)) (pair_decides (tag_decides times_decide)
    (pair_decides (tag_decides integers_decide) (pair_decides (tag_decides numbers_decide)
    (pair_decides (optional_decides (tag_decides octets_decide))
    (pair_decides (optional_decides (tag_decides c.equality.ensures.principal_name)) (pair_decides (tag_decides octets_decide)
    (pair_decides (tag_decides c.equality.ensures.principal_name)
    (pair_decides (optional_decides (tag_decides octets_decide)) (optional_decides (tag_decides octets_decide))))))))))))))

pub returns-clause-kdc_proxy_message : goal.returns-clause-kdc_proxy_message
returns-clause-kdc_proxy_message c =
    parts_decide (λ v. (v.kerb_message, (v.target_domain, v.dclocator_hint))) (λ p. record {
      kerb_message = p.0;
      target_domain = p.1.0;
      dclocator_hint = p.1.1;
    }) (λ v. refl)
    (pair_decides (tag_decides octets_decide) (pair_decides (optional_decides (tag_decides octets_decide)) (optional_decides (tag_decides integers_decide))))
