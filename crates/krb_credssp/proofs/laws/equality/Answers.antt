use Rattle.std.proofs.Common.{refl}
use Rattle.krb_der.specs.EqualityLaws.{octets_decide, integers_decide, list_decides, tag_decides, optional_decides, pair_decides, parts_decide}
use Rattle.krb_credssp.proofs.laws.equality.Goals as goal

pub returns-clause-ts_credentials : goal.returns-clause-ts_credentials
returns-clause-ts_credentials c =
    parts_decide (λ v. (v.cred_type, v.credentials)) (λ p. record { cred_type = p.0; credentials = p.1 }) (λ v. refl)
    (pair_decides (tag_decides integers_decide) (tag_decides octets_decide))

pub returns-clause-ts_password_creds : goal.returns-clause-ts_password_creds
returns-clause-ts_password_creds c =
    parts_decide (λ v. (v.domain_name, (v.user_name, v.password))) (λ p. record { domain_name = p.0; user_name = p.1.0; password = p.1.1 }) (λ v. refl)
    (pair_decides (tag_decides octets_decide) (pair_decides (tag_decides octets_decide) (tag_decides octets_decide)))

pub returns-clause-ts_csp_data_detail : goal.returns-clause-ts_csp_data_detail
returns-clause-ts_csp_data_detail c =
    parts_decide (λ v. (v.key_spec, (v.card_name, (v.reader_name, (v.container_name, v.csp_name))))) (λ p. record {
      key_spec = p.0;
      card_name = p.1.0;
      reader_name = p.1.1.0;
      container_name = p.1.1.1.0;
      csp_name = p.1.1.1.1;
    }) (λ v. refl)
    (pair_decides (tag_decides integers_decide) (pair_decides (optional_decides (tag_decides octets_decide))
    (pair_decides (optional_decides (tag_decides octets_decide))
    (pair_decides (optional_decides (tag_decides octets_decide)) (optional_decides (tag_decides octets_decide))))))

pub returns-clause-ts_smart_card_creds : goal.returns-clause-ts_smart_card_creds
returns-clause-ts_smart_card_creds c =
    parts_decide (λ v. (v.pin, (v.csp_data, (v.user_hint, v.domain_hint)))) (λ p. record {
      pin = p.0;
      csp_data = p.1.0;
      user_hint = p.1.1.0;
      domain_hint = p.1.1.1;
    }) (λ v. refl)
    (pair_decides (tag_decides octets_decide) (pair_decides (tag_decides (returns-clause-ts_csp_data_detail c))
    (pair_decides (optional_decides (tag_decides octets_decide)) (optional_decides (tag_decides octets_decide)))))

pub returns-clause-ts_remote_guard_package_cred : goal.returns-clause-ts_remote_guard_package_cred
returns-clause-ts_remote_guard_package_cred c =
    parts_decide (λ v. (v.package_name, v.cred_buffer)) (λ p. record { package_name = p.0; cred_buffer = p.1 }) (λ v. refl)
    (pair_decides (tag_decides octets_decide) (tag_decides octets_decide))

pub returns-clause-ts_remote_guard_creds : goal.returns-clause-ts_remote_guard_creds
returns-clause-ts_remote_guard_creds c =
    parts_decide (λ v. (v.logon_cred, v.supplemental_creds)) (λ p. record { logon_cred = p.0; supplemental_creds = p.1 }) (λ v. refl)
    (pair_decides (tag_decides (returns-clause-ts_remote_guard_package_cred c)) (optional_decides (tag_decides (list_decides (returns-clause-ts_remote_guard_package_cred c)))))
