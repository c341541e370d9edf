use Rattle.std.proofs.Common.{refl}
use Rattle.krb_der.specs.EqualityLaws.{octets_decide, integers_decide, times_decide, bits_decide, list_decides, tag_decides, optional_decides, pair_decides, parts_decide}
use Rattle.krb_pkinit.proofs.laws.equality.Goals as goal

pub returns-clause-external_principal_identifier : goal.returns-clause-external_principal_identifier
returns-clause-external_principal_identifier c =
    parts_decide (λ v. (v.subject_name, (v.issuer_and_serial_number, v.subject_key_identifier))) (λ p. record {
      subject_name = p.0;
      issuer_and_serial_number = p.1.0;
      subject_key_identifier = p.1.1;
    }) (λ v. refl)
    (pair_decides (optional_decides (tag_decides octets_decide)) (pair_decides (optional_decides (tag_decides octets_decide)) (optional_decides (tag_decides octets_decide))))

pub returns-clause-pa_pk_as_req : goal.returns-clause-pa_pk_as_req
returns-clause-pa_pk_as_req c =
    parts_decide (λ v. (v.signed_auth_pack, (v.trusted_certifiers, v.kdc_pk_id))) (λ p. record {
      signed_auth_pack = p.0;
      trusted_certifiers = p.1.0;
      kdc_pk_id = p.1.1;
    }) (λ v. refl)
    (pair_decides (tag_decides octets_decide)
    (pair_decides (optional_decides (tag_decides (list_decides (returns-clause-external_principal_identifier c)))) (optional_decides (tag_decides octets_decide))))

pub returns-clause-pk_authenticator : goal.returns-clause-pk_authenticator
returns-clause-pk_authenticator c =
    parts_decide (λ v. (v.cusec, (v.ctime, (v.nonce, v.pa_checksum)))) (λ p. record {
      cusec = p.0;
      ctime = p.1.0;
      nonce = p.1.1.0;
      pa_checksum = p.1.1.1;
    }) (λ v. refl)
    (pair_decides (tag_decides integers_decide) (pair_decides (tag_decides times_decide) (pair_decides (tag_decides integers_decide) (optional_decides (tag_decides octets_decide)))))

pub returns-clause-dh_rep_info : goal.returns-clause-dh_rep_info
returns-clause-dh_rep_info c =
    parts_decide (λ v. (v.dh_signed_data, v.server_dh_nonce)) (λ p. record { dh_signed_data = p.0; server_dh_nonce = p.1 }) (λ v. refl)
    (pair_decides (tag_decides octets_decide) (optional_decides (tag_decides octets_decide)))

pub returns-clause-kdc_dh_key_info : goal.returns-clause-kdc_dh_key_info
returns-clause-kdc_dh_key_info c =
    parts_decide (λ v. (v.subject_public_key, (v.nonce, v.dh_key_expiration))) (λ p. record {
      subject_public_key = p.0;
      nonce = p.1.0;
      dh_key_expiration = p.1.1;
    }) (λ v. refl)
    (pair_decides (tag_decides bits_decide) (pair_decides (tag_decides integers_decide) (optional_decides (tag_decides times_decide))))
