use Rattle.std.proofs.Common.{refl, codes}
use Rattle.krb_schema.specs.Types.{shapes, types}
use Rattle.krb_show_row_laws.proofs.TiedTypes.{tied}
use Rattle.krb_show_row_laws.proofs.CertificateRows.{pku2u_nego_body, pku2u_nego_body_tie, pku2u_nego_body_same, pku2u_nego_body_valid, pku2u_nego_body_right, krb_finished, krb_finished_tie, krb_finished_same, krb_finished_valid, krb_finished_right, pk_authenticator, pk_authenticator_tie, pk_authenticator_same, pk_authenticator_valid, pk_authenticator_right, kdc_dh_key_info, kdc_dh_key_info_tie, kdc_dh_key_info_same, kdc_dh_key_info_valid, kdc_dh_key_info_right, ts_credentials, ts_credentials_tie, ts_credentials_same, ts_credentials_valid, ts_credentials_right, ts_password_creds, ts_password_creds_tie, ts_password_creds_same, ts_password_creds_valid, ts_password_creds_right, ts_smart_card_creds, ts_smart_card_creds_tie, ts_smart_card_creds_same, ts_smart_card_creds_valid, ts_smart_card_creds_right, ts_csp_data_detail, ts_csp_data_detail_tie, ts_csp_data_detail_same, ts_csp_data_detail_valid, ts_csp_data_detail_right, ts_remote_guard_creds, ts_remote_guard_creds_tie, ts_remote_guard_creds_same, ts_remote_guard_creds_valid, ts_remote_guard_creds_right, ts_remote_guard_package_cred, ts_remote_guard_package_cred_tie, ts_remote_guard_package_cred_same, ts_remote_guard_package_cred_valid, ts_remote_guard_package_cred_right}
use Rattle.krb_show_row_laws.proofs.CertificateErrors.{pku2u_nego_body_refused, krb_finished_refused, pk_authenticator_refused, kdc_dh_key_info_refused, ts_credentials_refused, ts_password_creds_refused, ts_smart_card_creds_refused, ts_csp_data_detail_refused, ts_remote_guard_creds_refused, ts_remote_guard_package_cred_refused}
use Rattle.krb_show_row_laws.proofs.laws.rows_of_certificates.Goals as goal

pub returns-clause-pku2u_body : goal.returns-clause-pku2u_body
unfolding shapes types
returns-clause-pku2u_body c = tied pku2u_nego_body (codes "PKU2U-NEGO-BODY") 99 refl (λ schema k. pku2u_nego_body_tie schema k 60) (record {
  to = λ v. v;
  of = λ v. v;
  enc_to = pku2u_nego_body_same;
  enc_of = pku2u_nego_body_same;
  valid_to = pku2u_nego_body_valid;
  valid_of = pku2u_nego_body_right;
}) (λ schema k. pku2u_nego_body_refused schema k 60)

pub returns-clause-krb_finished : goal.returns-clause-krb_finished
unfolding shapes types
returns-clause-krb_finished c = tied krb_finished (codes "KRB-FINISHED") 103 refl (λ schema k. krb_finished_tie schema k 61) (record {
  to = λ v. v;
  of = λ v. v;
  enc_to = krb_finished_same;
  enc_of = krb_finished_same;
  valid_to = krb_finished_valid;
  valid_of = krb_finished_right;
}) (λ schema k. krb_finished_refused schema k 61)

pub returns-clause-pk_authenticator : goal.returns-clause-pk_authenticator
unfolding shapes types
returns-clause-pk_authenticator c = tied pk_authenticator (codes "PKAuthenticator") 112 refl (λ schema k. pk_authenticator_tie schema k 62) (record {
  to = λ v. v;
  of = λ v. v;
  enc_to = pk_authenticator_same;
  enc_of = pk_authenticator_same;
  valid_to = pk_authenticator_valid;
  valid_of = pk_authenticator_right;
}) (λ schema k. pk_authenticator_refused schema k 62)

pub returns-clause-key_info : goal.returns-clause-key_info
unfolding shapes types
returns-clause-key_info c = tied kdc_dh_key_info (codes "KDCDHKeyInfo") 116 refl (λ schema k. kdc_dh_key_info_tie schema k 62) (record {
  to = λ v. v;
  of = λ v. v;
  enc_to = kdc_dh_key_info_same;
  enc_of = kdc_dh_key_info_same;
  valid_to = kdc_dh_key_info_valid;
  valid_of = kdc_dh_key_info_right;
}) (λ schema k. kdc_dh_key_info_refused schema k 62)

pub returns-clause-credentials : goal.returns-clause-credentials
unfolding shapes types
returns-clause-credentials c = tied ts_credentials (codes "TSCredentials") 124 refl (λ schema k. ts_credentials_tie schema k 62) (record {
  to = λ v. v;
  of = λ v. v;
  enc_to = ts_credentials_same;
  enc_of = ts_credentials_same;
  valid_to = ts_credentials_valid;
  valid_of = ts_credentials_right;
}) (λ schema k. ts_credentials_refused schema k 62)

pub returns-clause-password : goal.returns-clause-password
unfolding shapes types
returns-clause-password c = tied ts_password_creds (codes "TSPasswordCreds") 125 refl (λ schema k. ts_password_creds_tie schema k 62) (record {
  to = λ v. v;
  of = λ v. v;
  enc_to = ts_password_creds_same;
  enc_of = ts_password_creds_same;
  valid_to = ts_password_creds_valid;
  valid_of = ts_password_creds_right;
}) (λ schema k. ts_password_creds_refused schema k 62)

pub returns-clause-smart_card : goal.returns-clause-smart_card
unfolding shapes types
returns-clause-smart_card c = tied ts_smart_card_creds (codes "TSSmartCardCreds") 126 refl (λ schema k. ts_smart_card_creds_tie schema k 61) (record {
  to = λ v. v;
  of = λ v. v;
  enc_to = ts_smart_card_creds_same;
  enc_of = ts_smart_card_creds_same;
  valid_to = ts_smart_card_creds_valid;
  valid_of = ts_smart_card_creds_right;
}) (λ schema k. ts_smart_card_creds_refused schema k 61)

pub returns-clause-csp_data : goal.returns-clause-csp_data
unfolding shapes types
returns-clause-csp_data c = tied ts_csp_data_detail (codes "TSCspDataDetail") 127 refl (λ schema k. ts_csp_data_detail_tie schema k 62) (record {
  to = λ v. v;
  of = λ v. v;
  enc_to = ts_csp_data_detail_same;
  enc_of = ts_csp_data_detail_same;
  valid_to = ts_csp_data_detail_valid;
  valid_of = ts_csp_data_detail_right;
}) (λ schema k. ts_csp_data_detail_refused schema k 62)

pub returns-clause-remote_guard : goal.returns-clause-remote_guard
unfolding shapes types
returns-clause-remote_guard c = tied ts_remote_guard_creds (codes "TSRemoteGuardCreds") 129 refl (λ schema k. ts_remote_guard_creds_tie schema k 60) (record {
  to = λ v. v;
  of = λ v. v;
  enc_to = ts_remote_guard_creds_same;
  enc_of = ts_remote_guard_creds_same;
  valid_to = ts_remote_guard_creds_valid;
  valid_of = ts_remote_guard_creds_right;
}) (λ schema k. ts_remote_guard_creds_refused schema k 60)

pub returns-clause-package : goal.returns-clause-package
unfolding shapes types
returns-clause-package c = tied ts_remote_guard_package_cred (codes "TSRemoteGuardPackageCred") 130 refl (λ schema k. ts_remote_guard_package_cred_tie schema k 62) (record {
  to = λ v. v;
  of = λ v. v;
  enc_to = ts_remote_guard_package_cred_same;
  enc_of = ts_remote_guard_package_cred_same;
  valid_to = ts_remote_guard_package_cred_valid;
  valid_of = ts_remote_guard_package_cred_right;
}) (λ schema k. ts_remote_guard_package_cred_refused schema k 62)
