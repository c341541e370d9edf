use Rattle.std.proofs.Common.{refl, codes}
use Rattle.krb_schema.specs.Types.{shapes, types}
use Rattle.krb_show_row_laws.proofs.TiedTypes.{tied}
use Rattle.krb_show_row_laws.proofs.PublicKeyRows.{pku2u_nego_req_metadata, pku2u_nego_req_metadata_tie, pku2u_nego_req_metadata_same, pku2u_nego_req_metadata_valid, pku2u_nego_req_metadata_right, pku2u_nego_req, pku2u_nego_req_tie, pku2u_nego_req_same, pku2u_nego_req_valid, pku2u_nego_req_right, pku2u_nego_rep, pku2u_nego_rep_tie, pku2u_nego_rep_same, pku2u_nego_rep_valid, pku2u_nego_rep_right, pa_pk_as_req, pa_pk_as_req_tie, pa_pk_as_req_same, pa_pk_as_req_valid, pa_pk_as_req_right, external_principal_identifier, external_principal_identifier_tie, external_principal_identifier_same, external_principal_identifier_valid, external_principal_identifier_right, dh_auth_pack, dh_auth_pack_tie, dh_auth_pack_same, dh_auth_pack_valid, dh_auth_pack_right, ec_auth_pack, ec_auth_pack_tie, ec_auth_pack_same, ec_auth_pack_valid, ec_auth_pack_right, dh_rep_info, dh_rep_info_tie, dh_rep_info_same, dh_rep_info_valid, dh_rep_info_right, algorithm_identifier, algorithm_identifier_tie, algorithm_identifier_same, algorithm_identifier_valid, algorithm_identifier_right, subject_public_key_info, subject_public_key_info_tie, subject_public_key_info_same, subject_public_key_info_valid, subject_public_key_info_right, dh_req_info, dh_req_info_tie, dh_req_info_same, dh_req_info_valid, dh_req_info_right, dh_domain_parameters, dh_domain_parameters_tie, dh_domain_parameters_same, dh_domain_parameters_valid, dh_domain_parameters_right, validation_params, validation_params_tie, validation_params_same, validation_params_valid, validation_params_right}
use Rattle.krb_show_row_laws.proofs.PublicKeyErrors.{pku2u_nego_req_metadata_refused, pku2u_nego_req_refused, pku2u_nego_rep_refused, pa_pk_as_req_refused, external_principal_identifier_refused, dh_auth_pack_refused, ec_auth_pack_refused, dh_rep_info_refused, algorithm_identifier_refused, subject_public_key_info_refused, dh_req_info_refused, dh_domain_parameters_refused, validation_params_refused}
use Rattle.krb_show_row_laws.proofs.laws.rows_of_public_keys.Goals as goal

pub returns-clause-metadata : goal.returns-clause-metadata
unfolding shapes types
returns-clause-metadata c = tied pku2u_nego_req_metadata (codes "PKU2U-NEGO-REQ-METADATA") 98 refl (λ schema k. pku2u_nego_req_metadata_tie schema k 62) (record {
  to = λ v. v;
  of = λ v. v;
  enc_to = pku2u_nego_req_metadata_same;
  enc_of = pku2u_nego_req_metadata_same;
  valid_to = pku2u_nego_req_metadata_valid;
  valid_of = pku2u_nego_req_metadata_right;
}) (λ schema k. pku2u_nego_req_metadata_refused schema k 62)

pub returns-clause-nego_req : goal.returns-clause-nego_req
unfolding shapes types
returns-clause-nego_req c = tied pku2u_nego_req (codes "PKU2U-NEGO-REQ") 101 refl (λ schema k. pku2u_nego_req_tie schema k 59) (record {
  to = λ v. v;
  of = λ v. v;
  enc_to = pku2u_nego_req_same;
  enc_of = pku2u_nego_req_same;
  valid_to = pku2u_nego_req_valid;
  valid_of = pku2u_nego_req_right;
}) (λ schema k. pku2u_nego_req_refused schema k 59)

pub returns-clause-nego_rep : goal.returns-clause-nego_rep
unfolding shapes types
returns-clause-nego_rep c = tied pku2u_nego_rep (codes "PKU2U-NEGO-REP") 102 refl (λ schema k. pku2u_nego_rep_tie schema k 60) (record {
  to = λ v. v;
  of = λ v. v;
  enc_to = pku2u_nego_rep_same;
  enc_of = pku2u_nego_rep_same;
  valid_to = pku2u_nego_rep_valid;
  valid_of = pku2u_nego_rep_right;
}) (λ schema k. pku2u_nego_rep_refused schema k 60)

pub returns-clause-request : goal.returns-clause-request
unfolding shapes types
returns-clause-request c = tied pa_pk_as_req (codes "PA-PK-AS-REQ") 106 refl (λ schema k. pa_pk_as_req_tie schema k 60) (record {
  to = λ v. v;
  of = λ v. v;
  enc_to = pa_pk_as_req_same;
  enc_of = pa_pk_as_req_same;
  valid_to = pa_pk_as_req_valid;
  valid_of = pa_pk_as_req_right;
}) (λ schema k. pa_pk_as_req_refused schema k 60)

pub returns-clause-certifier : goal.returns-clause-certifier
unfolding shapes types
returns-clause-certifier c = tied external_principal_identifier (codes "ExternalPrincipalIdentifier") 108 refl (λ schema k. external_principal_identifier_tie schema k 62) (record {
  to = λ v. v;
  of = λ v. v;
  enc_to = external_principal_identifier_same;
  enc_of = external_principal_identifier_same;
  valid_to = external_principal_identifier_valid;
  valid_of = external_principal_identifier_right;
}) (λ schema k. external_principal_identifier_refused schema k 62)

pub returns-clause-dh_auth_pack : goal.returns-clause-dh_auth_pack
unfolding shapes types
returns-clause-dh_auth_pack c = tied dh_auth_pack (codes "DHAuthPack") 110 refl (λ schema k. dh_auth_pack_tie schema k 58) (record {
  to = λ v. v;
  of = λ v. v;
  enc_to = dh_auth_pack_same;
  enc_of = dh_auth_pack_same;
  valid_to = dh_auth_pack_valid;
  valid_of = dh_auth_pack_right;
}) (λ schema k. dh_auth_pack_refused schema k 58)

pub returns-clause-ec_auth_pack : goal.returns-clause-ec_auth_pack
unfolding shapes types
returns-clause-ec_auth_pack c = tied ec_auth_pack (codes "ECAuthPack") 111 refl (λ schema k. ec_auth_pack_tie schema k 60) (record {
  to = λ v. v;
  of = λ v. v;
  enc_to = ec_auth_pack_same;
  enc_of = ec_auth_pack_same;
  valid_to = ec_auth_pack_valid;
  valid_of = ec_auth_pack_right;
}) (λ schema k. ec_auth_pack_refused schema k 60)

pub returns-clause-dh_reply : goal.returns-clause-dh_reply
unfolding shapes types
returns-clause-dh_reply c = tied dh_rep_info (codes "DHRepInfo") 115 refl (λ schema k. dh_rep_info_tie schema k 62) (record {
  to = λ v. v;
  of = λ v. v;
  enc_to = dh_rep_info_same;
  enc_of = dh_rep_info_same;
  valid_to = dh_rep_info_valid;
  valid_of = dh_rep_info_right;
}) (λ schema k. dh_rep_info_refused schema k 62)

pub returns-clause-dh_public_key : goal.returns-clause-dh_public_key
unfolding shapes types
returns-clause-dh_public_key c = tied dh_req_info (codes "DHSubjectPublicKeyInfo") 120 refl (λ schema k. dh_req_info_tie schema k 59) (record {
  to = λ v. v;
  of = λ v. v;
  enc_to = dh_req_info_same;
  enc_of = dh_req_info_same;
  valid_to = dh_req_info_valid;
  valid_of = dh_req_info_right;
}) (λ schema k. dh_req_info_refused schema k 59)

pub returns-clause-domain : goal.returns-clause-domain
unfolding shapes types
returns-clause-domain c = tied dh_domain_parameters (codes "DomainParameters") 121 refl (λ schema k. dh_domain_parameters_tie schema k 61) (record {
  to = λ v. v;
  of = λ v. v;
  enc_to = dh_domain_parameters_same;
  enc_of = dh_domain_parameters_same;
  valid_to = dh_domain_parameters_valid;
  valid_of = dh_domain_parameters_right;
}) (λ schema k. dh_domain_parameters_refused schema k 61)

pub returns-clause-validation : goal.returns-clause-validation
unfolding shapes types
returns-clause-validation c = tied validation_params (codes "ValidationParms") 122 refl (λ schema k. validation_params_tie schema k 62) (record {
  to = λ v. v;
  of = λ v. v;
  enc_to = validation_params_same;
  enc_of = validation_params_same;
  valid_to = validation_params_valid;
  valid_of = validation_params_right;
}) (λ schema k. validation_params_refused schema k 62)

pub returns-clause-algorithm : goal.returns-clause-algorithm
unfolding shapes types
returns-clause-algorithm c = tied algorithm_identifier (codes "AlgorithmIdentifier") 117 refl (λ schema k. algorithm_identifier_tie schema k 62) (record {
  to = λ v. v;
  of = λ v. v;
  enc_to = algorithm_identifier_same;
  enc_of = algorithm_identifier_same;
  valid_to = algorithm_identifier_valid;
  valid_of = algorithm_identifier_right;
}) (λ schema k. algorithm_identifier_refused schema k 62)

pub returns-clause-public_key : goal.returns-clause-public_key
unfolding shapes types
returns-clause-public_key c = tied subject_public_key_info (codes "SubjectPublicKeyInfo") 118 refl (λ schema k. subject_public_key_info_tie schema k 61) (record {
  to = λ v. v;
  of = λ v. v;
  enc_to = subject_public_key_info_same;
  enc_of = subject_public_key_info_same;
  valid_to = subject_public_key_info_valid;
  valid_of = subject_public_key_info_right;
}) (λ schema k. subject_public_key_info_refused schema k 61)
