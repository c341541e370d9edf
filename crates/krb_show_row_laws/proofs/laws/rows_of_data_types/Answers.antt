use Rattle.std.proofs.Common.{refl, ap, codes, true, false, lit≤}
use Rattle.krb_der_core.specs.Tlv.{tlv}
use Rattle.krb_schema.specs.Types.{shapes, types}
use Rattle.krb_show_row_laws.proofs.Codecs.{sequence_of, tagged}
use Rattle.krb_show_row_laws.proofs.CodecRows.{all_as, flat_map_same, list_tie, tagged_tie}
use Rattle.krb_show_row_laws.proofs.FaultRows.{application_refused, list_refused}
use Rattle.krb_show_row_laws.proofs.TiedTypes.{tied}
use Rattle.krb_show_row_laws.proofs.DataTypeRows.{principal_name, principal_name_tie, principal_name_same, principal_name_valid, principal_name_right, host_address, host_address_tie, host_address_same, host_address_valid, host_address_right, authorization_data, authorization_data_tie, authorization_data_same, authorization_data_valid, authorization_data_right, encrypted_data, encrypted_data_tie, encrypted_data_same, encrypted_data_valid, encrypted_data_right, encryption_key, encryption_key_tie, encryption_key_same, encryption_key_valid, encryption_key_right, checksum, checksum_tie, checksum_same, checksum_valid, checksum_right, ticket, ticket_tie, ticket_same, ticket_valid, ticket_right, transited_encoding, transited_encoding_tie, transited_encoding_same, transited_encoding_valid, transited_encoding_right, pa_data, pa_data_tie, pa_data_same, pa_data_valid, pa_data_right, pa_enc_ts_enc, pa_enc_ts_enc_tie, pa_enc_ts_enc_same, pa_enc_ts_enc_valid, pa_enc_ts_enc_right, etype_info2_entry, etype_info2_entry_tie, etype_info2_entry_same, etype_info2_entry_valid, etype_info2_entry_right, kerb_pa_pac_request, kerb_pa_pac_request_tie, kerb_pa_pac_request_same, kerb_pa_pac_request_valid, kerb_pa_pac_request_right, pa_pac_options, pa_pac_options_tie, pa_pac_options_same, pa_pac_options_valid, pa_pac_options_right, last_req, last_req_tie, last_req_same, last_req_valid, last_req_right, kerb_error_data, kerb_error_data_tie, kerb_error_data_same, kerb_error_data_valid, kerb_error_data_right, kerb_ad_restriction_entry, kerb_ad_restriction_entry_tie, kerb_ad_restriction_entry_same, kerb_ad_restriction_entry_valid, kerb_ad_restriction_entry_right, change_passwd_data, change_passwd_data_tie, change_passwd_data_same, change_passwd_data_valid, change_passwd_data_right}
use Rattle.krb_show_row_laws.proofs.DataTypeErrors.{principal_name_refused, host_address_refused, authorization_data_refused, encrypted_data_refused, encryption_key_refused, checksum_refused, ticket_refused, transited_encoding_refused, pa_data_refused, pa_enc_ts_enc_refused, etype_info2_entry_refused, kerb_pa_pac_request_refused, pa_pac_options_refused, last_req_refused, kerb_error_data_refused, kerb_ad_restriction_entry_refused, change_passwd_data_refused}
use Rattle.krb_show_row_laws.proofs.laws.rows_of_data_types.Goals as goal

pub returns-clause-principal_name : goal.returns-clause-principal_name
unfolding shapes types
returns-clause-principal_name c = tied principal_name (codes "PrincipalName") 15 refl (λ schema k. principal_name_tie schema k 61) (record {
  to = λ v. v;
  of = λ v. v;
  enc_to = principal_name_same;
  enc_of = principal_name_same;
  valid_to = principal_name_valid;
  valid_of = principal_name_right;
}) (λ schema k. principal_name_refused schema k 61)

pub returns-clause-host_address : goal.returns-clause-host_address
unfolding shapes types
returns-clause-host_address c = tied host_address (codes "HostAddress") 16 refl (λ schema k. host_address_tie schema k 62) (record {
  to = λ v. v;
  of = λ v. v;
  enc_to = host_address_same;
  enc_of = host_address_same;
  valid_to = host_address_valid;
  valid_of = host_address_right;
}) (λ schema k. host_address_refused schema k 62)

pub returns-clause-host_addresses : goal.returns-clause-host_addresses
unfolding shapes types
returns-clause-host_addresses c = tied (sequence_of host_address) (codes "HostAddresses") 17 refl (λ schema k. list_tie schema k 63 17 16 true _ refl (host_address_tie schema k 61)) (record {
  to = λ v. v;
  of = λ v. v;
  enc_to = λ xs. ap (tlv 48) (flat_map_same host_address_same xs);
  enc_of = λ xs. ap (tlv 48) (flat_map_same host_address_same xs);
  valid_to = all_as host_address_valid;
  valid_of = all_as host_address_right;
}) (λ schema k. list_refused schema k 63 17 16 true _ refl (host_address_refused schema k 61))

pub returns-clause-authorization_data : goal.returns-clause-authorization_data
unfolding shapes types
returns-clause-authorization_data c = tied (sequence_of authorization_data) (codes "AuthorizationData") 20 refl (λ schema k. list_tie schema k 63 20 19 true _ refl (authorization_data_tie schema k 61)) (record {
  to = λ v. v;
  of = λ v. v;
  enc_to = λ xs. ap (tlv 48) (flat_map_same authorization_data_same xs);
  enc_of = λ xs. ap (tlv 48) (flat_map_same authorization_data_same xs);
  valid_to = all_as authorization_data_valid;
  valid_of = all_as authorization_data_right;
}) (λ schema k. list_refused schema k 63 20 19 true _ refl (authorization_data_refused schema k 61))

pub returns-clause-encrypted_data : goal.returns-clause-encrypted_data
unfolding shapes types
returns-clause-encrypted_data c = tied encrypted_data (codes "EncryptedData") 23 refl (λ schema k. encrypted_data_tie schema k 62) (record {
  to = λ v. v;
  of = λ v. v;
  enc_to = encrypted_data_same;
  enc_of = encrypted_data_same;
  valid_to = encrypted_data_valid;
  valid_of = encrypted_data_right;
}) (λ schema k. encrypted_data_refused schema k 62)

pub returns-clause-encryption_key : goal.returns-clause-encryption_key
unfolding shapes types
returns-clause-encryption_key c = tied encryption_key (codes "EncryptionKey") 24 refl (λ schema k. encryption_key_tie schema k 62) (record {
  to = λ v. v;
  of = λ v. v;
  enc_to = encryption_key_same;
  enc_of = encryption_key_same;
  valid_to = encryption_key_valid;
  valid_of = encryption_key_right;
}) (λ schema k. encryption_key_refused schema k 62)

pub returns-clause-checksum : goal.returns-clause-checksum
unfolding shapes types
returns-clause-checksum c = tied checksum (codes "Checksum") 25 refl (λ schema k. checksum_tie schema k 62) (record {
  to = λ v. v;
  of = λ v. v;
  enc_to = checksum_same;
  enc_of = checksum_same;
  valid_to = checksum_valid;
  valid_of = checksum_right;
}) (λ schema k. checksum_refused schema k 62)

pub returns-clause-transited_encoding : goal.returns-clause-transited_encoding
unfolding shapes types
returns-clause-transited_encoding c = tied transited_encoding (codes "TransitedEncoding") 31 refl (λ schema k. transited_encoding_tie schema k 62) (record {
  to = λ v. v;
  of = λ v. v;
  enc_to = transited_encoding_same;
  enc_of = transited_encoding_same;
  valid_to = transited_encoding_valid;
  valid_of = transited_encoding_right;
}) (λ schema k. transited_encoding_refused schema k 62)

pub returns-clause-last_req : goal.returns-clause-last_req
unfolding shapes types
returns-clause-last_req c = tied (sequence_of last_req) (codes "LastReq") 62 refl (λ schema k. list_tie schema k 63 62 61 false _ refl (last_req_tie schema k 61)) (record {
  to = λ v. v;
  of = λ v. v;
  enc_to = λ xs. ap (tlv 48) (flat_map_same last_req_same xs);
  enc_of = λ xs. ap (tlv 48) (flat_map_same last_req_same xs);
  valid_to = all_as last_req_valid;
  valid_of = all_as last_req_right;
}) (λ schema k. list_refused schema k 63 62 61 false _ refl (last_req_refused schema k 61))

pub returns-clause-pa_data : goal.returns-clause-pa_data
unfolding shapes types
returns-clause-pa_data c = tied pa_data (codes "PA-DATA") 33 refl (λ schema k. pa_data_tie schema k 62) (record {
  to = λ v. v;
  of = λ v. v;
  enc_to = pa_data_same;
  enc_of = pa_data_same;
  valid_to = pa_data_valid;
  valid_of = pa_data_right;
}) (λ schema k. pa_data_refused schema k 62)

pub returns-clause-pa_enc_ts_enc : goal.returns-clause-pa_enc_ts_enc
unfolding shapes types
returns-clause-pa_enc_ts_enc c = tied pa_enc_ts_enc (codes "PA-ENC-TS-ENC") 35 refl (λ schema k. pa_enc_ts_enc_tie schema k 62) (record {
  to = λ v. v;
  of = λ v. v;
  enc_to = pa_enc_ts_enc_same;
  enc_of = pa_enc_ts_enc_same;
  valid_to = pa_enc_ts_enc_valid;
  valid_of = pa_enc_ts_enc_right;
}) (λ schema k. pa_enc_ts_enc_refused schema k 62)

pub returns-clause-etype_info2_entry : goal.returns-clause-etype_info2_entry
unfolding shapes types
returns-clause-etype_info2_entry c = tied etype_info2_entry (codes "ETYPE-INFO2-ENTRY") 36 refl (λ schema k. etype_info2_entry_tie schema k 62) (record {
  to = λ v. v;
  of = λ v. v;
  enc_to = etype_info2_entry_same;
  enc_of = etype_info2_entry_same;
  valid_to = etype_info2_entry_valid;
  valid_of = etype_info2_entry_right;
}) (λ schema k. etype_info2_entry_refused schema k 62)

pub returns-clause-etype_info2 : goal.returns-clause-etype_info2
unfolding shapes types
returns-clause-etype_info2 c = tied (sequence_of etype_info2_entry) (codes "ETYPE-INFO2") 37 refl (λ schema k. list_tie schema k 63 37 36 true _ refl (etype_info2_entry_tie schema k 61)) (record {
  to = λ v. v;
  of = λ v. v;
  enc_to = λ xs. ap (tlv 48) (flat_map_same etype_info2_entry_same xs);
  enc_of = λ xs. ap (tlv 48) (flat_map_same etype_info2_entry_same xs);
  valid_to = all_as etype_info2_entry_valid;
  valid_of = all_as etype_info2_entry_right;
}) (λ schema k. list_refused schema k 63 37 36 true _ refl (etype_info2_entry_refused schema k 61))

pub returns-clause-pac_request : goal.returns-clause-pac_request
unfolding shapes types
returns-clause-pac_request c = tied kerb_pa_pac_request (codes "KERB-PA-PAC-REQUEST") 38 refl (λ schema k. kerb_pa_pac_request_tie schema k 62) (record {
  to = λ v. v;
  of = λ v. v;
  enc_to = kerb_pa_pac_request_same;
  enc_of = kerb_pa_pac_request_same;
  valid_to = kerb_pa_pac_request_valid;
  valid_of = kerb_pa_pac_request_right;
}) (λ schema k. kerb_pa_pac_request_refused schema k 62)

pub returns-clause-pac_options : goal.returns-clause-pac_options
unfolding shapes types
returns-clause-pac_options c = tied pa_pac_options (codes "PA-PAC-OPTIONS") 39 refl (λ schema k. pa_pac_options_tie schema k 62) (record {
  to = λ v. v;
  of = λ v. v;
  enc_to = pa_pac_options_same;
  enc_of = pa_pac_options_same;
  valid_to = pa_pac_options_valid;
  valid_of = pa_pac_options_right;
}) (λ schema k. pa_pac_options_refused schema k 62)

pub returns-clause-error_data : goal.returns-clause-error_data
unfolding shapes types
returns-clause-error_data c = tied kerb_error_data (codes "KERB-ERROR-DATA") 89 refl (λ schema k. kerb_error_data_tie schema k 62) (record {
  to = λ v. v;
  of = λ v. v;
  enc_to = kerb_error_data_same;
  enc_of = kerb_error_data_same;
  valid_to = kerb_error_data_valid;
  valid_of = kerb_error_data_right;
}) (λ schema k. kerb_error_data_refused schema k 62)

pub returns-clause-restriction : goal.returns-clause-restriction
unfolding shapes types
returns-clause-restriction c = tied kerb_ad_restriction_entry (codes "KERB-AD-RESTRICTION-ENTRY") 90 refl (λ schema k. kerb_ad_restriction_entry_tie schema k 62) (record {
  to = λ v. v;
  of = λ v. v;
  enc_to = kerb_ad_restriction_entry_same;
  enc_of = kerb_ad_restriction_entry_same;
  valid_to = kerb_ad_restriction_entry_valid;
  valid_of = kerb_ad_restriction_entry_right;
}) (λ schema k. kerb_ad_restriction_entry_refused schema k 62)

pub returns-clause-password : goal.returns-clause-password
unfolding shapes types
returns-clause-password c = tied change_passwd_data (codes "ChangePasswdData") 91 refl (λ schema k. change_passwd_data_tie schema k 60) (record {
  to = λ v. v;
  of = λ v. v;
  enc_to = change_passwd_data_same;
  enc_of = change_passwd_data_same;
  valid_to = change_passwd_data_valid;
  valid_of = change_passwd_data_right;
}) (λ schema k. change_passwd_data_refused schema k 60)

pub returns-clause-ticket : goal.returns-clause-ticket
unfolding shapes types
returns-clause-ticket c = tied (tagged 97 ticket) (codes "Ticket") 28 refl (λ schema k. tagged_tie schema k 63 28 97 27 _ refl (ticket_tie schema k 59)) (record {
  to = λ v. v;
  of = λ v. v;
  enc_to = λ v. ap (tlv 97) (ticket_same v);
  enc_of = λ v. ap (tlv 97) (ticket_same v);
  valid_to = λ v h. ticket_valid v h.0;
  valid_of = λ v h. (ticket_right v h, lit≤ tt);
}) (λ schema k. application_refused schema k 63 28 1 27 _ refl (lit≤ tt) refl (ticket_refused schema k 59))

pub returns-clause-method_data : goal.returns-clause-method_data
unfolding shapes types
returns-clause-method_data c = tied (sequence_of pa_data) (codes "METHOD-DATA") 34 refl (λ schema k. list_tie schema k 63 34 33 false _ refl (pa_data_tie schema k 61)) (record {
  to = λ v. v;
  of = λ v. v;
  enc_to = λ xs. ap (tlv 48) (flat_map_same pa_data_same xs);
  enc_of = λ xs. ap (tlv 48) (flat_map_same pa_data_same xs);
  valid_to = all_as pa_data_valid;
  valid_of = all_as pa_data_right;
}) (λ schema k. list_refused schema k 63 34 33 false _ refl (pa_data_refused schema k 61))
