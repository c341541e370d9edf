-- Types of PKINIT, PKU2U and CredSSP as readers, and their first errors.
use Rattle.std.proofs.Common.{ℕ, suc, false, refl, lit≤}
use Rattle.krb_credssp.specs.declared.credssp.credentials.TsCredentials.{TsCredentials}
use Rattle.krb_credssp.specs.declared.credssp.credentials.TsPasswordCreds.{TsPasswordCreds}
use Rattle.krb_credssp.specs.declared.credssp.remote_guard.TsRemoteGuardCreds.{TsRemoteGuardCreds}
use Rattle.krb_credssp.specs.declared.credssp.remote_guard.TsRemoteGuardPackageCred.{TsRemoteGuardPackageCred}
use Rattle.krb_credssp.specs.declared.credssp.smart_cards.TsCspDataDetail.{TsCspDataDetail}
use Rattle.krb_credssp.specs.declared.credssp.smart_cards.TsSmartCardCreds.{TsSmartCardCreds}
use Rattle.krb_pkinit.specs.declared.pkinit.pku2u.KrbFinished.{KrbFinished}
use Rattle.krb_pkinit.specs.declared.pkinit.pku2u.Pku2uNegoBody.{Pku2uNegoBody}
use Rattle.krb_pkinit.specs.declared.pkinit.replies.KdcDhKeyInfo.{KdcDhKeyInfo}
use Rattle.krb_pkinit.specs.declared.pkinit.requests.PkAuthenticator.{PkAuthenticator}
use Rattle.krb_schema.specs.declared.shape.Schema.{Schema}
use Rattle.krb_schema.specs.Named.{IsKerberos}
use Rattle.krb_schema.specs.Types.{cases, fields, shapes}
use Rattle.krb_show_row_laws.proofs.Readers.{Fields, Reader, bits, explicit, five, four, integer, maybe, octets, one, pair, sequence, sequence_of, text, time, triple}
use Rattle.krb_show_row_laws.proofs.FaultRows.{FaultTie, list_refused}
use Rattle.krb_show_row_laws.proofs.FaultFields.{five_refused, four_refused, maybe_refused, pair_refused, required_refused, sequence_refused, triple_refused}
use Rattle.krb_show_row_laws.proofs.FaultLeaves.{bits_refused, holding_refused, integer_refused, microseconds_refused, octets_refused, secret_refused, text_refused, time_refused}
use Rattle.krb_show_row_laws.proofs.CertificateRows.{pku2u_nego_body, pku2u_nego_body_tie, pku2u_nego_body_same, pku2u_nego_body_right, krb_finished, krb_finished_tie, krb_finished_same, krb_finished_right, pk_authenticator, pk_authenticator_tie, pk_authenticator_same, pk_authenticator_right, kdc_dh_key_info, kdc_dh_key_info_tie, kdc_dh_key_info_same, kdc_dh_key_info_right, ts_credentials, ts_credentials_tie, ts_credentials_same, ts_credentials_right, ts_password_creds, ts_password_creds_tie, ts_password_creds_same, ts_password_creds_right, ts_smart_card_creds, ts_smart_card_creds_tie, ts_smart_card_creds_same, ts_smart_card_creds_right, ts_csp_data_detail, ts_csp_data_detail_tie, ts_csp_data_detail_same, ts_csp_data_detail_right, ts_remote_guard_creds, ts_remote_guard_creds_tie, ts_remote_guard_creds_same, ts_remote_guard_creds_right, ts_remote_guard_package_cred, ts_remote_guard_package_cred_tie, ts_remote_guard_package_cred_same, ts_remote_guard_package_cred_right}
use Rattle.krb_show_row_laws.proofs.DataTypeErrors.{principal_name_reader, principal_name_refused, checksum_reader, checksum_refused}

-- ---- PKU2U-NEGO-BODY

abbrev pub pku2u_nego_body_read : Fields
pku2u_nego_body_read = pair (one (explicit 160 text)) (one (explicit 161 principal_name_reader))

abbrev pub pku2u_nego_body_parts : Pku2uNegoBody → (pku2u_nego_body_read).value
pku2u_nego_body_parts v = (v.realm, v.sname)

abbrev pub pku2u_nego_body_reader : Reader
pku2u_nego_body_reader = sequence pku2u_nego_body_read pku2u_nego_body_parts

pub pku2u_nego_body_refused : (schema : Schema) (k : IsKerberos schema) (levels : ℕ) → FaultTie schema k (suc (suc (suc (suc levels)))) 99 pku2u_nego_body_reader
unfolding cases fields shapes
pku2u_nego_body_refused schema k levels =
    sequence_refused schema k (suc (suc (suc levels))) 99 171 2 _ pku2u_nego_body_read pku2u_nego_body_parts pku2u_nego_body (λ x. x) refl (lit≤ tt) refl
    (pku2u_nego_body_tie schema k levels) pku2u_nego_body_right pku2u_nego_body_same
    (pair_refused schema k _ _ _ _ _ _
    (required_refused schema k _ _ _ _ _ _ _ _ (text_refused schema k (suc (suc levels)) 11 refl))
    (required_refused schema k _ _ _ _ _ _ _ _ (principal_name_refused schema k levels)))

-- ---- KRB-FINISHED

abbrev pub krb_finished_read : Fields
krb_finished_read = one (explicit 161 checksum_reader)

abbrev pub krb_finished_parts : KrbFinished → (krb_finished_read).value
krb_finished_parts v = v.gss_mic

abbrev pub krb_finished_reader : Reader
krb_finished_reader = sequence krb_finished_read krb_finished_parts

pub krb_finished_refused : (schema : Schema) (k : IsKerberos schema) (levels : ℕ) → FaultTie schema k (suc (suc (suc levels))) 103 krb_finished_reader
unfolding cases fields shapes
krb_finished_refused schema k levels =
    sequence_refused schema k (suc (suc levels)) 103 176 1 _ krb_finished_read krb_finished_parts krb_finished (λ x. x) refl (lit≤ tt) refl
    (krb_finished_tie schema k levels) krb_finished_right krb_finished_same
    (required_refused schema k _ _ _ _ _ _ _ _ (checksum_refused schema k levels))

-- ---- PKAuthenticator

abbrev pub pk_authenticator_read : Fields
pk_authenticator_read = four
    (one (explicit 160 integer))
    (one (explicit 161 time))
    (one (explicit 162 integer))
    (maybe (explicit 163 octets))

abbrev pub pk_authenticator_parts : PkAuthenticator → (pk_authenticator_read).value
pk_authenticator_parts v = (v.cusec, v.ctime, v.nonce, v.pa_checksum)

abbrev pub pk_authenticator_reader : Reader
pk_authenticator_reader = sequence pk_authenticator_read pk_authenticator_parts

pub pk_authenticator_refused : (schema : Schema) (k : IsKerberos schema) (levels : ℕ) → FaultTie schema k (suc (suc levels)) 112 pk_authenticator_reader
unfolding cases fields shapes
pk_authenticator_refused schema k levels =
    sequence_refused schema k (suc levels) 112 191 4 _ pk_authenticator_read pk_authenticator_parts pk_authenticator (λ x. x) refl (lit≤ tt) refl
    (pk_authenticator_tie schema k levels) pk_authenticator_right pk_authenticator_same
    (four_refused schema k _ _ _ _ _ _ _ _ _ _
    (required_refused schema k _ _ _ _ _ _ _ _ (microseconds_refused schema k levels 3 refl))
    (required_refused schema k _ _ _ _ _ _ _ _ (time_refused schema k levels 10 refl))
    (required_refused schema k _ _ _ _ _ _ _ _ (integer_refused schema k levels 1 refl))
    (maybe_refused schema k _ _ _ _ _ _ _ _ (octets_refused schema k levels 6 refl)))

-- ---- KDCDHKeyInfo

abbrev pub kdc_dh_key_info_read : Fields
kdc_dh_key_info_read = triple (one (explicit 160 bits)) (one (explicit 161 integer)) (maybe (explicit 162 time))

abbrev pub kdc_dh_key_info_parts : KdcDhKeyInfo → (kdc_dh_key_info_read).value
kdc_dh_key_info_parts v = (v.subject_public_key, v.nonce, v.dh_key_expiration)

abbrev pub kdc_dh_key_info_reader : Reader
kdc_dh_key_info_reader = sequence kdc_dh_key_info_read kdc_dh_key_info_parts

pub kdc_dh_key_info_refused : (schema : Schema) (k : IsKerberos schema) (levels : ℕ) → FaultTie schema k (suc (suc levels)) 116 kdc_dh_key_info_reader
unfolding cases fields shapes
kdc_dh_key_info_refused schema k levels =
    sequence_refused schema k (suc levels) 116 197 3 _ kdc_dh_key_info_read kdc_dh_key_info_parts kdc_dh_key_info (λ x. x) refl (lit≤ tt) refl
    (kdc_dh_key_info_tie schema k levels) kdc_dh_key_info_right kdc_dh_key_info_same
    (triple_refused schema k _ _ _ _ _ _ _ _
    (required_refused schema k _ _ _ _ _ _ _ _ (bits_refused schema k levels 4 refl))
    (required_refused schema k _ _ _ _ _ _ _ _ (integer_refused schema k levels 1 refl))
    (maybe_refused schema k _ _ _ _ _ _ _ _ (time_refused schema k levels 10 refl)))

-- ---- TSCredentials

abbrev pub ts_credentials_read : Fields
ts_credentials_read = pair (one (explicit 160 integer)) (one (explicit 161 octets))

abbrev pub ts_credentials_parts : TsCredentials → (ts_credentials_read).value
ts_credentials_parts v = (v.cred_type, v.credentials)

abbrev pub ts_credentials_reader : Reader
ts_credentials_reader = sequence ts_credentials_read ts_credentials_parts

pub ts_credentials_refused : (schema : Schema) (k : IsKerberos schema) (levels : ℕ) → FaultTie schema k (suc (suc levels)) 124 ts_credentials_reader
unfolding cases fields shapes
ts_credentials_refused schema k levels =
    sequence_refused schema k (suc levels) 124 215 2 _ ts_credentials_read ts_credentials_parts ts_credentials (λ x. x) refl (lit≤ tt) refl
    (ts_credentials_tie schema k levels) ts_credentials_right ts_credentials_same
    (pair_refused schema k _ _ _ _ _ _
    (required_refused schema k _ _ _ _ _ _ _ _ (integer_refused schema k levels 1 refl))
    (required_refused schema k _ _ _ _ _ _ _ _ (holding_refused schema k levels 123 17 3 refl (lit≤ tt))))

-- ---- TSPasswordCreds

abbrev pub ts_password_creds_read : Fields
ts_password_creds_read = triple (one (explicit 160 octets)) (one (explicit 161 octets)) (one (explicit 162 octets))

abbrev pub ts_password_creds_parts : TsPasswordCreds → (ts_password_creds_read).value
ts_password_creds_parts v = (v.domain_name, v.user_name, v.password)

abbrev pub ts_password_creds_reader : Reader
ts_password_creds_reader = sequence ts_password_creds_read ts_password_creds_parts

pub ts_password_creds_refused : (schema : Schema) (k : IsKerberos schema) (levels : ℕ) → FaultTie schema k (suc (suc levels)) 125 ts_password_creds_reader
unfolding cases fields shapes
ts_password_creds_refused schema k levels =
    sequence_refused schema k (suc levels) 125 217 3 _ ts_password_creds_read ts_password_creds_parts ts_password_creds (λ x. x) refl (lit≤ tt) refl
    (ts_password_creds_tie schema k levels) ts_password_creds_right ts_password_creds_same
    (triple_refused schema k _ _ _ _ _ _ _ _
    (required_refused schema k _ _ _ _ _ _ _ _ (octets_refused schema k levels 6 refl))
    (required_refused schema k _ _ _ _ _ _ _ _ (octets_refused schema k levels 6 refl))
    (required_refused schema k _ _ _ _ _ _ _ _ (secret_refused schema k levels 7 refl)))

-- ---- TSCspDataDetail

abbrev pub ts_csp_data_detail_read : Fields
ts_csp_data_detail_read = five
    (one (explicit 160 integer))
    (maybe (explicit 161 octets))
    (maybe (explicit 162 octets))
    (maybe (explicit 163 octets))
    (maybe (explicit 164 octets))

abbrev pub ts_csp_data_detail_parts : TsCspDataDetail → (ts_csp_data_detail_read).value
ts_csp_data_detail_parts v = (v.key_spec, v.card_name, v.reader_name, v.container_name, v.csp_name)

abbrev pub ts_csp_data_detail_reader : Reader
ts_csp_data_detail_reader = sequence ts_csp_data_detail_read ts_csp_data_detail_parts

pub ts_csp_data_detail_refused : (schema : Schema) (k : IsKerberos schema) (levels : ℕ) → FaultTie schema k (suc (suc levels)) 127 ts_csp_data_detail_reader
unfolding cases fields shapes
ts_csp_data_detail_refused schema k levels =
    sequence_refused schema k (suc levels) 127 224 5 _ ts_csp_data_detail_read ts_csp_data_detail_parts ts_csp_data_detail (λ x. x) refl (lit≤ tt) refl
    (ts_csp_data_detail_tie schema k levels) ts_csp_data_detail_right ts_csp_data_detail_same
    (five_refused schema k _ _ _ _ _ _ _ _ _ _ _ _
    (required_refused schema k _ _ _ _ _ _ _ _ (integer_refused schema k levels 1 refl))
    (maybe_refused schema k _ _ _ _ _ _ _ _ (octets_refused schema k levels 6 refl))
    (maybe_refused schema k _ _ _ _ _ _ _ _ (octets_refused schema k levels 6 refl))
    (maybe_refused schema k _ _ _ _ _ _ _ _ (octets_refused schema k levels 6 refl))
    (maybe_refused schema k _ _ _ _ _ _ _ _ (octets_refused schema k levels 6 refl)))

-- ---- TSSmartCardCreds

abbrev pub ts_smart_card_creds_read : Fields
ts_smart_card_creds_read = four
    (one (explicit 160 octets))
    (one (explicit 161 ts_csp_data_detail_reader))
    (maybe (explicit 162 octets))
    (maybe (explicit 163 octets))

abbrev pub ts_smart_card_creds_parts : TsSmartCardCreds → (ts_smart_card_creds_read).value
ts_smart_card_creds_parts v = (v.pin, v.csp_data, v.user_hint, v.domain_hint)

abbrev pub ts_smart_card_creds_reader : Reader
ts_smart_card_creds_reader = sequence ts_smart_card_creds_read ts_smart_card_creds_parts

pub ts_smart_card_creds_refused : (schema : Schema) (k : IsKerberos schema) (levels : ℕ) → FaultTie schema k (suc (suc (suc levels))) 126 ts_smart_card_creds_reader
unfolding cases fields shapes
ts_smart_card_creds_refused schema k levels =
    sequence_refused schema k (suc (suc levels)) 126 220 4 _ ts_smart_card_creds_read ts_smart_card_creds_parts ts_smart_card_creds (λ x. x) refl (lit≤ tt) refl
    (ts_smart_card_creds_tie schema k levels) ts_smart_card_creds_right ts_smart_card_creds_same
    (four_refused schema k _ _ _ _ _ _ _ _ _ _
    (required_refused schema k _ _ _ _ _ _ _ _ (secret_refused schema k (suc levels) 7 refl))
    (required_refused schema k _ _ _ _ _ _ _ _ (ts_csp_data_detail_refused schema k levels))
    (maybe_refused schema k _ _ _ _ _ _ _ _ (octets_refused schema k (suc levels) 6 refl))
    (maybe_refused schema k _ _ _ _ _ _ _ _ (octets_refused schema k (suc levels) 6 refl)))

-- ---- TSRemoteGuardPackageCred

abbrev pub ts_remote_guard_package_cred_read : Fields
ts_remote_guard_package_cred_read = pair (one (explicit 160 octets)) (one (explicit 161 octets))

abbrev pub ts_remote_guard_package_cred_parts : TsRemoteGuardPackageCred → (ts_remote_guard_package_cred_read).value
ts_remote_guard_package_cred_parts v = (v.package_name, v.cred_buffer)

abbrev pub ts_remote_guard_package_cred_reader : Reader
ts_remote_guard_package_cred_reader = sequence ts_remote_guard_package_cred_read ts_remote_guard_package_cred_parts

pub ts_remote_guard_package_cred_refused : (schema : Schema) (k : IsKerberos schema) (levels : ℕ) → FaultTie schema k (suc (suc levels)) 130 ts_remote_guard_package_cred_reader
unfolding cases fields shapes
ts_remote_guard_package_cred_refused schema k levels =
    sequence_refused schema k (suc levels) 130 231 2 _ ts_remote_guard_package_cred_read ts_remote_guard_package_cred_parts ts_remote_guard_package_cred (λ x. x) refl (lit≤ tt) refl
    (ts_remote_guard_package_cred_tie schema k levels) ts_remote_guard_package_cred_right ts_remote_guard_package_cred_same
    (pair_refused schema k _ _ _ _ _ _
    (required_refused schema k _ _ _ _ _ _ _ _ (octets_refused schema k levels 6 refl))
    (required_refused schema k _ _ _ _ _ _ _ _ (octets_refused schema k levels 6 refl)))

-- ---- TSRemoteGuardCreds

abbrev pub ts_remote_guard_creds_read : Fields
ts_remote_guard_creds_read = pair
    (one (explicit 160 ts_remote_guard_package_cred_reader))
    (maybe (explicit 161 (sequence_of ts_remote_guard_package_cred_reader)))

abbrev pub ts_remote_guard_creds_parts : TsRemoteGuardCreds → (ts_remote_guard_creds_read).value
ts_remote_guard_creds_parts v = (v.logon_cred, v.supplemental_creds)

abbrev pub ts_remote_guard_creds_reader : Reader
ts_remote_guard_creds_reader = sequence ts_remote_guard_creds_read ts_remote_guard_creds_parts

pub ts_remote_guard_creds_refused : (schema : Schema) (k : IsKerberos schema) (levels : ℕ) → FaultTie schema k (suc (suc (suc (suc levels)))) 129 ts_remote_guard_creds_reader
unfolding cases fields shapes
ts_remote_guard_creds_refused schema k levels =
    sequence_refused schema k (suc (suc (suc levels))) 129 229 2 _ ts_remote_guard_creds_read ts_remote_guard_creds_parts ts_remote_guard_creds (λ x. x) refl (lit≤ tt) refl
    (ts_remote_guard_creds_tie schema k levels) ts_remote_guard_creds_right ts_remote_guard_creds_same
    (pair_refused schema k _ _ _ _ _ _
    (required_refused schema k _ _ _ _ _ _ _ _ (ts_remote_guard_package_cred_refused schema k (suc levels)))
    (maybe_refused schema k _ _ _ _ _ _ _ _ (list_refused schema k (suc (suc levels)) 128 130 false _ refl (ts_remote_guard_package_cred_refused schema k levels))))
