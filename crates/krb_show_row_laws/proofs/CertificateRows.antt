-- Types of PKINIT, PKU2U and CredSSP as codecs, and their rows.
use Rattle.std.proofs.Common.{◌≡◌, ℕ, suc, false, refl, sym, ap, ◌∙◌, List, ◌++◌, lit≤}
use Rattle.std.specs.List.{AllByRecursion}
use Rattle.std.specs.Option.{IfSome}
use Rattle.std.specs.Str.{IsAscii}
use Rattle.std.proofs.lemmas.List.{append-nil, append_assoc}
use Rattle.krb_der.specs.Asn1.{bit_string, explicit, general_string, generalized_time, octet_string, sequence}
use Rattle.krb_der.specs.Asn1.{integer as integer_octets, sequence_of as asn1_sequence_of}
use Rattle.krb_der_core.specs.BitString.{IsBits}
use Rattle.krb_der_core.specs.Encoding.{IsOctets, optional}
use Rattle.krb_der_core.specs.GeneralizedTime.{IsRealTime}
use Rattle.krb_der_core.specs.Tlv.{tlv}
use Rattle.krb_credssp.specs.declared.credssp.credentials.TsCredentials.{TsCredentials}
use Rattle.krb_credssp.specs.declared.credssp.credentials.TsPasswordCreds.{TsPasswordCreds}
use Rattle.krb_credssp.specs.declared.credssp.remote_guard.TsRemoteGuardCreds.{TsRemoteGuardCreds}
use Rattle.krb_credssp.specs.declared.credssp.remote_guard.TsRemoteGuardPackageCred.{TsRemoteGuardPackageCred}
use Rattle.krb_credssp.specs.declared.credssp.smart_cards.TsCspDataDetail.{TsCspDataDetail}
use Rattle.krb_credssp.specs.declared.credssp.smart_cards.TsSmartCardCreds.{TsSmartCardCreds}
use Rattle.krb_pkinit.specs.declared.pkinit.pku2u.KrbFinished.{KrbFinished}
use Rattle.krb_pkinit.specs.declared.pkinit.pku2u.Pku2uNegoBody.{Pku2uNegoBody}
use Rattle.krb_pkinit.specs.declared.pkinit.replies.KdcDhKeyInfo.{KdcDhKeyInfo}
use Rattle.krb_pkinit.specs.declared.pkinit.requests.PkAuthenticator.{PkAuthenticator}
use Rattle.krb_schema.specs.declared.shape.Schema.{Schema}
use Rattle.krb_schema.specs.Named.{IsKerberos}
use Rattle.krb_schema.specs.Types.{cases, fields, shapes}
use Rattle.krb_show_row_laws.proofs.Codecs.{Codec, bits, coded, end, integer, maybe, octets, required, sequence_of, tagged, text, time}
use Rattle.krb_show_row_laws.proofs.CodecRows.{IsAny, Tie, all_as, bits_tie, coded_tie, end_tie, flat_map_same, holding_tie, integer_tie, list_tie, maybe_tie, microseconds_tie, octets_tie, optional_same, required_tie, secret_tie, sequence_tie, some_as, text_tie, time_tie}
use Rattle.krb_show_row_laws.proofs.DataTypeRows.{principal_name, principal_name_tie, principal_name_octets, principal_name_same, principal_name_value, principal_name_valid, principal_name_right, checksum, checksum_tie, checksum_octets, checksum_same, checksum_value, checksum_valid, checksum_right}

-- ---- PKU2U-NEGO-BODY

abbrev pub pku2u_nego_body_fields : Codec
pku2u_nego_body_fields = tagged 48 (required 160 text (required 161 principal_name end))

abbrev pub pku2u_nego_body_to : Pku2uNegoBody → (pku2u_nego_body_fields).value
pku2u_nego_body_to v = (v.realm, (v.sname, tt))

abbrev pub pku2u_nego_body_of : (pku2u_nego_body_fields).value → Pku2uNegoBody
pku2u_nego_body_of x = record { realm = x.0; sname = x.1.0 }

abbrev pub pku2u_nego_body : Codec
pku2u_nego_body = coded pku2u_nego_body_fields pku2u_nego_body_to

pub pku2u_nego_body_tie : (schema : Schema) (k : IsKerberos schema) (levels : ℕ) → Tie schema k (suc (suc (suc (suc levels)))) 99 pku2u_nego_body
unfolding cases fields shapes
pku2u_nego_body_tie schema k levels =
    coded_tie schema k (suc (suc (suc (suc levels)))) 99 pku2u_nego_body_fields pku2u_nego_body_to pku2u_nego_body_of (λ x. refl)
    (sequence_tie schema k (suc (suc (suc levels))) 99 48 171 2 _ _ refl (lit≤ tt) refl
    (required_tie schema k _ _ _ _ _ _ _ _ _ (text_tie schema k (suc (suc levels)) 11 refl)
    (required_tie schema k _ _ _ _ _ _ _ _ _ (principal_name_tie schema k levels)
    (end_tie schema k _))))

abbrev pub pku2u_nego_body_octets : Pku2uNegoBody → List ℕ
pku2u_nego_body_octets v = sequence (explicit 0 (general_string v.realm) ++ explicit 1 (principal_name_octets v.sname))

pub pku2u_nego_body_same : (v : Pku2uNegoBody) → pku2u_nego_body_octets v ≡ pku2u_nego_body.enc v
pku2u_nego_body_same v =
    let e1 = (principal_name_same v.sname) in
    let whole : pku2u_nego_body_octets v ≡ tlv 48 (tlv 160 (text.enc v.realm) ++ tlv 161 (principal_name.enc v.sname)) =
    rw (e1) (refl) in
    whole ∙ ap (λ (o : List ℕ). tlv 48 (tlv 160 (text.enc v.realm) ++ o)) (sym (append-nil (tlv 161 (principal_name.enc v.sname))))

abbrev pub pku2u_nego_body_value : Pku2uNegoBody → Type 0
pku2u_nego_body_value v = IsAscii v.realm × principal_name_value v.sname

pub pku2u_nego_body_valid : (v : Pku2uNegoBody) → pku2u_nego_body_value v → pku2u_nego_body.valid v
pku2u_nego_body_valid v h = (h.0, ((principal_name_valid v.sname h.1), tt))

pub pku2u_nego_body_right : (v : Pku2uNegoBody) → pku2u_nego_body.valid v → pku2u_nego_body_value v
pku2u_nego_body_right v h = (h.0, (principal_name_right v.sname h.1.0))

-- ---- KRB-FINISHED

abbrev pub krb_finished_fields : Codec
krb_finished_fields = tagged 48 (required 161 checksum end)

abbrev pub krb_finished_to : KrbFinished → (krb_finished_fields).value
krb_finished_to v = (v.gss_mic, tt)

abbrev pub krb_finished_of : (krb_finished_fields).value → KrbFinished
krb_finished_of x = record { gss_mic = x.0 }

abbrev pub krb_finished : Codec
krb_finished = coded krb_finished_fields krb_finished_to

pub krb_finished_tie : (schema : Schema) (k : IsKerberos schema) (levels : ℕ) → Tie schema k (suc (suc (suc levels))) 103 krb_finished
unfolding cases fields shapes
krb_finished_tie schema k levels =
    coded_tie schema k (suc (suc (suc levels))) 103 krb_finished_fields krb_finished_to krb_finished_of (λ x. refl)
    (sequence_tie schema k (suc (suc levels)) 103 48 176 1 _ _ refl (lit≤ tt) refl
    (required_tie schema k _ _ _ _ _ _ _ _ _ (checksum_tie schema k levels)
    (end_tie schema k _)))

abbrev pub krb_finished_octets : KrbFinished → List ℕ
krb_finished_octets v = sequence (explicit 1 (checksum_octets v.gss_mic))

pub krb_finished_same : (v : KrbFinished) → krb_finished_octets v ≡ krb_finished.enc v
krb_finished_same v =
    let e0 = (checksum_same v.gss_mic) in
    let whole : krb_finished_octets v ≡ tlv 48 (tlv 161 (checksum.enc v.gss_mic)) =
    rw (e0) (refl) in
    whole ∙ ap (λ (o : List ℕ). tlv 48 (o)) (sym (append-nil (tlv 161 (checksum.enc v.gss_mic))))

abbrev pub krb_finished_value : KrbFinished → Type 0
krb_finished_value v = checksum_value v.gss_mic

pub krb_finished_valid : (v : KrbFinished) → krb_finished_value v → krb_finished.valid v
krb_finished_valid v h = ((checksum_valid v.gss_mic h), tt)

pub krb_finished_right : (v : KrbFinished) → krb_finished.valid v → krb_finished_value v
krb_finished_right v h = (checksum_right v.gss_mic h.0)

-- ---- PKAuthenticator

abbrev pub pk_authenticator_fields : Codec
pk_authenticator_fields = tagged 48 (required 160 integer (required 161 time (required 162 integer (maybe 163 octets end))))

abbrev pub pk_authenticator_to : PkAuthenticator → (pk_authenticator_fields).value
pk_authenticator_to v = (v.cusec, (v.ctime, (v.nonce, (v.pa_checksum.0, tt))))

abbrev pub pk_authenticator_of : (pk_authenticator_fields).value → PkAuthenticator
pk_authenticator_of x = record { cusec = x.0; ctime = x.1.0; nonce = x.1.1.0; pa_checksum = record { 0 = x.1.1.1.0 } }

abbrev pub pk_authenticator : Codec
pk_authenticator = coded pk_authenticator_fields pk_authenticator_to

pub pk_authenticator_tie : (schema : Schema) (k : IsKerberos schema) (levels : ℕ) → Tie schema k (suc (suc levels)) 112 pk_authenticator
unfolding cases fields shapes
pk_authenticator_tie schema k levels =
    coded_tie schema k (suc (suc levels)) 112 pk_authenticator_fields pk_authenticator_to pk_authenticator_of (λ x. refl)
    (sequence_tie schema k (suc levels) 112 48 191 4 _ _ refl (lit≤ tt) refl
    (required_tie schema k _ _ _ _ _ _ _ _ _ (microseconds_tie schema k levels 3 refl)
    (required_tie schema k _ _ _ _ _ _ _ _ _ (time_tie schema k levels 10 refl)
    (required_tie schema k _ _ _ _ _ _ _ _ _ (integer_tie schema k levels 1 refl)
    (maybe_tie schema k _ _ _ _ _ _ _ _ _ refl (octets_tie schema k levels 6 refl)
    (end_tie schema k _))))))

abbrev pub pk_authenticator_octets : PkAuthenticator → List ℕ
pk_authenticator_octets v = sequence (explicit 0 (integer_octets v.cusec) ++ explicit 1 (generalized_time v.ctime) ++ explicit 2 (integer_octets v.nonce) ++ optional (λ x. explicit 3 (octet_string x)) v.pa_checksum.0)

pub pk_authenticator_same : (v : PkAuthenticator) → pk_authenticator_octets v ≡ pk_authenticator.enc v
pk_authenticator_same v = simp (append_assoc, append-nil) refl

abbrev pub pk_authenticator_value : PkAuthenticator → Type 0
pk_authenticator_value v = IsAny v.cusec × IsRealTime v.ctime × IsAny v.nonce × IfSome v.pa_checksum.0 IsOctets

pub pk_authenticator_valid : (v : PkAuthenticator) → pk_authenticator_value v → pk_authenticator.valid v
pk_authenticator_valid v h = (h.0, (h.1, (h.2, (h.3, tt))))

pub pk_authenticator_right : (v : PkAuthenticator) → pk_authenticator.valid v → pk_authenticator_value v
pk_authenticator_right v h = (h.0, h.1.0, h.1.1.0, h.1.1.1.0)

-- ---- KDCDHKeyInfo

abbrev pub kdc_dh_key_info_fields : Codec
kdc_dh_key_info_fields = tagged 48 (required 160 bits (required 161 integer (maybe 162 time end)))

abbrev pub kdc_dh_key_info_to : KdcDhKeyInfo → (kdc_dh_key_info_fields).value
kdc_dh_key_info_to v = (v.subject_public_key, (v.nonce, (v.dh_key_expiration.0, tt)))

abbrev pub kdc_dh_key_info_of : (kdc_dh_key_info_fields).value → KdcDhKeyInfo
kdc_dh_key_info_of x = record { subject_public_key = x.0; nonce = x.1.0; dh_key_expiration = record { 0 = x.1.1.0 } }

abbrev pub kdc_dh_key_info : Codec
kdc_dh_key_info = coded kdc_dh_key_info_fields kdc_dh_key_info_to

pub kdc_dh_key_info_tie : (schema : Schema) (k : IsKerberos schema) (levels : ℕ) → Tie schema k (suc (suc levels)) 116 kdc_dh_key_info
unfolding cases fields shapes
kdc_dh_key_info_tie schema k levels =
    coded_tie schema k (suc (suc levels)) 116 kdc_dh_key_info_fields kdc_dh_key_info_to kdc_dh_key_info_of (λ x. refl)
    (sequence_tie schema k (suc levels) 116 48 197 3 _ _ refl (lit≤ tt) refl
    (required_tie schema k _ _ _ _ _ _ _ _ _ (bits_tie schema k levels 4 refl)
    (required_tie schema k _ _ _ _ _ _ _ _ _ (integer_tie schema k levels 1 refl)
    (maybe_tie schema k _ _ _ _ _ _ _ _ _ refl (time_tie schema k levels 10 refl)
    (end_tie schema k _)))))

abbrev pub kdc_dh_key_info_octets : KdcDhKeyInfo → List ℕ
kdc_dh_key_info_octets v = sequence (explicit 0 (bit_string v.subject_public_key) ++ explicit 1 (integer_octets v.nonce) ++ optional (λ x. explicit 2 (generalized_time x)) v.dh_key_expiration.0)

pub kdc_dh_key_info_same : (v : KdcDhKeyInfo) → kdc_dh_key_info_octets v ≡ kdc_dh_key_info.enc v
kdc_dh_key_info_same v = simp (append_assoc, append-nil) refl

abbrev pub kdc_dh_key_info_value : KdcDhKeyInfo → Type 0
kdc_dh_key_info_value v = IsBits v.subject_public_key × IsAny v.nonce × IfSome v.dh_key_expiration.0 IsRealTime

pub kdc_dh_key_info_valid : (v : KdcDhKeyInfo) → kdc_dh_key_info_value v → kdc_dh_key_info.valid v
kdc_dh_key_info_valid v h = (h.0, (h.1, (h.2, tt)))

pub kdc_dh_key_info_right : (v : KdcDhKeyInfo) → kdc_dh_key_info.valid v → kdc_dh_key_info_value v
kdc_dh_key_info_right v h = (h.0, h.1.0, h.1.1.0)

-- ---- TSCredentials

abbrev pub ts_credentials_fields : Codec
ts_credentials_fields = tagged 48 (required 160 integer (required 161 octets end))

abbrev pub ts_credentials_to : TsCredentials → (ts_credentials_fields).value
ts_credentials_to v = (v.cred_type, (v.credentials, tt))

abbrev pub ts_credentials_of : (ts_credentials_fields).value → TsCredentials
ts_credentials_of x = record { cred_type = x.0; credentials = x.1.0 }

abbrev pub ts_credentials : Codec
ts_credentials = coded ts_credentials_fields ts_credentials_to

pub ts_credentials_tie : (schema : Schema) (k : IsKerberos schema) (levels : ℕ) → Tie schema k (suc (suc levels)) 124 ts_credentials
unfolding cases fields shapes
ts_credentials_tie schema k levels =
    coded_tie schema k (suc (suc levels)) 124 ts_credentials_fields ts_credentials_to ts_credentials_of (λ x. refl)
    (sequence_tie schema k (suc levels) 124 48 215 2 _ _ refl (lit≤ tt) refl
    (required_tie schema k _ _ _ _ _ _ _ _ _ (integer_tie schema k levels 1 refl)
    (required_tie schema k _ _ _ _ _ _ _ _ _ (holding_tie schema k levels 123 17 3 refl (lit≤ tt))
    (end_tie schema k _))))

abbrev pub ts_credentials_octets : TsCredentials → List ℕ
ts_credentials_octets v = sequence (explicit 0 (integer_octets v.cred_type) ++ explicit 1 (octet_string v.credentials))

pub ts_credentials_same : (v : TsCredentials) → ts_credentials_octets v ≡ ts_credentials.enc v
ts_credentials_same v = simp (append-nil) refl

abbrev pub ts_credentials_value : TsCredentials → Type 0
ts_credentials_value v = IsAny v.cred_type × IsOctets v.credentials

pub ts_credentials_valid : (v : TsCredentials) → ts_credentials_value v → ts_credentials.valid v
ts_credentials_valid v h = (h.0, (h.1, tt))

pub ts_credentials_right : (v : TsCredentials) → ts_credentials.valid v → ts_credentials_value v
ts_credentials_right v h = (h.0, h.1.0)

-- ---- TSPasswordCreds

abbrev pub ts_password_creds_fields : Codec
ts_password_creds_fields = tagged 48 (required 160 octets (required 161 octets (required 162 octets end)))

abbrev pub ts_password_creds_to : TsPasswordCreds → (ts_password_creds_fields).value
ts_password_creds_to v = (v.domain_name, (v.user_name, (v.password, tt)))

abbrev pub ts_password_creds_of : (ts_password_creds_fields).value → TsPasswordCreds
ts_password_creds_of x = record { domain_name = x.0; user_name = x.1.0; password = x.1.1.0 }

abbrev pub ts_password_creds : Codec
ts_password_creds = coded ts_password_creds_fields ts_password_creds_to

pub ts_password_creds_tie : (schema : Schema) (k : IsKerberos schema) (levels : ℕ) → Tie schema k (suc (suc levels)) 125 ts_password_creds
unfolding cases fields shapes
ts_password_creds_tie schema k levels =
    coded_tie schema k (suc (suc levels)) 125 ts_password_creds_fields ts_password_creds_to ts_password_creds_of (λ x. refl)
    (sequence_tie schema k (suc levels) 125 48 217 3 _ _ refl (lit≤ tt) refl
    (required_tie schema k _ _ _ _ _ _ _ _ _ (octets_tie schema k levels 6 refl)
    (required_tie schema k _ _ _ _ _ _ _ _ _ (octets_tie schema k levels 6 refl)
    (required_tie schema k _ _ _ _ _ _ _ _ _ (secret_tie schema k levels 7 refl)
    (end_tie schema k _)))))

abbrev pub ts_password_creds_octets : TsPasswordCreds → List ℕ
ts_password_creds_octets v = sequence (explicit 0 (octet_string v.domain_name) ++ explicit 1 (octet_string v.user_name) ++ explicit 2 (octet_string v.password))

pub ts_password_creds_same : (v : TsPasswordCreds) → ts_password_creds_octets v ≡ ts_password_creds.enc v
ts_password_creds_same v = simp (append_assoc, append-nil) refl

abbrev pub ts_password_creds_value : TsPasswordCreds → Type 0
ts_password_creds_value v = IsOctets v.domain_name × IsOctets v.user_name × IsOctets v.password

pub ts_password_creds_valid : (v : TsPasswordCreds) → ts_password_creds_value v → ts_password_creds.valid v
ts_password_creds_valid v h = (h.0, (h.1, (h.2, tt)))

pub ts_password_creds_right : (v : TsPasswordCreds) → ts_password_creds.valid v → ts_password_creds_value v
ts_password_creds_right v h = (h.0, h.1.0, h.1.1.0)

-- ---- TSCspDataDetail

abbrev pub ts_csp_data_detail_fields : Codec
ts_csp_data_detail_fields = tagged 48 (required 160 integer (maybe 161 octets (maybe 162 octets (maybe 163 octets (maybe 164 octets end)))))

abbrev pub ts_csp_data_detail_to : TsCspDataDetail → (ts_csp_data_detail_fields).value
ts_csp_data_detail_to v = (v.key_spec, (v.card_name.0, (v.reader_name.0, (v.container_name.0, (v.csp_name.0, tt)))))

abbrev pub ts_csp_data_detail_of : (ts_csp_data_detail_fields).value → TsCspDataDetail
ts_csp_data_detail_of x = record { key_spec = x.0; card_name = record { 0 = x.1.0 }; reader_name = record { 0 = x.1.1.0 }; container_name = record { 0 = x.1.1.1.0 }; csp_name = record { 0 = x.1.1.1.1.0 } }

abbrev pub ts_csp_data_detail : Codec
ts_csp_data_detail = coded ts_csp_data_detail_fields ts_csp_data_detail_to

pub ts_csp_data_detail_tie : (schema : Schema) (k : IsKerberos schema) (levels : ℕ) → Tie schema k (suc (suc levels)) 127 ts_csp_data_detail
unfolding cases fields shapes
ts_csp_data_detail_tie schema k levels =
    coded_tie schema k (suc (suc levels)) 127 ts_csp_data_detail_fields ts_csp_data_detail_to ts_csp_data_detail_of (λ x. refl)
    (sequence_tie schema k (suc levels) 127 48 224 5 _ _ refl (lit≤ tt) refl
    (required_tie schema k _ _ _ _ _ _ _ _ _ (integer_tie schema k levels 1 refl)
    (maybe_tie schema k _ _ _ _ _ _ _ _ _ refl (octets_tie schema k levels 6 refl)
    (maybe_tie schema k _ _ _ _ _ _ _ _ _ refl (octets_tie schema k levels 6 refl)
    (maybe_tie schema k _ _ _ _ _ _ _ _ _ refl (octets_tie schema k levels 6 refl)
    (maybe_tie schema k _ _ _ _ _ _ _ _ _ refl (octets_tie schema k levels 6 refl)
    (end_tie schema k _)))))))

abbrev pub ts_csp_data_detail_octets : TsCspDataDetail → List ℕ
ts_csp_data_detail_octets v = sequence (explicit 0 (integer_octets v.key_spec) ++ optional (λ x. explicit 1 (octet_string x)) v.card_name.0 ++ optional (λ x. explicit 2 (octet_string x)) v.reader_name.0 ++ optional (λ x. explicit 3 (octet_string x)) v.container_name.0 ++ optional (λ x. explicit 4 (octet_string x)) v.csp_name.0)

pub ts_csp_data_detail_same : (v : TsCspDataDetail) → ts_csp_data_detail_octets v ≡ ts_csp_data_detail.enc v
ts_csp_data_detail_same v = simp (append_assoc, append-nil) refl

abbrev pub ts_csp_data_detail_value : TsCspDataDetail → Type 0
ts_csp_data_detail_value v = IsAny v.key_spec × IfSome v.card_name.0 IsOctets × IfSome v.reader_name.0 IsOctets × IfSome v.container_name.0 IsOctets × IfSome v.csp_name.0 IsOctets

pub ts_csp_data_detail_valid : (v : TsCspDataDetail) → ts_csp_data_detail_value v → ts_csp_data_detail.valid v
ts_csp_data_detail_valid v h = (h.0, (h.1, (h.2, (h.3, (h.4, tt)))))

pub ts_csp_data_detail_right : (v : TsCspDataDetail) → ts_csp_data_detail.valid v → ts_csp_data_detail_value v
ts_csp_data_detail_right v h = (h.0, h.1.0, h.1.1.0, h.1.1.1.0, h.1.1.1.1.0)

-- ---- TSSmartCardCreds

abbrev pub ts_smart_card_creds_fields : Codec
ts_smart_card_creds_fields = tagged 48 (required 160 octets (required 161 ts_csp_data_detail (maybe 162 octets (maybe 163 octets end))))

abbrev pub ts_smart_card_creds_to : TsSmartCardCreds → (ts_smart_card_creds_fields).value
ts_smart_card_creds_to v = (v.pin, (v.csp_data, (v.user_hint.0, (v.domain_hint.0, tt))))

abbrev pub ts_smart_card_creds_of : (ts_smart_card_creds_fields).value → TsSmartCardCreds
ts_smart_card_creds_of x = record { pin = x.0; csp_data = x.1.0; user_hint = record { 0 = x.1.1.0 }; domain_hint = record { 0 = x.1.1.1.0 } }

abbrev pub ts_smart_card_creds : Codec
ts_smart_card_creds = coded ts_smart_card_creds_fields ts_smart_card_creds_to

pub ts_smart_card_creds_tie : (schema : Schema) (k : IsKerberos schema) (levels : ℕ) → Tie schema k (suc (suc (suc levels))) 126 ts_smart_card_creds
unfolding cases fields shapes
ts_smart_card_creds_tie schema k levels =
    coded_tie schema k (suc (suc (suc levels))) 126 ts_smart_card_creds_fields ts_smart_card_creds_to ts_smart_card_creds_of (λ x. refl)
    (sequence_tie schema k (suc (suc levels)) 126 48 220 4 _ _ refl (lit≤ tt) refl
    (required_tie schema k _ _ _ _ _ _ _ _ _ (secret_tie schema k (suc levels) 7 refl)
    (required_tie schema k _ _ _ _ _ _ _ _ _ (ts_csp_data_detail_tie schema k levels)
    (maybe_tie schema k _ _ _ _ _ _ _ _ _ refl (octets_tie schema k (suc levels) 6 refl)
    (maybe_tie schema k _ _ _ _ _ _ _ _ _ refl (octets_tie schema k (suc levels) 6 refl)
    (end_tie schema k _))))))

abbrev pub ts_smart_card_creds_octets : TsSmartCardCreds → List ℕ
ts_smart_card_creds_octets v = sequence (explicit 0 (octet_string v.pin) ++ explicit 1 (ts_csp_data_detail_octets v.csp_data) ++ optional (λ x. explicit 2 (octet_string x)) v.user_hint.0 ++ optional (λ x. explicit 3 (octet_string x)) v.domain_hint.0)

pub ts_smart_card_creds_same : (v : TsSmartCardCreds) → ts_smart_card_creds_octets v ≡ ts_smart_card_creds.enc v
ts_smart_card_creds_same v =
    let e1 = (ts_csp_data_detail_same v.csp_data) in
    let whole : ts_smart_card_creds_octets v ≡ tlv 48 (tlv 160 (octets.enc v.pin) ++ (tlv 161 (ts_csp_data_detail.enc v.csp_data) ++ (optional (λ x. tlv 162 (octets.enc x)) v.user_hint.0 ++ optional (λ x. tlv 163 (octets.enc x)) v.domain_hint.0))) =
    rw (e1) (simp append_assoc refl) in
    whole ∙ ap (λ (o : List ℕ). tlv 48 (tlv 160 (octets.enc v.pin) ++ (tlv 161 (ts_csp_data_detail.enc v.csp_data) ++ (optional (λ x. tlv 162 (octets.enc x)) v.user_hint.0 ++ o)))) (sym (append-nil (optional (λ x. tlv 163 (octets.enc x)) v.domain_hint.0)))

abbrev pub ts_smart_card_creds_value : TsSmartCardCreds → Type 0
ts_smart_card_creds_value v = IsOctets v.pin × ts_csp_data_detail_value v.csp_data × IfSome v.user_hint.0 IsOctets × IfSome v.domain_hint.0 IsOctets

pub ts_smart_card_creds_valid : (v : TsSmartCardCreds) → ts_smart_card_creds_value v → ts_smart_card_creds.valid v
ts_smart_card_creds_valid v h = (h.0, ((ts_csp_data_detail_valid v.csp_data h.1), (h.2, (h.3, tt))))

pub ts_smart_card_creds_right : (v : TsSmartCardCreds) → ts_smart_card_creds.valid v → ts_smart_card_creds_value v
ts_smart_card_creds_right v h = (h.0, (ts_csp_data_detail_right v.csp_data h.1.0), h.1.1.0, h.1.1.1.0)

-- ---- TSRemoteGuardPackageCred

abbrev pub ts_remote_guard_package_cred_fields : Codec
ts_remote_guard_package_cred_fields = tagged 48 (required 160 octets (required 161 octets end))

abbrev pub ts_remote_guard_package_cred_to : TsRemoteGuardPackageCred → (ts_remote_guard_package_cred_fields).value
ts_remote_guard_package_cred_to v = (v.package_name, (v.cred_buffer, tt))

abbrev pub ts_remote_guard_package_cred_of : (ts_remote_guard_package_cred_fields).value → TsRemoteGuardPackageCred
ts_remote_guard_package_cred_of x = record { package_name = x.0; cred_buffer = x.1.0 }

abbrev pub ts_remote_guard_package_cred : Codec
ts_remote_guard_package_cred = coded ts_remote_guard_package_cred_fields ts_remote_guard_package_cred_to

pub ts_remote_guard_package_cred_tie : (schema : Schema) (k : IsKerberos schema) (levels : ℕ) → Tie schema k (suc (suc levels)) 130 ts_remote_guard_package_cred
unfolding cases fields shapes
ts_remote_guard_package_cred_tie schema k levels =
    coded_tie schema k (suc (suc levels)) 130 ts_remote_guard_package_cred_fields ts_remote_guard_package_cred_to ts_remote_guard_package_cred_of (λ x. refl)
    (sequence_tie schema k (suc levels) 130 48 231 2 _ _ refl (lit≤ tt) refl
    (required_tie schema k _ _ _ _ _ _ _ _ _ (octets_tie schema k levels 6 refl)
    (required_tie schema k _ _ _ _ _ _ _ _ _ (octets_tie schema k levels 6 refl)
    (end_tie schema k _))))

abbrev pub ts_remote_guard_package_cred_octets : TsRemoteGuardPackageCred → List ℕ
ts_remote_guard_package_cred_octets v = sequence (explicit 0 (octet_string v.package_name) ++ explicit 1 (octet_string v.cred_buffer))

pub ts_remote_guard_package_cred_same : (v : TsRemoteGuardPackageCred) → ts_remote_guard_package_cred_octets v ≡ ts_remote_guard_package_cred.enc v
ts_remote_guard_package_cred_same v = simp (append-nil) refl

abbrev pub ts_remote_guard_package_cred_value : TsRemoteGuardPackageCred → Type 0
ts_remote_guard_package_cred_value v = IsOctets v.package_name × IsOctets v.cred_buffer

pub ts_remote_guard_package_cred_valid : (v : TsRemoteGuardPackageCred) → ts_remote_guard_package_cred_value v → ts_remote_guard_package_cred.valid v
ts_remote_guard_package_cred_valid v h = (h.0, (h.1, tt))

pub ts_remote_guard_package_cred_right : (v : TsRemoteGuardPackageCred) → ts_remote_guard_package_cred.valid v → ts_remote_guard_package_cred_value v
ts_remote_guard_package_cred_right v h = (h.0, h.1.0)

-- ---- TSRemoteGuardCreds

abbrev pub ts_remote_guard_creds_fields : Codec
ts_remote_guard_creds_fields = tagged 48 (required 160 ts_remote_guard_package_cred (maybe 161 (sequence_of ts_remote_guard_package_cred) end))

abbrev pub ts_remote_guard_creds_to : TsRemoteGuardCreds → (ts_remote_guard_creds_fields).value
ts_remote_guard_creds_to v = (v.logon_cred, (v.supplemental_creds.0, tt))

abbrev pub ts_remote_guard_creds_of : (ts_remote_guard_creds_fields).value → TsRemoteGuardCreds
ts_remote_guard_creds_of x = record { logon_cred = x.0; supplemental_creds = record { 0 = x.1.0 } }

abbrev pub ts_remote_guard_creds : Codec
ts_remote_guard_creds = coded ts_remote_guard_creds_fields ts_remote_guard_creds_to

pub ts_remote_guard_creds_tie : (schema : Schema) (k : IsKerberos schema) (levels : ℕ) → Tie schema k (suc (suc (suc (suc levels)))) 129 ts_remote_guard_creds
unfolding cases fields shapes
ts_remote_guard_creds_tie schema k levels =
    coded_tie schema k (suc (suc (suc (suc levels)))) 129 ts_remote_guard_creds_fields ts_remote_guard_creds_to ts_remote_guard_creds_of (λ x. refl)
    (sequence_tie schema k (suc (suc (suc levels))) 129 48 229 2 _ _ refl (lit≤ tt) refl
    (required_tie schema k _ _ _ _ _ _ _ _ _ (ts_remote_guard_package_cred_tie schema k (suc levels))
    (maybe_tie schema k _ _ _ _ _ _ _ _ _ refl (list_tie schema k (suc (suc levels)) 128 130 false _ refl (ts_remote_guard_package_cred_tie schema k levels))
    (end_tie schema k _))))

abbrev pub ts_remote_guard_creds_octets : TsRemoteGuardCreds → List ℕ
ts_remote_guard_creds_octets v = sequence (explicit 0 (ts_remote_guard_package_cred_octets v.logon_cred) ++ optional (λ x. explicit 1 ((asn1_sequence_of ts_remote_guard_package_cred_octets) x)) v.supplemental_creds.0)

pub ts_remote_guard_creds_same : (v : TsRemoteGuardCreds) → ts_remote_guard_creds_octets v ≡ ts_remote_guard_creds.enc v
ts_remote_guard_creds_same v =
    let e0 = (ts_remote_guard_package_cred_same v.logon_cred) in
    let e1 = optional_same (λ y. ap (tlv 161) (ap (tlv 48) (flat_map_same (λ x0. (ts_remote_guard_package_cred_same x0)) y))) v.supplemental_creds.0 in
    let whole : ts_remote_guard_creds_octets v ≡ tlv 48 (tlv 160 (ts_remote_guard_package_cred.enc v.logon_cred) ++ optional (λ x. tlv 161 ((sequence_of ts_remote_guard_package_cred).enc x)) v.supplemental_creds.0) =
    rw (e0, e1) (refl) in
    whole ∙ ap (λ (o : List ℕ). tlv 48 (tlv 160 (ts_remote_guard_package_cred.enc v.logon_cred) ++ o)) (sym (append-nil (optional (λ x. tlv 161 ((sequence_of ts_remote_guard_package_cred).enc x)) v.supplemental_creds.0)))

abbrev pub ts_remote_guard_creds_value : TsRemoteGuardCreds → Type 0
ts_remote_guard_creds_value v = ts_remote_guard_package_cred_value v.logon_cred × IfSome v.supplemental_creds.0 (AllByRecursion ts_remote_guard_package_cred_value)

pub ts_remote_guard_creds_valid : (v : TsRemoteGuardCreds) → ts_remote_guard_creds_value v → ts_remote_guard_creds.valid v
ts_remote_guard_creds_valid v h = ((ts_remote_guard_package_cred_valid v.logon_cred h.0), ((some_as {P = (AllByRecursion ts_remote_guard_package_cred_value)} {Q = (sequence_of ts_remote_guard_package_cred).valid} (λ y k. (all_as {P = ts_remote_guard_package_cred_value} {Q = ts_remote_guard_package_cred.valid} (λ x0 k0. (ts_remote_guard_package_cred_valid x0 k0)) y k)) v.supplemental_creds.0 h.1), tt))

pub ts_remote_guard_creds_right : (v : TsRemoteGuardCreds) → ts_remote_guard_creds.valid v → ts_remote_guard_creds_value v
ts_remote_guard_creds_right v h = ((ts_remote_guard_package_cred_right v.logon_cred h.0), (some_as {P = (sequence_of ts_remote_guard_package_cred).valid} {Q = (AllByRecursion ts_remote_guard_package_cred_value)} (λ y k. (all_as {P = ts_remote_guard_package_cred.valid} {Q = ts_remote_guard_package_cred_value} (λ x0 k0. (ts_remote_guard_package_cred_right x0 k0)) y k)) v.supplemental_creds.0 h.1.0))
