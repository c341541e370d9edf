-- Data types as readers, and their first errors.
use Rattle.std.proofs.Common.{ℕ, suc, false, refl, lit≤}
use Rattle.krb_types.specs.declared.data_types.addresses.HostAddress.{HostAddress}
use Rattle.krb_types.specs.declared.data_types.authorization_data.AuthorizationDataInner.{AuthorizationDataInner}
use Rattle.krb_types.specs.declared.data_types.checksums.Checksum.{Checksum}
use Rattle.krb_types.specs.declared.data_types.encryption.EncryptedData.{EncryptedData}
use Rattle.krb_types.specs.declared.data_types.encryption.EncryptionKey.{EncryptionKey}
use Rattle.krb_types.specs.declared.data_types.error_data.KerbErrorData.{KerbErrorData}
use Rattle.krb_types.specs.declared.data_types.etype_info.EtypeInfo2Entry.{EtypeInfo2Entry}
use Rattle.krb_types.specs.declared.data_types.last_requests.LastReqInner.{LastReqInner}
use Rattle.krb_types.specs.declared.data_types.names.PrincipalName.{PrincipalName}
use Rattle.krb_types.specs.declared.data_types.passwords.ChangePasswdData.{ChangePasswdData}
use Rattle.krb_types.specs.declared.data_types.pre_authentication.KerbPaPacRequest.{KerbPaPacRequest}
use Rattle.krb_types.specs.declared.data_types.pre_authentication.PaData.{PaData}
use Rattle.krb_types.specs.declared.data_types.pre_authentication.PaEncTsEnc.{PaEncTsEnc}
use Rattle.krb_types.specs.declared.data_types.pre_authentication.PaPacOptions.{PaPacOptions}
use Rattle.krb_types.specs.declared.data_types.restrictions.KerbAdRestrictionEntry.{KerbAdRestrictionEntry}
use Rattle.krb_types.specs.declared.data_types.tickets.TicketInner.{TicketInner}
use Rattle.krb_types.specs.declared.data_types.tickets.TransitedEncoding.{TransitedEncoding}
use Rattle.krb_schema.specs.declared.shape.Schema.{Schema}
use Rattle.krb_schema.specs.Named.{IsKerberos}
use Rattle.krb_schema.specs.Types.{cases, fields, shapes}
use Rattle.krb_show_row_laws.proofs.Readers.{Fields, Reader, bits, explicit, four, integer, maybe, octets, one, pair, sequence, sequence_of, text, time, triple, truth}
use Rattle.krb_show_row_laws.proofs.FaultRows.{FaultTie, list_refused}
use Rattle.krb_show_row_laws.proofs.FaultFields.{four_refused, maybe_refused, pair_refused, required_refused, sequence_refused, triple_refused}
use Rattle.krb_show_row_laws.proofs.FaultLeaves.{cipher_refused, component_refused, flags_refused, holding_refused, integer_refused, microseconds_refused, number_refused, octets_refused, secret_refused, text_refused, time_refused, truth_refused}
use Rattle.krb_show_row_laws.proofs.DataTypeRows.{principal_name, principal_name_tie, principal_name_same, principal_name_right, host_address, host_address_tie, host_address_same, host_address_right, authorization_data, authorization_data_tie, authorization_data_same, authorization_data_right, encrypted_data, encrypted_data_tie, encrypted_data_same, encrypted_data_right, encryption_key, encryption_key_tie, encryption_key_same, encryption_key_right, checksum, checksum_tie, checksum_same, checksum_right, ticket, ticket_tie, ticket_same, ticket_right, transited_encoding, transited_encoding_tie, transited_encoding_same, transited_encoding_right, pa_data, pa_data_tie, pa_data_same, pa_data_right, pa_enc_ts_enc, pa_enc_ts_enc_tie, pa_enc_ts_enc_same, pa_enc_ts_enc_right, etype_info2_entry, etype_info2_entry_tie, etype_info2_entry_same, etype_info2_entry_right, kerb_pa_pac_request, kerb_pa_pac_request_tie, kerb_pa_pac_request_same, kerb_pa_pac_request_right, pa_pac_options, pa_pac_options_tie, pa_pac_options_same, pa_pac_options_right, last_req, last_req_tie, last_req_same, last_req_right, kerb_error_data, kerb_error_data_tie, kerb_error_data_same, kerb_error_data_right, kerb_ad_restriction_entry, kerb_ad_restriction_entry_tie, kerb_ad_restriction_entry_same, kerb_ad_restriction_entry_right, change_passwd_data, change_passwd_data_tie, change_passwd_data_same, change_passwd_data_right}

-- ---- PrincipalName

abbrev pub principal_name_read : Fields
principal_name_read = pair (one (explicit 160 integer)) (one (explicit 161 (sequence_of text)))

abbrev pub principal_name_parts : PrincipalName → (principal_name_read).value
principal_name_parts v = (v.name_type, v.name_string)

abbrev pub principal_name_reader : Reader
principal_name_reader = sequence principal_name_read principal_name_parts

pub principal_name_refused : (schema : Schema) (k : IsKerberos schema) (levels : ℕ) → FaultTie schema k (suc (suc (suc levels))) 15 principal_name_reader
unfolding cases fields shapes
principal_name_refused schema k levels =
    sequence_refused schema k (suc (suc levels)) 15 0 2 _ principal_name_read principal_name_parts principal_name (λ x. x) refl (lit≤ tt) refl
    (principal_name_tie schema k levels) principal_name_right principal_name_same
    (pair_refused schema k _ _ _ _ _ _
    (required_refused schema k _ _ _ _ _ _ _ _ (integer_refused schema k (suc levels) 1 refl))
    (required_refused schema k _ _ _ _ _ _ _ _ (list_refused schema k (suc levels) 14 12 false _ refl (component_refused schema k levels 12 refl))))

-- ---- HostAddress

abbrev pub host_address_read : Fields
host_address_read = pair (one (explicit 160 integer)) (one (explicit 161 octets))

abbrev pub host_address_parts : HostAddress → (host_address_read).value
host_address_parts v = (v.addr_type, v.address)

abbrev pub host_address_reader : Reader
host_address_reader = sequence host_address_read host_address_parts

pub host_address_refused : (schema : Schema) (k : IsKerberos schema) (levels : ℕ) → FaultTie schema k (suc (suc levels)) 16 host_address_reader
unfolding cases fields shapes
host_address_refused schema k levels =
    sequence_refused schema k (suc levels) 16 2 2 _ host_address_read host_address_parts host_address (λ x. x) refl (lit≤ tt) refl
    (host_address_tie schema k levels) host_address_right host_address_same
    (pair_refused schema k _ _ _ _ _ _
    (required_refused schema k _ _ _ _ _ _ _ _ (integer_refused schema k levels 1 refl))
    (required_refused schema k _ _ _ _ _ _ _ _ (octets_refused schema k levels 6 refl)))

-- ---- AuthorizationDataInner

abbrev pub authorization_data_read : Fields
authorization_data_read = pair (one (explicit 160 integer)) (one (explicit 161 octets))

abbrev pub authorization_data_parts : AuthorizationDataInner → (authorization_data_read).value
authorization_data_parts v = (v.ad_type, v.ad_data)

abbrev pub authorization_data_reader : Reader
authorization_data_reader = sequence authorization_data_read authorization_data_parts

pub authorization_data_refused : (schema : Schema) (k : IsKerberos schema) (levels : ℕ) → FaultTie schema k (suc (suc levels)) 19 authorization_data_reader
unfolding cases fields shapes
authorization_data_refused schema k levels =
    sequence_refused schema k (suc levels) 19 4 2 _ authorization_data_read authorization_data_parts authorization_data (λ x. x) refl (lit≤ tt) refl
    (authorization_data_tie schema k levels) authorization_data_right authorization_data_same
    (pair_refused schema k _ _ _ _ _ _
    (required_refused schema k _ _ _ _ _ _ _ _ (integer_refused schema k levels 1 refl))
    (required_refused schema k _ _ _ _ _ _ _ _ (holding_refused schema k levels 18 0 5 refl (lit≤ tt))))

-- ---- EncryptedData

abbrev pub encrypted_data_read : Fields
encrypted_data_read = triple (one (explicit 160 integer)) (maybe (explicit 161 integer)) (one (explicit 162 octets))

abbrev pub encrypted_data_parts : EncryptedData → (encrypted_data_read).value
encrypted_data_parts v = (v.etype, v.kvno, v.cipher)

abbrev pub encrypted_data_reader : Reader
encrypted_data_reader = sequence encrypted_data_read encrypted_data_parts

pub encrypted_data_refused : (schema : Schema) (k : IsKerberos schema) (levels : ℕ) → FaultTie schema k (suc (suc levels)) 23 encrypted_data_reader
unfolding cases fields shapes
encrypted_data_refused schema k levels =
    sequence_refused schema k (suc levels) 23 8 3 _ encrypted_data_read encrypted_data_parts encrypted_data (λ x. x) refl (lit≤ tt) refl
    (encrypted_data_tie schema k levels) encrypted_data_right encrypted_data_same
    (triple_refused schema k _ _ _ _ _ _ _ _
    (required_refused schema k _ _ _ _ _ _ _ _ (integer_refused schema k levels 1 refl))
    (maybe_refused schema k _ _ _ _ _ _ _ _ (integer_refused schema k levels 1 refl))
    (required_refused schema k _ _ _ _ _ _ _ _ (cipher_refused schema k levels 8 refl)))

-- ---- EncryptionKey

abbrev pub encryption_key_read : Fields
encryption_key_read = pair (one (explicit 160 integer)) (one (explicit 161 octets))

abbrev pub encryption_key_parts : EncryptionKey → (encryption_key_read).value
encryption_key_parts v = (v.key_type, v.key_value)

abbrev pub encryption_key_reader : Reader
encryption_key_reader = sequence encryption_key_read encryption_key_parts

pub encryption_key_refused : (schema : Schema) (k : IsKerberos schema) (levels : ℕ) → FaultTie schema k (suc (suc levels)) 24 encryption_key_reader
unfolding cases fields shapes
encryption_key_refused schema k levels =
    sequence_refused schema k (suc levels) 24 11 2 _ encryption_key_read encryption_key_parts encryption_key (λ x. x) refl (lit≤ tt) refl
    (encryption_key_tie schema k levels) encryption_key_right encryption_key_same
    (pair_refused schema k _ _ _ _ _ _
    (required_refused schema k _ _ _ _ _ _ _ _ (integer_refused schema k levels 1 refl))
    (required_refused schema k _ _ _ _ _ _ _ _ (secret_refused schema k levels 7 refl)))

-- ---- Checksum

abbrev pub checksum_read : Fields
checksum_read = pair (one (explicit 160 integer)) (one (explicit 161 octets))

abbrev pub checksum_parts : Checksum → (checksum_read).value
checksum_parts v = (v.cksumtype, v.checksum)

abbrev pub checksum_reader : Reader
checksum_reader = sequence checksum_read checksum_parts

pub checksum_refused : (schema : Schema) (k : IsKerberos schema) (levels : ℕ) → FaultTie schema k (suc (suc levels)) 25 checksum_reader
unfolding cases fields shapes
checksum_refused schema k levels =
    sequence_refused schema k (suc levels) 25 13 2 _ checksum_read checksum_parts checksum (λ x. x) refl (lit≤ tt) refl
    (checksum_tie schema k levels) checksum_right checksum_same
    (pair_refused schema k _ _ _ _ _ _
    (required_refused schema k _ _ _ _ _ _ _ _ (integer_refused schema k levels 1 refl))
    (required_refused schema k _ _ _ _ _ _ _ _ (octets_refused schema k levels 6 refl)))

-- ---- TicketInner

abbrev pub ticket_read : Fields
ticket_read = four
    (one (explicit 160 integer))
    (one (explicit 161 text))
    (one (explicit 162 principal_name_reader))
    (one (explicit 163 encrypted_data_reader))

abbrev pub ticket_parts : TicketInner → (ticket_read).value
ticket_parts v = (v.tkt_vno, v.realm, v.sname, v.enc_part)

abbrev pub ticket_reader : Reader
ticket_reader = sequence ticket_read ticket_parts

pub ticket_refused : (schema : Schema) (k : IsKerberos schema) (levels : ℕ) → FaultTie schema k (suc (suc (suc (suc levels)))) 27 ticket_reader
unfolding cases fields shapes
ticket_refused schema k levels =
    sequence_refused schema k (suc (suc (suc levels))) 27 15 4 _ ticket_read ticket_parts ticket (λ x. x) refl (lit≤ tt) refl
    (ticket_tie schema k levels) ticket_right ticket_same
    (four_refused schema k _ _ _ _ _ _ _ _ _ _
    (required_refused schema k _ _ _ _ _ _ _ _ (number_refused schema k (suc (suc levels)) 26 5 refl))
    (required_refused schema k _ _ _ _ _ _ _ _ (text_refused schema k (suc (suc levels)) 11 refl))
    (required_refused schema k _ _ _ _ _ _ _ _ (principal_name_refused schema k levels))
    (required_refused schema k _ _ _ _ _ _ _ _ (encrypted_data_refused schema k (suc levels))))

-- ---- TransitedEncoding

abbrev pub transited_encoding_read : Fields
transited_encoding_read = pair (one (explicit 160 integer)) (one (explicit 161 octets))

abbrev pub transited_encoding_parts : TransitedEncoding → (transited_encoding_read).value
transited_encoding_parts v = (v.tr_type, v.contents)

abbrev pub transited_encoding_reader : Reader
transited_encoding_reader = sequence transited_encoding_read transited_encoding_parts

pub transited_encoding_refused : (schema : Schema) (k : IsKerberos schema) (levels : ℕ) → FaultTie schema k (suc (suc levels)) 31 transited_encoding_reader
unfolding cases fields shapes
transited_encoding_refused schema k levels =
    sequence_refused schema k (suc levels) 31 30 2 _ transited_encoding_read transited_encoding_parts transited_encoding (λ x. x) refl (lit≤ tt) refl
    (transited_encoding_tie schema k levels) transited_encoding_right transited_encoding_same
    (pair_refused schema k _ _ _ _ _ _
    (required_refused schema k _ _ _ _ _ _ _ _ (integer_refused schema k levels 1 refl))
    (required_refused schema k _ _ _ _ _ _ _ _ (octets_refused schema k levels 6 refl)))

-- ---- PA-DATA

abbrev pub pa_data_read : Fields
pa_data_read = pair (one (explicit 161 integer)) (one (explicit 162 octets))

abbrev pub pa_data_parts : PaData → (pa_data_read).value
pa_data_parts v = (v.padata_type, v.padata_data)

abbrev pub pa_data_reader : Reader
pa_data_reader = sequence pa_data_read pa_data_parts

pub pa_data_refused : (schema : Schema) (k : IsKerberos schema) (levels : ℕ) → FaultTie schema k (suc (suc levels)) 33 pa_data_reader
unfolding cases fields shapes
pa_data_refused schema k levels =
    sequence_refused schema k (suc levels) 33 32 2 _ pa_data_read pa_data_parts pa_data (λ x. x) refl (lit≤ tt) refl
    (pa_data_tie schema k levels) pa_data_right pa_data_same
    (pair_refused schema k _ _ _ _ _ _
    (required_refused schema k _ _ _ _ _ _ _ _ (integer_refused schema k levels 1 refl))
    (required_refused schema k _ _ _ _ _ _ _ _ (holding_refused schema k levels 32 5 10 refl (lit≤ tt))))

-- ---- PA-ENC-TS-ENC

abbrev pub pa_enc_ts_enc_read : Fields
pa_enc_ts_enc_read = pair (one (explicit 160 time)) (maybe (explicit 161 integer))

abbrev pub pa_enc_ts_enc_parts : PaEncTsEnc → (pa_enc_ts_enc_read).value
pa_enc_ts_enc_parts v = (v.patimestamp, v.pausec)

abbrev pub pa_enc_ts_enc_reader : Reader
pa_enc_ts_enc_reader = sequence pa_enc_ts_enc_read pa_enc_ts_enc_parts

pub pa_enc_ts_enc_refused : (schema : Schema) (k : IsKerberos schema) (levels : ℕ) → FaultTie schema k (suc (suc levels)) 35 pa_enc_ts_enc_reader
unfolding cases fields shapes
pa_enc_ts_enc_refused schema k levels =
    sequence_refused schema k (suc levels) 35 34 2 _ pa_enc_ts_enc_read pa_enc_ts_enc_parts pa_enc_ts_enc (λ x. x) refl (lit≤ tt) refl
    (pa_enc_ts_enc_tie schema k levels) pa_enc_ts_enc_right pa_enc_ts_enc_same
    (pair_refused schema k _ _ _ _ _ _
    (required_refused schema k _ _ _ _ _ _ _ _ (time_refused schema k levels 10 refl))
    (maybe_refused schema k _ _ _ _ _ _ _ _ (microseconds_refused schema k levels 3 refl)))

-- ---- ETYPE-INFO2-ENTRY

abbrev pub etype_info2_entry_read : Fields
etype_info2_entry_read = triple (one (explicit 160 integer)) (maybe (explicit 161 text)) (maybe (explicit 162 octets))

abbrev pub etype_info2_entry_parts : EtypeInfo2Entry → (etype_info2_entry_read).value
etype_info2_entry_parts v = (v.etype, v.salt, v.s2kparams)

abbrev pub etype_info2_entry_reader : Reader
etype_info2_entry_reader = sequence etype_info2_entry_read etype_info2_entry_parts

pub etype_info2_entry_refused : (schema : Schema) (k : IsKerberos schema) (levels : ℕ) → FaultTie schema k (suc (suc levels)) 36 etype_info2_entry_reader
unfolding cases fields shapes
etype_info2_entry_refused schema k levels =
    sequence_refused schema k (suc levels) 36 36 3 _ etype_info2_entry_read etype_info2_entry_parts etype_info2_entry (λ x. x) refl (lit≤ tt) refl
    (etype_info2_entry_tie schema k levels) etype_info2_entry_right etype_info2_entry_same
    (triple_refused schema k _ _ _ _ _ _ _ _
    (required_refused schema k _ _ _ _ _ _ _ _ (integer_refused schema k levels 1 refl))
    (maybe_refused schema k _ _ _ _ _ _ _ _ (text_refused schema k levels 11 refl))
    (maybe_refused schema k _ _ _ _ _ _ _ _ (octets_refused schema k levels 6 refl)))

-- ---- KERB-PA-PAC-REQUEST

abbrev pub kerb_pa_pac_request_read : Fields
kerb_pa_pac_request_read = one (explicit 160 truth)

abbrev pub kerb_pa_pac_request_parts : KerbPaPacRequest → (kerb_pa_pac_request_read).value
kerb_pa_pac_request_parts v = v.include_pac

abbrev pub kerb_pa_pac_request_reader : Reader
kerb_pa_pac_request_reader = sequence kerb_pa_pac_request_read kerb_pa_pac_request_parts

pub kerb_pa_pac_request_refused : (schema : Schema) (k : IsKerberos schema) (levels : ℕ) → FaultTie schema k (suc (suc levels)) 38 kerb_pa_pac_request_reader
unfolding cases fields shapes
kerb_pa_pac_request_refused schema k levels =
    sequence_refused schema k (suc levels) 38 39 1 _ kerb_pa_pac_request_read kerb_pa_pac_request_parts kerb_pa_pac_request (λ x. x) refl (lit≤ tt) refl
    (kerb_pa_pac_request_tie schema k levels) kerb_pa_pac_request_right kerb_pa_pac_request_same
    (required_refused schema k _ _ _ _ _ _ _ _ (truth_refused schema k levels 0 refl))

-- ---- PA-PAC-OPTIONS

abbrev pub pa_pac_options_read : Fields
pa_pac_options_read = one (explicit 160 bits)

abbrev pub pa_pac_options_parts : PaPacOptions → (pa_pac_options_read).value
pa_pac_options_parts v = v.flags

abbrev pub pa_pac_options_reader : Reader
pa_pac_options_reader = sequence pa_pac_options_read pa_pac_options_parts

pub pa_pac_options_refused : (schema : Schema) (k : IsKerberos schema) (levels : ℕ) → FaultTie schema k (suc (suc levels)) 39 pa_pac_options_reader
unfolding cases fields shapes
pa_pac_options_refused schema k levels =
    sequence_refused schema k (suc levels) 39 40 1 _ pa_pac_options_read pa_pac_options_parts pa_pac_options (λ x. x) refl (lit≤ tt) refl
    (pa_pac_options_tie schema k levels) pa_pac_options_right pa_pac_options_same
    (required_refused schema k _ _ _ _ _ _ _ _ (flags_refused schema k levels 5 refl))

-- ---- LastReqInner

abbrev pub last_req_read : Fields
last_req_read = pair (one (explicit 160 integer)) (one (explicit 161 time))

abbrev pub last_req_parts : LastReqInner → (last_req_read).value
last_req_parts v = (v.lr_type, v.lr_value)

abbrev pub last_req_reader : Reader
last_req_reader = sequence last_req_read last_req_parts

pub last_req_refused : (schema : Schema) (k : IsKerberos schema) (levels : ℕ) → FaultTie schema k (suc (suc levels)) 61 last_req_reader
unfolding cases fields shapes
last_req_refused schema k levels =
    sequence_refused schema k (suc levels) 61 88 2 _ last_req_read last_req_parts last_req (λ x. x) refl (lit≤ tt) refl
    (last_req_tie schema k levels) last_req_right last_req_same
    (pair_refused schema k _ _ _ _ _ _
    (required_refused schema k _ _ _ _ _ _ _ _ (integer_refused schema k levels 1 refl))
    (required_refused schema k _ _ _ _ _ _ _ _ (time_refused schema k levels 10 refl)))

-- ---- KERB-ERROR-DATA

abbrev pub kerb_error_data_read : Fields
kerb_error_data_read = pair (one (explicit 161 integer)) (maybe (explicit 162 octets))

abbrev pub kerb_error_data_parts : KerbErrorData → (kerb_error_data_read).value
kerb_error_data_parts v = (v.data_type, v.data_value)

abbrev pub kerb_error_data_reader : Reader
kerb_error_data_reader = sequence kerb_error_data_read kerb_error_data_parts

pub kerb_error_data_refused : (schema : Schema) (k : IsKerberos schema) (levels : ℕ) → FaultTie schema k (suc (suc levels)) 89 kerb_error_data_reader
unfolding cases fields shapes
kerb_error_data_refused schema k levels =
    sequence_refused schema k (suc levels) 89 154 2 _ kerb_error_data_read kerb_error_data_parts kerb_error_data (λ x. x) refl (lit≤ tt) refl
    (kerb_error_data_tie schema k levels) kerb_error_data_right kerb_error_data_same
    (pair_refused schema k _ _ _ _ _ _
    (required_refused schema k _ _ _ _ _ _ _ _ (integer_refused schema k levels 1 refl))
    (maybe_refused schema k _ _ _ _ _ _ _ _ (octets_refused schema k levels 6 refl)))

-- ---- KERB-AD-RESTRICTION-ENTRY

abbrev pub kerb_ad_restriction_entry_read : Fields
kerb_ad_restriction_entry_read = pair (one (explicit 160 integer)) (one (explicit 161 octets))

abbrev pub kerb_ad_restriction_entry_parts : KerbAdRestrictionEntry → (kerb_ad_restriction_entry_read).value
kerb_ad_restriction_entry_parts v = (v.restriction_type, v.restriction)

abbrev pub kerb_ad_restriction_entry_reader : Reader
kerb_ad_restriction_entry_reader = sequence kerb_ad_restriction_entry_read kerb_ad_restriction_entry_parts

pub kerb_ad_restriction_entry_refused : (schema : Schema) (k : IsKerberos schema) (levels : ℕ) → FaultTie schema k (suc (suc levels)) 90 kerb_ad_restriction_entry_reader
unfolding cases fields shapes
kerb_ad_restriction_entry_refused schema k levels =
    sequence_refused schema k (suc levels) 90 156 2 _ kerb_ad_restriction_entry_read kerb_ad_restriction_entry_parts kerb_ad_restriction_entry (λ x. x) refl (lit≤ tt) refl
    (kerb_ad_restriction_entry_tie schema k levels) kerb_ad_restriction_entry_right kerb_ad_restriction_entry_same
    (pair_refused schema k _ _ _ _ _ _
    (required_refused schema k _ _ _ _ _ _ _ _ (integer_refused schema k levels 1 refl))
    (required_refused schema k _ _ _ _ _ _ _ _ (octets_refused schema k levels 6 refl)))

-- ---- ChangePasswdData

abbrev pub change_passwd_data_read : Fields
change_passwd_data_read = triple (one (explicit 160 octets)) (maybe (explicit 161 principal_name_reader)) (maybe (explicit 162 text))

abbrev pub change_passwd_data_parts : ChangePasswdData → (change_passwd_data_read).value
change_passwd_data_parts v = (v.new_passwd, v.target_name, v.target_realm)

abbrev pub change_passwd_data_reader : Reader
change_passwd_data_reader = sequence change_passwd_data_read change_passwd_data_parts

pub change_passwd_data_refused : (schema : Schema) (k : IsKerberos schema) (levels : ℕ) → FaultTie schema k (suc (suc (suc (suc levels)))) 91 change_passwd_data_reader
unfolding cases fields shapes
change_passwd_data_refused schema k levels =
    sequence_refused schema k (suc (suc (suc levels))) 91 158 3 _ change_passwd_data_read change_passwd_data_parts change_passwd_data (λ x. x) refl (lit≤ tt) refl
    (change_passwd_data_tie schema k levels) change_passwd_data_right change_passwd_data_same
    (triple_refused schema k _ _ _ _ _ _ _ _
    (required_refused schema k _ _ _ _ _ _ _ _ (secret_refused schema k (suc (suc levels)) 7 refl))
    (maybe_refused schema k _ _ _ _ _ _ _ _ (principal_name_refused schema k levels))
    (maybe_refused schema k _ _ _ _ _ _ _ _ (text_refused schema k (suc (suc levels)) 11 refl)))
