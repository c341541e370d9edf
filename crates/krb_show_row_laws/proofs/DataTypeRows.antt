-- Data types as codecs, and their rows.
use Rattle.std.proofs.Common.{◌≡◌, ℕ, suc, ◌≤◌, false, refl, sym, ap, ◌∙◌, List, ◌++◌, lit≤}
use Rattle.std.specs.List.{AllByRecursion}
use Rattle.std.specs.Option.{IfSome}
use Rattle.std.specs.Str.{IsAscii}
use Rattle.std.proofs.lemmas.List.{append-nil, append_assoc}
use Rattle.krb_der.specs.Asn1.{boolean, bit_string, explicit, general_string, generalized_time, octet_string, sequence}
use Rattle.krb_der.specs.Asn1.{integer as integer_octets, sequence_of as asn1_sequence_of}
use Rattle.krb_der_core.specs.BitString.{IsBits}
use Rattle.krb_der_core.specs.Encoding.{IsOctets, optional}
use Rattle.krb_der_core.specs.GeneralizedTime.{IsRealTime}
use Rattle.krb_der_core.specs.Tlv.{tlv}
use Rattle.krb_types.specs.declared.data_types.addresses.HostAddress.{HostAddress}
use Rattle.krb_types.specs.declared.data_types.authorization_data.AuthorizationDataInner.{AuthorizationDataInner}
use Rattle.krb_types.specs.declared.data_types.checksums.Checksum.{Checksum}
use Rattle.krb_types.specs.declared.data_types.encryption.EncryptedData.{EncryptedData}
use Rattle.krb_types.specs.declared.data_types.encryption.EncryptionKey.{EncryptionKey}
use Rattle.krb_types.specs.declared.data_types.error_data.KerbErrorData.{KerbErrorData}
use Rattle.krb_types.specs.declared.data_types.etype_info.EtypeInfo2Entry.{EtypeInfo2Entry}
use Rattle.krb_types.specs.declared.data_types.last_requests.LastReqInner.{LastReqInner}
use Rattle.krb_types.specs.declared.data_types.names.PrincipalName.{PrincipalName}
use Rattle.krb_types.specs.declared.data_types.passwords.ChangePasswdData.{ChangePasswdData}
use Rattle.krb_types.specs.declared.data_types.pre_authentication.KerbPaPacRequest.{KerbPaPacRequest}
use Rattle.krb_types.specs.declared.data_types.pre_authentication.PaData.{PaData}
use Rattle.krb_types.specs.declared.data_types.pre_authentication.PaEncTsEnc.{PaEncTsEnc}
use Rattle.krb_types.specs.declared.data_types.pre_authentication.PaPacOptions.{PaPacOptions}
use Rattle.krb_types.specs.declared.data_types.restrictions.KerbAdRestrictionEntry.{KerbAdRestrictionEntry}
use Rattle.krb_types.specs.declared.data_types.tickets.TicketInner.{TicketInner}
use Rattle.krb_types.specs.declared.data_types.tickets.TransitedEncoding.{TransitedEncoding}
use Rattle.krb_schema.specs.declared.shape.Schema.{Schema}
use Rattle.krb_schema.specs.Named.{IsKerberos}
use Rattle.krb_schema.specs.Types.{cases, fields, shapes}
use Rattle.krb_show_row_laws.proofs.Codecs.{Codec, bits, coded, end, integer, maybe, octets, required, sequence_of, tagged, text, time, truth}
use Rattle.krb_show_row_laws.proofs.CodecRows.{IsAny, Tie, cipher_tie, coded_tie, component_tie, end_tie, flags_tie, holding_tie, integer_tie, list_tie, maybe_tie, microseconds_tie, number_tie, octets_tie, optional_same, required_tie, secret_tie, sequence_tie, some_as, text_tie, time_tie, truth_tie}

-- ---- PrincipalName

abbrev pub principal_name_fields : Codec
principal_name_fields = tagged 48 (required 160 integer (required 161 (sequence_of text) end))

abbrev pub principal_name_to : PrincipalName → (principal_name_fields).value
principal_name_to v = (v.name_type, (v.name_string, tt))

abbrev pub principal_name_of : (principal_name_fields).value → PrincipalName
principal_name_of x = record { name_type = x.0; name_string = x.1.0 }

abbrev pub principal_name : Codec
principal_name = coded principal_name_fields principal_name_to

pub principal_name_tie : (schema : Schema) (k : IsKerberos schema) (levels : ℕ) → Tie schema k (suc (suc (suc levels))) 15 principal_name
unfolding cases fields shapes
principal_name_tie schema k levels =
    coded_tie schema k (suc (suc (suc levels))) 15 principal_name_fields principal_name_to principal_name_of (λ x. refl)
    (sequence_tie schema k (suc (suc levels)) 15 48 0 2 _ _ refl (lit≤ tt) refl
    (required_tie schema k _ _ _ _ _ _ _ _ _ (integer_tie schema k (suc levels) 1 refl)
    (required_tie schema k _ _ _ _ _ _ _ _ _ (list_tie schema k (suc levels) 14 12 false _ refl (component_tie schema k levels 12 refl))
    (end_tie schema k _))))

abbrev pub principal_name_octets : PrincipalName → List ℕ
principal_name_octets v = sequence (explicit 0 (integer_octets v.name_type) ++ explicit 1 ((asn1_sequence_of general_string) v.name_string))

pub principal_name_same : (v : PrincipalName) → principal_name_octets v ≡ principal_name.enc v
principal_name_same v = simp (append-nil) refl

abbrev pub principal_name_value : PrincipalName → Type 0
principal_name_value v = IsAny v.name_type × (AllByRecursion IsAscii) v.name_string

pub principal_name_valid : (v : PrincipalName) → principal_name_value v → principal_name.valid v
principal_name_valid v h = (h.0, (h.1, tt))

pub principal_name_right : (v : PrincipalName) → principal_name.valid v → principal_name_value v
principal_name_right v h = (h.0, h.1.0)

-- ---- HostAddress

abbrev pub host_address_fields : Codec
host_address_fields = tagged 48 (required 160 integer (required 161 octets end))

abbrev pub host_address_to : HostAddress → (host_address_fields).value
host_address_to v = (v.addr_type, (v.address, tt))

abbrev pub host_address_of : (host_address_fields).value → HostAddress
host_address_of x = record { addr_type = x.0; address = x.1.0 }

abbrev pub host_address : Codec
host_address = coded host_address_fields host_address_to

pub host_address_tie : (schema : Schema) (k : IsKerberos schema) (levels : ℕ) → Tie schema k (suc (suc levels)) 16 host_address
unfolding cases fields shapes
host_address_tie schema k levels =
    coded_tie schema k (suc (suc levels)) 16 host_address_fields host_address_to host_address_of (λ x. refl)
    (sequence_tie schema k (suc levels) 16 48 2 2 _ _ refl (lit≤ tt) refl
    (required_tie schema k _ _ _ _ _ _ _ _ _ (integer_tie schema k levels 1 refl)
    (required_tie schema k _ _ _ _ _ _ _ _ _ (octets_tie schema k levels 6 refl)
    (end_tie schema k _))))

abbrev pub host_address_octets : HostAddress → List ℕ
host_address_octets v = sequence (explicit 0 (integer_octets v.addr_type) ++ explicit 1 (octet_string v.address))

pub host_address_same : (v : HostAddress) → host_address_octets v ≡ host_address.enc v
host_address_same v = simp (append-nil) refl

abbrev pub host_address_value : HostAddress → Type 0
host_address_value v = IsAny v.addr_type × IsOctets v.address

pub host_address_valid : (v : HostAddress) → host_address_value v → host_address.valid v
host_address_valid v h = (h.0, (h.1, tt))

pub host_address_right : (v : HostAddress) → host_address.valid v → host_address_value v
host_address_right v h = (h.0, h.1.0)

-- ---- AuthorizationDataInner

abbrev pub authorization_data_fields : Codec
authorization_data_fields = tagged 48 (required 160 integer (required 161 octets end))

abbrev pub authorization_data_to : AuthorizationDataInner → (authorization_data_fields).value
authorization_data_to v = (v.ad_type, (v.ad_data, tt))

abbrev pub authorization_data_of : (authorization_data_fields).value → AuthorizationDataInner
authorization_data_of x = record { ad_type = x.0; ad_data = x.1.0 }

abbrev pub authorization_data : Codec
authorization_data = coded authorization_data_fields authorization_data_to

pub authorization_data_tie : (schema : Schema) (k : IsKerberos schema) (levels : ℕ) → Tie schema k (suc (suc levels)) 19 authorization_data
unfolding cases fields shapes
authorization_data_tie schema k levels =
    coded_tie schema k (suc (suc levels)) 19 authorization_data_fields authorization_data_to authorization_data_of (λ x. refl)
    (sequence_tie schema k (suc levels) 19 48 4 2 _ _ refl (lit≤ tt) refl
    (required_tie schema k _ _ _ _ _ _ _ _ _ (integer_tie schema k levels 1 refl)
    (required_tie schema k _ _ _ _ _ _ _ _ _ (holding_tie schema k levels 18 0 5 refl (lit≤ tt))
    (end_tie schema k _))))

abbrev pub authorization_data_octets : AuthorizationDataInner → List ℕ
authorization_data_octets v = sequence (explicit 0 (integer_octets v.ad_type) ++ explicit 1 (octet_string v.ad_data))

pub authorization_data_same : (v : AuthorizationDataInner) → authorization_data_octets v ≡ authorization_data.enc v
authorization_data_same v = simp (append-nil) refl

abbrev pub authorization_data_value : AuthorizationDataInner → Type 0
authorization_data_value v = IsAny v.ad_type × IsOctets v.ad_data

pub authorization_data_valid : (v : AuthorizationDataInner) → authorization_data_value v → authorization_data.valid v
authorization_data_valid v h = (h.0, (h.1, tt))

pub authorization_data_right : (v : AuthorizationDataInner) → authorization_data.valid v → authorization_data_value v
authorization_data_right v h = (h.0, h.1.0)

-- ---- EncryptedData

abbrev pub encrypted_data_fields : Codec
encrypted_data_fields = tagged 48 (required 160 integer (maybe 161 integer (required 162 octets end)))

abbrev pub encrypted_data_to : EncryptedData → (encrypted_data_fields).value
encrypted_data_to v = (v.etype, (v.kvno.0, (v.cipher, tt)))

abbrev pub encrypted_data_of : (encrypted_data_fields).value → EncryptedData
encrypted_data_of x = record { etype = x.0; kvno = record { 0 = x.1.0 }; cipher = x.1.1.0 }

abbrev pub encrypted_data : Codec
encrypted_data = coded encrypted_data_fields encrypted_data_to

pub encrypted_data_tie : (schema : Schema) (k : IsKerberos schema) (levels : ℕ) → Tie schema k (suc (suc levels)) 23 encrypted_data
unfolding cases fields shapes
encrypted_data_tie schema k levels =
    coded_tie schema k (suc (suc levels)) 23 encrypted_data_fields encrypted_data_to encrypted_data_of (λ x. refl)
    (sequence_tie schema k (suc levels) 23 48 8 3 _ _ refl (lit≤ tt) refl
    (required_tie schema k _ _ _ _ _ _ _ _ _ (integer_tie schema k levels 1 refl)
    (maybe_tie schema k _ _ _ _ _ _ _ _ _ refl (integer_tie schema k levels 1 refl)
    (required_tie schema k _ _ _ _ _ _ _ _ _ (cipher_tie schema k levels 8 refl)
    (end_tie schema k _)))))

abbrev pub encrypted_data_octets : EncryptedData → List ℕ
encrypted_data_octets v = sequence (explicit 0 (integer_octets v.etype) ++ optional (λ x. explicit 1 (integer_octets x)) v.kvno.0 ++ explicit 2 (octet_string v.cipher))

pub encrypted_data_same : (v : EncryptedData) → encrypted_data_octets v ≡ encrypted_data.enc v
encrypted_data_same v = simp (append_assoc, append-nil) refl

abbrev pub encrypted_data_value : EncryptedData → Type 0
encrypted_data_value v = IsAny v.etype × IfSome v.kvno.0 IsAny × IsOctets v.cipher

pub encrypted_data_valid : (v : EncryptedData) → encrypted_data_value v → encrypted_data.valid v
encrypted_data_valid v h = (h.0, (h.1, (h.2, tt)))

pub encrypted_data_right : (v : EncryptedData) → encrypted_data.valid v → encrypted_data_value v
encrypted_data_right v h = (h.0, h.1.0, h.1.1.0)

-- ---- EncryptionKey

abbrev pub encryption_key_fields : Codec
encryption_key_fields = tagged 48 (required 160 integer (required 161 octets end))

abbrev pub encryption_key_to : EncryptionKey → (encryption_key_fields).value
encryption_key_to v = (v.key_type, (v.key_value, tt))

abbrev pub encryption_key_of : (encryption_key_fields).value → EncryptionKey
encryption_key_of x = record { key_type = x.0; key_value = x.1.0 }

abbrev pub encryption_key : Codec
encryption_key = coded encryption_key_fields encryption_key_to

pub encryption_key_tie : (schema : Schema) (k : IsKerberos schema) (levels : ℕ) → Tie schema k (suc (suc levels)) 24 encryption_key
unfolding cases fields shapes
encryption_key_tie schema k levels =
    coded_tie schema k (suc (suc levels)) 24 encryption_key_fields encryption_key_to encryption_key_of (λ x. refl)
    (sequence_tie schema k (suc levels) 24 48 11 2 _ _ refl (lit≤ tt) refl
    (required_tie schema k _ _ _ _ _ _ _ _ _ (integer_tie schema k levels 1 refl)
    (required_tie schema k _ _ _ _ _ _ _ _ _ (secret_tie schema k levels 7 refl)
    (end_tie schema k _))))

abbrev pub encryption_key_octets : EncryptionKey → List ℕ
encryption_key_octets v = sequence (explicit 0 (integer_octets v.key_type) ++ explicit 1 (octet_string v.key_value))

pub encryption_key_same : (v : EncryptionKey) → encryption_key_octets v ≡ encryption_key.enc v
encryption_key_same v = simp (append-nil) refl

abbrev pub encryption_key_value : EncryptionKey → Type 0
encryption_key_value v = IsAny v.key_type × IsOctets v.key_value

pub encryption_key_valid : (v : EncryptionKey) → encryption_key_value v → encryption_key.valid v
encryption_key_valid v h = (h.0, (h.1, tt))

pub encryption_key_right : (v : EncryptionKey) → encryption_key.valid v → encryption_key_value v
encryption_key_right v h = (h.0, h.1.0)

-- ---- Checksum

abbrev pub checksum_fields : Codec
checksum_fields = tagged 48 (required 160 integer (required 161 octets end))

abbrev pub checksum_to : Checksum → (checksum_fields).value
checksum_to v = (v.cksumtype, (v.checksum, tt))

abbrev pub checksum_of : (checksum_fields).value → Checksum
checksum_of x = record { cksumtype = x.0; checksum = x.1.0 }

abbrev pub checksum : Codec
checksum = coded checksum_fields checksum_to

pub checksum_tie : (schema : Schema) (k : IsKerberos schema) (levels : ℕ) → Tie schema k (suc (suc levels)) 25 checksum
unfolding cases fields shapes
checksum_tie schema k levels =
    coded_tie schema k (suc (suc levels)) 25 checksum_fields checksum_to checksum_of (λ x. refl)
    (sequence_tie schema k (suc levels) 25 48 13 2 _ _ refl (lit≤ tt) refl
    (required_tie schema k _ _ _ _ _ _ _ _ _ (integer_tie schema k levels 1 refl)
    (required_tie schema k _ _ _ _ _ _ _ _ _ (octets_tie schema k levels 6 refl)
    (end_tie schema k _))))

abbrev pub checksum_octets : Checksum → List ℕ
checksum_octets v = sequence (explicit 0 (integer_octets v.cksumtype) ++ explicit 1 (octet_string v.checksum))

pub checksum_same : (v : Checksum) → checksum_octets v ≡ checksum.enc v
checksum_same v = simp (append-nil) refl

abbrev pub checksum_value : Checksum → Type 0
checksum_value v = IsAny v.cksumtype × IsOctets v.checksum

pub checksum_valid : (v : Checksum) → checksum_value v → checksum.valid v
checksum_valid v h = (h.0, (h.1, tt))

pub checksum_right : (v : Checksum) → checksum.valid v → checksum_value v
checksum_right v h = (h.0, h.1.0)

-- ---- TicketInner

abbrev pub ticket_fields : Codec
ticket_fields = tagged 48 (required 160 integer (required 161 text (required 162 principal_name (required 163 encrypted_data end))))

abbrev pub ticket_to : TicketInner → (ticket_fields).value
ticket_to v = (v.tkt_vno, (v.realm, (v.sname, (v.enc_part, tt))))

abbrev pub ticket_of : (ticket_fields).value → TicketInner
ticket_of x = record { tkt_vno = x.0; realm = x.1.0; sname = x.1.1.0; enc_part = x.1.1.1.0 }

abbrev pub ticket : Codec
ticket = coded ticket_fields ticket_to

pub ticket_tie : (schema : Schema) (k : IsKerberos schema) (levels : ℕ) → Tie schema k (suc (suc (suc (suc levels)))) 27 ticket
unfolding cases fields shapes
ticket_tie schema k levels =
    coded_tie schema k (suc (suc (suc (suc levels)))) 27 ticket_fields ticket_to ticket_of (λ x. refl)
    (sequence_tie schema k (suc (suc (suc levels))) 27 48 15 4 _ _ refl (lit≤ tt) refl
    (required_tie schema k _ _ _ _ _ _ _ _ _ (number_tie schema k (suc (suc levels)) 26 5 refl)
    (required_tie schema k _ _ _ _ _ _ _ _ _ (text_tie schema k (suc (suc levels)) 11 refl)
    (required_tie schema k _ _ _ _ _ _ _ _ _ (principal_name_tie schema k levels)
    (required_tie schema k _ _ _ _ _ _ _ _ _ (encrypted_data_tie schema k (suc levels))
    (end_tie schema k _))))))

abbrev pub ticket_octets : TicketInner → List ℕ
ticket_octets v = sequence (explicit 0 (integer_octets v.tkt_vno) ++ explicit 1 (general_string v.realm) ++ explicit 2 (principal_name_octets v.sname) ++ explicit 3 (encrypted_data_octets v.enc_part))

pub ticket_same : (v : TicketInner) → ticket_octets v ≡ ticket.enc v
ticket_same v =
    let e2 = (principal_name_same v.sname) in
    let e3 = (encrypted_data_same v.enc_part) in
    let whole : ticket_octets v ≡ tlv 48 (tlv 160 (integer.enc v.tkt_vno) ++ (tlv 161 (text.enc v.realm) ++ (tlv 162 (principal_name.enc v.sname) ++ tlv 163 (encrypted_data.enc v.enc_part)))) =
    rw (e2, e3) (simp append_assoc refl) in
    whole ∙ ap (λ (o : List ℕ). tlv 48 (tlv 160 (integer.enc v.tkt_vno) ++ (tlv 161 (text.enc v.realm) ++ (tlv 162 (principal_name.enc v.sname) ++ o)))) (sym (append-nil (tlv 163 (encrypted_data.enc v.enc_part))))

abbrev pub ticket_value : TicketInner → Type 0
ticket_value v = IsAny v.tkt_vno × IsAscii v.realm × principal_name_value v.sname × encrypted_data_value v.enc_part

pub ticket_valid : (v : TicketInner) → ticket_value v → ticket.valid v
ticket_valid v h = (h.0, (h.1, ((principal_name_valid v.sname h.2), ((encrypted_data_valid v.enc_part h.3), tt))))

pub ticket_right : (v : TicketInner) → ticket.valid v → ticket_value v
ticket_right v h = (h.0, h.1.0, (principal_name_right v.sname h.1.1.0), (encrypted_data_right v.enc_part h.1.1.1.0))

-- under its tag

abbrev pub tagged_ticket_octets : TicketInner → List ℕ
tagged_ticket_octets v = tlv 97 (ticket_octets v)

abbrev pub tagged_ticket_value : TicketInner → Type 0
tagged_ticket_value v = ticket_value v × (1 ≤ 30)

-- ---- TransitedEncoding

abbrev pub transited_encoding_fields : Codec
transited_encoding_fields = tagged 48 (required 160 integer (required 161 octets end))

abbrev pub transited_encoding_to : TransitedEncoding → (transited_encoding_fields).value
transited_encoding_to v = (v.tr_type, (v.contents, tt))

abbrev pub transited_encoding_of : (transited_encoding_fields).value → TransitedEncoding
transited_encoding_of x = record { tr_type = x.0; contents = x.1.0 }

abbrev pub transited_encoding : Codec
transited_encoding = coded transited_encoding_fields transited_encoding_to

pub transited_encoding_tie : (schema : Schema) (k : IsKerberos schema) (levels : ℕ) → Tie schema k (suc (suc levels)) 31 transited_encoding
unfolding cases fields shapes
transited_encoding_tie schema k levels =
    coded_tie schema k (suc (suc levels)) 31 transited_encoding_fields transited_encoding_to transited_encoding_of (λ x. refl)
    (sequence_tie schema k (suc levels) 31 48 30 2 _ _ refl (lit≤ tt) refl
    (required_tie schema k _ _ _ _ _ _ _ _ _ (integer_tie schema k levels 1 refl)
    (required_tie schema k _ _ _ _ _ _ _ _ _ (octets_tie schema k levels 6 refl)
    (end_tie schema k _))))

abbrev pub transited_encoding_octets : TransitedEncoding → List ℕ
transited_encoding_octets v = sequence (explicit 0 (integer_octets v.tr_type) ++ explicit 1 (octet_string v.contents))

pub transited_encoding_same : (v : TransitedEncoding) → transited_encoding_octets v ≡ transited_encoding.enc v
transited_encoding_same v = simp (append-nil) refl

abbrev pub transited_encoding_value : TransitedEncoding → Type 0
transited_encoding_value v = IsAny v.tr_type × IsOctets v.contents

pub transited_encoding_valid : (v : TransitedEncoding) → transited_encoding_value v → transited_encoding.valid v
transited_encoding_valid v h = (h.0, (h.1, tt))

pub transited_encoding_right : (v : TransitedEncoding) → transited_encoding.valid v → transited_encoding_value v
transited_encoding_right v h = (h.0, h.1.0)

-- ---- PA-DATA

abbrev pub pa_data_fields : Codec
pa_data_fields = tagged 48 (required 161 integer (required 162 octets end))

abbrev pub pa_data_to : PaData → (pa_data_fields).value
pa_data_to v = (v.padata_type, (v.padata_data, tt))

abbrev pub pa_data_of : (pa_data_fields).value → PaData
pa_data_of x = record { padata_type = x.0; padata_data = x.1.0 }

abbrev pub pa_data : Codec
pa_data = coded pa_data_fields pa_data_to

pub pa_data_tie : (schema : Schema) (k : IsKerberos schema) (levels : ℕ) → Tie schema k (suc (suc levels)) 33 pa_data
unfolding cases fields shapes
pa_data_tie schema k levels =
    coded_tie schema k (suc (suc levels)) 33 pa_data_fields pa_data_to pa_data_of (λ x. refl)
    (sequence_tie schema k (suc levels) 33 48 32 2 _ _ refl (lit≤ tt) refl
    (required_tie schema k _ _ _ _ _ _ _ _ _ (integer_tie schema k levels 1 refl)
    (required_tie schema k _ _ _ _ _ _ _ _ _ (holding_tie schema k levels 32 5 10 refl (lit≤ tt))
    (end_tie schema k _))))

abbrev pub pa_data_octets : PaData → List ℕ
pa_data_octets v = sequence (explicit 1 (integer_octets v.padata_type) ++ explicit 2 (octet_string v.padata_data))

pub pa_data_same : (v : PaData) → pa_data_octets v ≡ pa_data.enc v
pa_data_same v = simp (append-nil) refl

abbrev pub pa_data_value : PaData → Type 0
pa_data_value v = IsAny v.padata_type × IsOctets v.padata_data

pub pa_data_valid : (v : PaData) → pa_data_value v → pa_data.valid v
pa_data_valid v h = (h.0, (h.1, tt))

pub pa_data_right : (v : PaData) → pa_data.valid v → pa_data_value v
pa_data_right v h = (h.0, h.1.0)

-- ---- PA-ENC-TS-ENC

abbrev pub pa_enc_ts_enc_fields : Codec
pa_enc_ts_enc_fields = tagged 48 (required 160 time (maybe 161 integer end))

abbrev pub pa_enc_ts_enc_to : PaEncTsEnc → (pa_enc_ts_enc_fields).value
pa_enc_ts_enc_to v = (v.patimestamp, (v.pausec.0, tt))

abbrev pub pa_enc_ts_enc_of : (pa_enc_ts_enc_fields).value → PaEncTsEnc
pa_enc_ts_enc_of x = record { patimestamp = x.0; pausec = record { 0 = x.1.0 } }

abbrev pub pa_enc_ts_enc : Codec
pa_enc_ts_enc = coded pa_enc_ts_enc_fields pa_enc_ts_enc_to

pub pa_enc_ts_enc_tie : (schema : Schema) (k : IsKerberos schema) (levels : ℕ) → Tie schema k (suc (suc levels)) 35 pa_enc_ts_enc
unfolding cases fields shapes
pa_enc_ts_enc_tie schema k levels =
    coded_tie schema k (suc (suc levels)) 35 pa_enc_ts_enc_fields pa_enc_ts_enc_to pa_enc_ts_enc_of (λ x. refl)
    (sequence_tie schema k (suc levels) 35 48 34 2 _ _ refl (lit≤ tt) refl
    (required_tie schema k _ _ _ _ _ _ _ _ _ (time_tie schema k levels 10 refl)
    (maybe_tie schema k _ _ _ _ _ _ _ _ _ refl (microseconds_tie schema k levels 3 refl)
    (end_tie schema k _))))

abbrev pub pa_enc_ts_enc_octets : PaEncTsEnc → List ℕ
pa_enc_ts_enc_octets v = sequence (explicit 0 (generalized_time v.patimestamp) ++ optional (λ x. explicit 1 (integer_octets x)) v.pausec.0)

pub pa_enc_ts_enc_same : (v : PaEncTsEnc) → pa_enc_ts_enc_octets v ≡ pa_enc_ts_enc.enc v
pa_enc_ts_enc_same v = simp (append_assoc, append-nil) refl

abbrev pub pa_enc_ts_enc_value : PaEncTsEnc → Type 0
pa_enc_ts_enc_value v = IsRealTime v.patimestamp × IfSome v.pausec.0 IsAny

pub pa_enc_ts_enc_valid : (v : PaEncTsEnc) → pa_enc_ts_enc_value v → pa_enc_ts_enc.valid v
pa_enc_ts_enc_valid v h = (h.0, (h.1, tt))

pub pa_enc_ts_enc_right : (v : PaEncTsEnc) → pa_enc_ts_enc.valid v → pa_enc_ts_enc_value v
pa_enc_ts_enc_right v h = (h.0, h.1.0)

-- ---- ETYPE-INFO2-ENTRY

abbrev pub etype_info2_entry_fields : Codec
etype_info2_entry_fields = tagged 48 (required 160 integer (maybe 161 text (maybe 162 octets end)))

abbrev pub etype_info2_entry_to : EtypeInfo2Entry → (etype_info2_entry_fields).value
etype_info2_entry_to v = (v.etype, (v.salt.0, (v.s2kparams.0, tt)))

abbrev pub etype_info2_entry_of : (etype_info2_entry_fields).value → EtypeInfo2Entry
etype_info2_entry_of x = record { etype = x.0; salt = record { 0 = x.1.0 }; s2kparams = record { 0 = x.1.1.0 } }

abbrev pub etype_info2_entry : Codec
etype_info2_entry = coded etype_info2_entry_fields etype_info2_entry_to

pub etype_info2_entry_tie : (schema : Schema) (k : IsKerberos schema) (levels : ℕ) → Tie schema k (suc (suc levels)) 36 etype_info2_entry
unfolding cases fields shapes
etype_info2_entry_tie schema k levels =
    coded_tie schema k (suc (suc levels)) 36 etype_info2_entry_fields etype_info2_entry_to etype_info2_entry_of (λ x. refl)
    (sequence_tie schema k (suc levels) 36 48 36 3 _ _ refl (lit≤ tt) refl
    (required_tie schema k _ _ _ _ _ _ _ _ _ (integer_tie schema k levels 1 refl)
    (maybe_tie schema k _ _ _ _ _ _ _ _ _ refl (text_tie schema k levels 11 refl)
    (maybe_tie schema k _ _ _ _ _ _ _ _ _ refl (octets_tie schema k levels 6 refl)
    (end_tie schema k _)))))

abbrev pub etype_info2_entry_octets : EtypeInfo2Entry → List ℕ
etype_info2_entry_octets v = sequence (explicit 0 (integer_octets v.etype) ++ optional (λ x. explicit 1 (general_string x)) v.salt.0 ++ optional (λ x. explicit 2 (octet_string x)) v.s2kparams.0)

pub etype_info2_entry_same : (v : EtypeInfo2Entry) → etype_info2_entry_octets v ≡ etype_info2_entry.enc v
etype_info2_entry_same v = simp (append_assoc, append-nil) refl

abbrev pub etype_info2_entry_value : EtypeInfo2Entry → Type 0
etype_info2_entry_value v = IsAny v.etype × IfSome v.salt.0 IsAscii × IfSome v.s2kparams.0 IsOctets

pub etype_info2_entry_valid : (v : EtypeInfo2Entry) → etype_info2_entry_value v → etype_info2_entry.valid v
etype_info2_entry_valid v h = (h.0, (h.1, (h.2, tt)))

pub etype_info2_entry_right : (v : EtypeInfo2Entry) → etype_info2_entry.valid v → etype_info2_entry_value v
etype_info2_entry_right v h = (h.0, h.1.0, h.1.1.0)

-- ---- KERB-PA-PAC-REQUEST

abbrev pub kerb_pa_pac_request_fields : Codec
kerb_pa_pac_request_fields = tagged 48 (required 160 truth end)

abbrev pub kerb_pa_pac_request_to : KerbPaPacRequest → (kerb_pa_pac_request_fields).value
kerb_pa_pac_request_to v = (v.include_pac, tt)

abbrev pub kerb_pa_pac_request_of : (kerb_pa_pac_request_fields).value → KerbPaPacRequest
kerb_pa_pac_request_of x = record { include_pac = x.0 }

abbrev pub kerb_pa_pac_request : Codec
kerb_pa_pac_request = coded kerb_pa_pac_request_fields kerb_pa_pac_request_to

pub kerb_pa_pac_request_tie : (schema : Schema) (k : IsKerberos schema) (levels : ℕ) → Tie schema k (suc (suc levels)) 38 kerb_pa_pac_request
unfolding cases fields shapes
kerb_pa_pac_request_tie schema k levels =
    coded_tie schema k (suc (suc levels)) 38 kerb_pa_pac_request_fields kerb_pa_pac_request_to kerb_pa_pac_request_of (λ x. refl)
    (sequence_tie schema k (suc levels) 38 48 39 1 _ _ refl (lit≤ tt) refl
    (required_tie schema k _ _ _ _ _ _ _ _ _ (truth_tie schema k levels 0 refl)
    (end_tie schema k _)))

abbrev pub kerb_pa_pac_request_octets : KerbPaPacRequest → List ℕ
kerb_pa_pac_request_octets v = sequence (explicit 0 (boolean v.include_pac))

pub kerb_pa_pac_request_same : (v : KerbPaPacRequest) → kerb_pa_pac_request_octets v ≡ kerb_pa_pac_request.enc v
kerb_pa_pac_request_same v = simp (append-nil) refl

abbrev pub kerb_pa_pac_request_value : KerbPaPacRequest → Type 0
kerb_pa_pac_request_value v = IsAny v.include_pac

pub kerb_pa_pac_request_valid : (v : KerbPaPacRequest) → kerb_pa_pac_request_value v → kerb_pa_pac_request.valid v
kerb_pa_pac_request_valid v h = (h, tt)

pub kerb_pa_pac_request_right : (v : KerbPaPacRequest) → kerb_pa_pac_request.valid v → kerb_pa_pac_request_value v
kerb_pa_pac_request_right v h = h.0

-- ---- PA-PAC-OPTIONS

abbrev pub pa_pac_options_fields : Codec
pa_pac_options_fields = tagged 48 (required 160 bits end)

abbrev pub pa_pac_options_to : PaPacOptions → (pa_pac_options_fields).value
pa_pac_options_to v = (v.flags, tt)

abbrev pub pa_pac_options_of : (pa_pac_options_fields).value → PaPacOptions
pa_pac_options_of x = record { flags = x.0 }

abbrev pub pa_pac_options : Codec
pa_pac_options = coded pa_pac_options_fields pa_pac_options_to

pub pa_pac_options_tie : (schema : Schema) (k : IsKerberos schema) (levels : ℕ) → Tie schema k (suc (suc levels)) 39 pa_pac_options
unfolding cases fields shapes
pa_pac_options_tie schema k levels =
    coded_tie schema k (suc (suc levels)) 39 pa_pac_options_fields pa_pac_options_to pa_pac_options_of (λ x. refl)
    (sequence_tie schema k (suc levels) 39 48 40 1 _ _ refl (lit≤ tt) refl
    (required_tie schema k _ _ _ _ _ _ _ _ _ (flags_tie schema k levels 5 refl)
    (end_tie schema k _)))

abbrev pub pa_pac_options_octets : PaPacOptions → List ℕ
pa_pac_options_octets v = sequence (explicit 0 (bit_string v.flags))

pub pa_pac_options_same : (v : PaPacOptions) → pa_pac_options_octets v ≡ pa_pac_options.enc v
pa_pac_options_same v = simp (append-nil) refl

abbrev pub pa_pac_options_value : PaPacOptions → Type 0
pa_pac_options_value v = IsBits v.flags

pub pa_pac_options_valid : (v : PaPacOptions) → pa_pac_options_value v → pa_pac_options.valid v
pa_pac_options_valid v h = (h, tt)

pub pa_pac_options_right : (v : PaPacOptions) → pa_pac_options.valid v → pa_pac_options_value v
pa_pac_options_right v h = h.0

-- ---- LastReqInner

abbrev pub last_req_fields : Codec
last_req_fields = tagged 48 (required 160 integer (required 161 time end))

abbrev pub last_req_to : LastReqInner → (last_req_fields).value
last_req_to v = (v.lr_type, (v.lr_value, tt))

abbrev pub last_req_of : (last_req_fields).value → LastReqInner
last_req_of x = record { lr_type = x.0; lr_value = x.1.0 }

abbrev pub last_req : Codec
last_req = coded last_req_fields last_req_to

pub last_req_tie : (schema : Schema) (k : IsKerberos schema) (levels : ℕ) → Tie schema k (suc (suc levels)) 61 last_req
unfolding cases fields shapes
last_req_tie schema k levels =
    coded_tie schema k (suc (suc levels)) 61 last_req_fields last_req_to last_req_of (λ x. refl)
    (sequence_tie schema k (suc levels) 61 48 88 2 _ _ refl (lit≤ tt) refl
    (required_tie schema k _ _ _ _ _ _ _ _ _ (integer_tie schema k levels 1 refl)
    (required_tie schema k _ _ _ _ _ _ _ _ _ (time_tie schema k levels 10 refl)
    (end_tie schema k _))))

abbrev pub last_req_octets : LastReqInner → List ℕ
last_req_octets v = sequence (explicit 0 (integer_octets v.lr_type) ++ explicit 1 (generalized_time v.lr_value))

pub last_req_same : (v : LastReqInner) → last_req_octets v ≡ last_req.enc v
last_req_same v = simp (append_assoc, append-nil) refl

abbrev pub last_req_value : LastReqInner → Type 0
last_req_value v = IsAny v.lr_type × IsRealTime v.lr_value

pub last_req_valid : (v : LastReqInner) → last_req_value v → last_req.valid v
last_req_valid v h = (h.0, (h.1, tt))

pub last_req_right : (v : LastReqInner) → last_req.valid v → last_req_value v
last_req_right v h = (h.0, h.1.0)

-- ---- KERB-ERROR-DATA

abbrev pub kerb_error_data_fields : Codec
kerb_error_data_fields = tagged 48 (required 161 integer (maybe 162 octets end))

abbrev pub kerb_error_data_to : KerbErrorData → (kerb_error_data_fields).value
kerb_error_data_to v = (v.data_type, (v.data_value.0, tt))

abbrev pub kerb_error_data_of : (kerb_error_data_fields).value → KerbErrorData
kerb_error_data_of x = record { data_type = x.0; data_value = record { 0 = x.1.0 } }

abbrev pub kerb_error_data : Codec
kerb_error_data = coded kerb_error_data_fields kerb_error_data_to

pub kerb_error_data_tie : (schema : Schema) (k : IsKerberos schema) (levels : ℕ) → Tie schema k (suc (suc levels)) 89 kerb_error_data
unfolding cases fields shapes
kerb_error_data_tie schema k levels =
    coded_tie schema k (suc (suc levels)) 89 kerb_error_data_fields kerb_error_data_to kerb_error_data_of (λ x. refl)
    (sequence_tie schema k (suc levels) 89 48 154 2 _ _ refl (lit≤ tt) refl
    (required_tie schema k _ _ _ _ _ _ _ _ _ (integer_tie schema k levels 1 refl)
    (maybe_tie schema k _ _ _ _ _ _ _ _ _ refl (octets_tie schema k levels 6 refl)
    (end_tie schema k _))))

abbrev pub kerb_error_data_octets : KerbErrorData → List ℕ
kerb_error_data_octets v = sequence (explicit 1 (integer_octets v.data_type) ++ optional (λ x. explicit 2 (octet_string x)) v.data_value.0)

pub kerb_error_data_same : (v : KerbErrorData) → kerb_error_data_octets v ≡ kerb_error_data.enc v
kerb_error_data_same v = simp (append-nil) refl

abbrev pub kerb_error_data_value : KerbErrorData → Type 0
kerb_error_data_value v = IsAny v.data_type × IfSome v.data_value.0 IsOctets

pub kerb_error_data_valid : (v : KerbErrorData) → kerb_error_data_value v → kerb_error_data.valid v
kerb_error_data_valid v h = (h.0, (h.1, tt))

pub kerb_error_data_right : (v : KerbErrorData) → kerb_error_data.valid v → kerb_error_data_value v
kerb_error_data_right v h = (h.0, h.1.0)

-- ---- KERB-AD-RESTRICTION-ENTRY

abbrev pub kerb_ad_restriction_entry_fields : Codec
kerb_ad_restriction_entry_fields = tagged 48 (required 160 integer (required 161 octets end))

abbrev pub kerb_ad_restriction_entry_to : KerbAdRestrictionEntry → (kerb_ad_restriction_entry_fields).value
kerb_ad_restriction_entry_to v = (v.restriction_type, (v.restriction, tt))

abbrev pub kerb_ad_restriction_entry_of : (kerb_ad_restriction_entry_fields).value → KerbAdRestrictionEntry
kerb_ad_restriction_entry_of x = record { restriction_type = x.0; restriction = x.1.0 }

abbrev pub kerb_ad_restriction_entry : Codec
kerb_ad_restriction_entry = coded kerb_ad_restriction_entry_fields kerb_ad_restriction_entry_to

pub kerb_ad_restriction_entry_tie : (schema : Schema) (k : IsKerberos schema) (levels : ℕ) → Tie schema k (suc (suc levels)) 90 kerb_ad_restriction_entry
unfolding cases fields shapes
kerb_ad_restriction_entry_tie schema k levels =
    coded_tie schema k (suc (suc levels)) 90 kerb_ad_restriction_entry_fields kerb_ad_restriction_entry_to kerb_ad_restriction_entry_of (λ x. refl)
    (sequence_tie schema k (suc levels) 90 48 156 2 _ _ refl (lit≤ tt) refl
    (required_tie schema k _ _ _ _ _ _ _ _ _ (integer_tie schema k levels 1 refl)
    (required_tie schema k _ _ _ _ _ _ _ _ _ (octets_tie schema k levels 6 refl)
    (end_tie schema k _))))

abbrev pub kerb_ad_restriction_entry_octets : KerbAdRestrictionEntry → List ℕ
kerb_ad_restriction_entry_octets v = sequence (explicit 0 (integer_octets v.restriction_type) ++ explicit 1 (octet_string v.restriction))

pub kerb_ad_restriction_entry_same : (v : KerbAdRestrictionEntry) → kerb_ad_restriction_entry_octets v ≡ kerb_ad_restriction_entry.enc v
kerb_ad_restriction_entry_same v = simp (append-nil) refl

abbrev pub kerb_ad_restriction_entry_value : KerbAdRestrictionEntry → Type 0
kerb_ad_restriction_entry_value v = IsAny v.restriction_type × IsOctets v.restriction

pub kerb_ad_restriction_entry_valid : (v : KerbAdRestrictionEntry) → kerb_ad_restriction_entry_value v → kerb_ad_restriction_entry.valid v
kerb_ad_restriction_entry_valid v h = (h.0, (h.1, tt))

pub kerb_ad_restriction_entry_right : (v : KerbAdRestrictionEntry) → kerb_ad_restriction_entry.valid v → kerb_ad_restriction_entry_value v
kerb_ad_restriction_entry_right v h = (h.0, h.1.0)

-- ---- ChangePasswdData

abbrev pub change_passwd_data_fields : Codec
change_passwd_data_fields = tagged 48 (required 160 octets (maybe 161 principal_name (maybe 162 text end)))

abbrev pub change_passwd_data_to : ChangePasswdData → (change_passwd_data_fields).value
change_passwd_data_to v = (v.new_passwd, (v.target_name.0, (v.target_realm.0, tt)))

abbrev pub change_passwd_data_of : (change_passwd_data_fields).value → ChangePasswdData
change_passwd_data_of x = record { new_passwd = x.0; target_name = record { 0 = x.1.0 }; target_realm = record { 0 = x.1.1.0 } }

abbrev pub change_passwd_data : Codec
change_passwd_data = coded change_passwd_data_fields change_passwd_data_to

pub change_passwd_data_tie : (schema : Schema) (k : IsKerberos schema) (levels : ℕ) → Tie schema k (suc (suc (suc (suc levels)))) 91 change_passwd_data
unfolding cases fields shapes
change_passwd_data_tie schema k levels =
    coded_tie schema k (suc (suc (suc (suc levels)))) 91 change_passwd_data_fields change_passwd_data_to change_passwd_data_of (λ x. refl)
    (sequence_tie schema k (suc (suc (suc levels))) 91 48 158 3 _ _ refl (lit≤ tt) refl
    (required_tie schema k _ _ _ _ _ _ _ _ _ (secret_tie schema k (suc (suc levels)) 7 refl)
    (maybe_tie schema k _ _ _ _ _ _ _ _ _ refl (principal_name_tie schema k levels)
    (maybe_tie schema k _ _ _ _ _ _ _ _ _ refl (text_tie schema k (suc (suc levels)) 11 refl)
    (end_tie schema k _)))))

abbrev pub change_passwd_data_octets : ChangePasswdData → List ℕ
change_passwd_data_octets v = sequence (explicit 0 (octet_string v.new_passwd) ++ optional (λ x. explicit 1 (principal_name_octets x)) v.target_name.0 ++ optional (λ x. explicit 2 (general_string x)) v.target_realm.0)

pub change_passwd_data_same : (v : ChangePasswdData) → change_passwd_data_octets v ≡ change_passwd_data.enc v
change_passwd_data_same v =
    let e1 = optional_same (λ y. ap (tlv 161) (principal_name_same y)) v.target_name.0 in
    let whole : change_passwd_data_octets v ≡ tlv 48 (tlv 160 (octets.enc v.new_passwd) ++ (optional (λ x. tlv 161 (principal_name.enc x)) v.target_name.0 ++ optional (λ x. tlv 162 (text.enc x)) v.target_realm.0)) =
    rw (e1) (simp append_assoc refl) in
    whole ∙ ap (λ (o : List ℕ). tlv 48 (tlv 160 (octets.enc v.new_passwd) ++ (optional (λ x. tlv 161 (principal_name.enc x)) v.target_name.0 ++ o))) (sym (append-nil (optional (λ x. tlv 162 (text.enc x)) v.target_realm.0)))

abbrev pub change_passwd_data_value : ChangePasswdData → Type 0
change_passwd_data_value v = IsOctets v.new_passwd × IfSome v.target_name.0 principal_name_value × IfSome v.target_realm.0 IsAscii

pub change_passwd_data_valid : (v : ChangePasswdData) → change_passwd_data_value v → change_passwd_data.valid v
change_passwd_data_valid v h = (h.0, ((some_as {P = principal_name_value} {Q = principal_name.valid} (λ y k. (principal_name_valid y k)) v.target_name.0 h.1), (h.2, tt)))

pub change_passwd_data_right : (v : ChangePasswdData) → change_passwd_data.valid v → change_passwd_data_value v
change_passwd_data_right v h = (h.0, (some_as {P = principal_name.valid} {Q = principal_name_value} (λ y k. (principal_name_right y k)) v.target_name.0 h.1.0), h.1.1.0)
