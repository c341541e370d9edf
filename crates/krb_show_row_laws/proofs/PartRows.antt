-- Encrypted parts as codecs, and their rows.
use Rattle.std.proofs.Common.{◌≡◌, ℕ, suc, true, false, refl, sym, ap, ◌∙◌, List, ◌++◌, lit≤}
use Rattle.std.specs.List.{AllByRecursion}
use Rattle.std.specs.Option.{IfSome}
use Rattle.std.specs.Str.{IsAscii}
use Rattle.std.proofs.lemmas.List.{append-nil, append_assoc}
use Rattle.krb_der.specs.Asn1.{bit_string, explicit, general_string, generalized_time, octet_string, sequence}
use Rattle.krb_der.specs.Asn1.{integer as integer_octets, sequence_of as asn1_sequence_of}
use Rattle.krb_der_core.specs.BitString.{IsBits}
use Rattle.krb_der_core.specs.Encoding.{IsOctets, optional}
use Rattle.krb_der_core.specs.GeneralizedTime.{IsRealTime}
use Rattle.krb_der_core.specs.Tlv.{tlv}
use Rattle.krb_enc_parts.specs.declared.data_types.authenticators.AuthenticatorInner.{AuthenticatorInner}
use Rattle.krb_enc_parts.specs.declared.data_types.authenticators.EncApRepPartInner.{EncApRepPartInner}
use Rattle.krb_enc_parts.specs.declared.data_types.credentials.EncKrbCredPartInner.{EncKrbCredPartInner}
use Rattle.krb_enc_parts.specs.declared.data_types.credentials.KrbCredInfo.{KrbCredInfo}
use Rattle.krb_enc_parts.specs.declared.data_types.private.EncKrbPrivPartInner.{EncKrbPrivPartInner}
use Rattle.krb_enc_parts.specs.declared.data_types.ticket_part.EncTicketPartInner.{EncTicketPartInner}
use Rattle.krb_schema.specs.declared.shape.Schema.{Schema}
use Rattle.krb_schema.specs.Named.{IsKerberos}
use Rattle.krb_schema.specs.Types.{cases, fields, shapes}
use Rattle.krb_show_row_laws.proofs.Codecs.{Codec, bits, coded, end, integer, maybe, octets, required, sequence_of, tagged, text, time}
use Rattle.krb_show_row_laws.proofs.CodecRows.{IsAny, Tie, all_as, coded_tie, end_tie, flags_tie, flat_map_same, integer_tie, list_tie, maybe_tie, microseconds_tie, number_tie, optional_same, required_tie, secret_tie, sequence_tie, some_as, text_tie, time_tie}
use Rattle.krb_show_row_laws.proofs.DataTypeRows.{principal_name, principal_name_tie, principal_name_octets, principal_name_same, principal_name_value, principal_name_valid, principal_name_right, host_address, host_address_tie, host_address_octets, host_address_same, host_address_value, host_address_valid, host_address_right, authorization_data, authorization_data_tie, authorization_data_octets, authorization_data_same, authorization_data_value, authorization_data_valid, authorization_data_right, encryption_key, encryption_key_tie, encryption_key_octets, encryption_key_same, encryption_key_value, encryption_key_valid, encryption_key_right, checksum, checksum_tie, checksum_octets, checksum_same, checksum_value, checksum_valid, checksum_right, transited_encoding, transited_encoding_tie, transited_encoding_octets, transited_encoding_same, transited_encoding_value, transited_encoding_valid, transited_encoding_right}

-- ---- EncTicketPartInner

abbrev pub enc_ticket_part_fields : Codec
enc_ticket_part_fields = tagged 48 (required 160 bits (required 161 encryption_key (required 162 text (required 163 principal_name (required 164 transited_encoding (required 165 time (maybe 166 time (required 167 time (maybe 168 time (maybe 169 (sequence_of host_address) (maybe 170 (sequence_of authorization_data) end)))))))))))

abbrev pub enc_ticket_part_to : EncTicketPartInner → (enc_ticket_part_fields).value
enc_ticket_part_to v = (v.flags, (v.key, (v.crealm, (v.cname, (v.transited, (v.auth_time, (v.starttime.0, (v.endtime, (v.renew_till.0, (v.caddr.0, (v.authorization_data.0, tt)))))))))))

abbrev pub enc_ticket_part_of : (enc_ticket_part_fields).value → EncTicketPartInner
enc_ticket_part_of x = record { flags = x.0; key = x.1.0; crealm = x.1.1.0; cname = x.1.1.1.0; transited = x.1.1.1.1.0; auth_time = x.1.1.1.1.1.0; starttime = record { 0 = x.1.1.1.1.1.1.0 }; endtime = x.1.1.1.1.1.1.1.0; renew_till = record { 0 = x.1.1.1.1.1.1.1.1.0 }; caddr = record { 0 = x.1.1.1.1.1.1.1.1.1.0 }; authorization_data = record { 0 = x.1.1.1.1.1.1.1.1.1.1.0 } }

abbrev pub enc_ticket_part : Codec
enc_ticket_part = coded enc_ticket_part_fields enc_ticket_part_to

pub enc_ticket_part_tie : (schema : Schema) (k : IsKerberos schema) (levels : ℕ) → Tie schema k (suc (suc (suc (suc levels)))) 29 enc_ticket_part
unfolding cases fields shapes
enc_ticket_part_tie schema k levels =
    coded_tie schema k (suc (suc (suc (suc levels)))) 29 enc_ticket_part_fields enc_ticket_part_to enc_ticket_part_of (λ x. refl)
    (sequence_tie schema k (suc (suc (suc levels))) 29 48 19 11 _ _ refl (lit≤ tt) refl
    (required_tie schema k _ _ _ _ _ _ _ _ _ (flags_tie schema k (suc (suc levels)) 5 refl)
    (required_tie schema k _ _ _ _ _ _ _ _ _ (encryption_key_tie schema k (suc levels))
    (required_tie schema k _ _ _ _ _ _ _ _ _ (text_tie schema k (suc (suc levels)) 11 refl)
    (required_tie schema k _ _ _ _ _ _ _ _ _ (principal_name_tie schema k levels)
    (required_tie schema k _ _ _ _ _ _ _ _ _ (transited_encoding_tie schema k (suc levels))
    (required_tie schema k _ _ _ _ _ _ _ _ _ (time_tie schema k (suc (suc levels)) 10 refl)
    (maybe_tie schema k _ _ _ _ _ _ _ _ _ refl (time_tie schema k (suc (suc levels)) 10 refl)
    (required_tie schema k _ _ _ _ _ _ _ _ _ (time_tie schema k (suc (suc levels)) 10 refl)
    (maybe_tie schema k _ _ _ _ _ _ _ _ _ refl (time_tie schema k (suc (suc levels)) 10 refl)
    (maybe_tie schema k _ _ _ _ _ _ _ _ _ refl (list_tie schema k (suc (suc levels)) 17 16 true _ refl (host_address_tie schema k levels))
    (maybe_tie schema k _ _ _ _ _ _ _ _ _ refl (list_tie schema k (suc (suc levels)) 20 19 true _ refl (authorization_data_tie schema k levels))
    (end_tie schema k _)))))))))))))

abbrev pub enc_ticket_part_octets : EncTicketPartInner → List ℕ
enc_ticket_part_octets v = sequence ((explicit 0 (bit_string v.flags) ++ explicit 1 (encryption_key_octets v.key) ++ explicit 2 (general_string v.crealm) ++ explicit 3 (principal_name_octets v.cname) ++ explicit 4 (transited_encoding_octets v.transited)) ++ (explicit 5 (generalized_time v.auth_time) ++ optional (λ x. explicit 6 (generalized_time x)) v.starttime.0 ++ explicit 7 (generalized_time v.endtime) ++ optional (λ x. explicit 8 (generalized_time x)) v.renew_till.0 ++ optional (λ x. explicit 9 ((asn1_sequence_of host_address_octets) x)) v.caddr.0 ++ optional (λ x. explicit 10 ((asn1_sequence_of authorization_data_octets) x)) v.authorization_data.0))

pub enc_ticket_part_same : (v : EncTicketPartInner) → enc_ticket_part_octets v ≡ enc_ticket_part.enc v
enc_ticket_part_same v =
    let e1 = (encryption_key_same v.key) in
    let e3 = (principal_name_same v.cname) in
    let e4 = (transited_encoding_same v.transited) in
    let e9 = optional_same (λ y. ap (tlv 169) (ap (tlv 48) (flat_map_same (λ x0. (host_address_same x0)) y))) v.caddr.0 in
    let e10 = optional_same (λ y. ap (tlv 170) (ap (tlv 48) (flat_map_same (λ x0. (authorization_data_same x0)) y))) v.authorization_data.0 in
    let whole : enc_ticket_part_octets v ≡ tlv 48 (tlv 160 (bits.enc v.flags) ++ (tlv 161 (encryption_key.enc v.key) ++ (tlv 162 (text.enc v.crealm) ++ (tlv 163 (principal_name.enc v.cname) ++ (tlv 164 (transited_encoding.enc v.transited) ++ (tlv 165 (time.enc v.auth_time) ++ (optional (λ x. tlv 166 (time.enc x)) v.starttime.0 ++ (tlv 167 (time.enc v.endtime) ++ (optional (λ x. tlv 168 (time.enc x)) v.renew_till.0 ++ (optional (λ x. tlv 169 ((sequence_of host_address).enc x)) v.caddr.0 ++ optional (λ x. tlv 170 ((sequence_of authorization_data).enc x)) v.authorization_data.0)))))))))) =
    rw (e1, e3, e4, e9, e10) (simp append_assoc refl) in
    whole ∙ ap (λ (o : List ℕ). tlv 48 (tlv 160 (bits.enc v.flags) ++ (tlv 161 (encryption_key.enc v.key) ++ (tlv 162 (text.enc v.crealm) ++ (tlv 163 (principal_name.enc v.cname) ++ (tlv 164 (transited_encoding.enc v.transited) ++ (tlv 165 (time.enc v.auth_time) ++ (optional (λ x. tlv 166 (time.enc x)) v.starttime.0 ++ (tlv 167 (time.enc v.endtime) ++ (optional (λ x. tlv 168 (time.enc x)) v.renew_till.0 ++ (optional (λ x. tlv 169 ((sequence_of host_address).enc x)) v.caddr.0 ++ o))))))))))) (sym (append-nil (optional (λ x. tlv 170 ((sequence_of authorization_data).enc x)) v.authorization_data.0)))

abbrev pub enc_ticket_part_value : EncTicketPartInner → Type 0
enc_ticket_part_value v = (IsBits v.flags × encryption_key_value v.key × IsAscii v.crealm × principal_name_value v.cname × transited_encoding_value v.transited) × (IsRealTime v.auth_time × IfSome v.starttime.0 IsRealTime × IsRealTime v.endtime × IfSome v.renew_till.0 IsRealTime × IfSome v.caddr.0 (AllByRecursion host_address_value) × IfSome v.authorization_data.0 (AllByRecursion authorization_data_value))

pub enc_ticket_part_valid : (v : EncTicketPartInner) → enc_ticket_part_value v → enc_ticket_part.valid v
enc_ticket_part_valid v h = (h.0.0, ((encryption_key_valid v.key h.0.1), (h.0.2, ((principal_name_valid v.cname h.0.3), ((transited_encoding_valid v.transited h.0.4), (h.1.0, (h.1.1, (h.1.2, (h.1.3, ((some_as {P = (AllByRecursion host_address_value)} {Q = (sequence_of host_address).valid} (λ y k. (all_as {P = host_address_value} {Q = host_address.valid} (λ x0 k0. (host_address_valid x0 k0)) y k)) v.caddr.0 h.1.4), ((some_as {P = (AllByRecursion authorization_data_value)} {Q = (sequence_of authorization_data).valid} (λ y k. (all_as {P = authorization_data_value} {Q = authorization_data.valid} (λ x0 k0. (authorization_data_valid x0 k0)) y k)) v.authorization_data.0 h.1.5), tt)))))))))))

pub enc_ticket_part_right : (v : EncTicketPartInner) → enc_ticket_part.valid v → enc_ticket_part_value v
enc_ticket_part_right v h = ((h.0, (encryption_key_right v.key h.1.0), h.1.1.0, (principal_name_right v.cname h.1.1.1.0), (transited_encoding_right v.transited h.1.1.1.1.0)), (h.1.1.1.1.1.0, h.1.1.1.1.1.1.0, h.1.1.1.1.1.1.1.0, h.1.1.1.1.1.1.1.1.0, (some_as {P = (sequence_of host_address).valid} {Q = (AllByRecursion host_address_value)} (λ y k. (all_as {P = host_address.valid} {Q = host_address_value} (λ x0 k0. (host_address_right x0 k0)) y k)) v.caddr.0 h.1.1.1.1.1.1.1.1.1.0), (some_as {P = (sequence_of authorization_data).valid} {Q = (AllByRecursion authorization_data_value)} (λ y k. (all_as {P = authorization_data.valid} {Q = authorization_data_value} (λ x0 k0. (authorization_data_right x0 k0)) y k)) v.authorization_data.0 h.1.1.1.1.1.1.1.1.1.1.0)))

-- ---- AuthenticatorInner

abbrev pub authenticator_fields : Codec
authenticator_fields = tagged 48 (required 160 integer (required 161 text (required 162 principal_name (maybe 163 checksum (required 164 integer (required 165 time (maybe 166 encryption_key (maybe 167 integer (maybe 168 (sequence_of authorization_data) end)))))))))

abbrev pub authenticator_to : AuthenticatorInner → (authenticator_fields).value
authenticator_to v = (v.authenticator_vno, (v.crealm, (v.cname, (v.cksum.0, (v.cusec, (v.ctime, (v.subkey.0, (v.seq_number.0, (v.authorization_data.0, tt)))))))))

abbrev pub authenticator_of : (authenticator_fields).value → AuthenticatorInner
authenticator_of x = record { authenticator_vno = x.0; crealm = x.1.0; cname = x.1.1.0; cksum = record { 0 = x.1.1.1.0 }; cusec = x.1.1.1.1.0; ctime = x.1.1.1.1.1.0; subkey = record { 0 = x.1.1.1.1.1.1.0 }; seq_number = record { 0 = x.1.1.1.1.1.1.1.0 }; authorization_data = record { 0 = x.1.1.1.1.1.1.1.1.0 } }

abbrev pub authenticator : Codec
authenticator = coded authenticator_fields authenticator_to

pub authenticator_tie : (schema : Schema) (k : IsKerberos schema) (levels : ℕ) → Tie schema k (suc (suc (suc (suc levels)))) 66 authenticator
unfolding cases fields shapes
authenticator_tie schema k levels =
    coded_tie schema k (suc (suc (suc (suc levels)))) 66 authenticator_fields authenticator_to authenticator_of (λ x. refl)
    (sequence_tie schema k (suc (suc (suc levels))) 66 48 95 9 _ _ refl (lit≤ tt) refl
    (required_tie schema k _ _ _ _ _ _ _ _ _ (number_tie schema k (suc (suc levels)) 26 5 refl)
    (required_tie schema k _ _ _ _ _ _ _ _ _ (text_tie schema k (suc (suc levels)) 11 refl)
    (required_tie schema k _ _ _ _ _ _ _ _ _ (principal_name_tie schema k levels)
    (maybe_tie schema k _ _ _ _ _ _ _ _ _ refl (checksum_tie schema k (suc levels))
    (required_tie schema k _ _ _ _ _ _ _ _ _ (microseconds_tie schema k (suc (suc levels)) 3 refl)
    (required_tie schema k _ _ _ _ _ _ _ _ _ (time_tie schema k (suc (suc levels)) 10 refl)
    (maybe_tie schema k _ _ _ _ _ _ _ _ _ refl (encryption_key_tie schema k (suc levels))
    (maybe_tie schema k _ _ _ _ _ _ _ _ _ refl (integer_tie schema k (suc (suc levels)) 1 refl)
    (maybe_tie schema k _ _ _ _ _ _ _ _ _ refl (list_tie schema k (suc (suc levels)) 20 19 true _ refl (authorization_data_tie schema k levels))
    (end_tie schema k _)))))))))))

abbrev pub authenticator_octets : AuthenticatorInner → List ℕ
authenticator_octets v = sequence ((explicit 0 (integer_octets v.authenticator_vno) ++ explicit 1 (general_string v.crealm) ++ explicit 2 (principal_name_octets v.cname) ++ optional (λ x. explicit 3 (checksum_octets x)) v.cksum.0 ++ explicit 4 (integer_octets v.cusec) ++ explicit 5 (generalized_time v.ctime)) ++ (optional (λ x. explicit 6 (encryption_key_octets x)) v.subkey.0 ++ optional (λ x. explicit 7 (integer_octets x)) v.seq_number.0 ++ optional (λ x. explicit 8 ((asn1_sequence_of authorization_data_octets) x)) v.authorization_data.0))

pub authenticator_same : (v : AuthenticatorInner) → authenticator_octets v ≡ authenticator.enc v
authenticator_same v =
    let e2 = (principal_name_same v.cname) in
    let e3 = optional_same (λ y. ap (tlv 163) (checksum_same y)) v.cksum.0 in
    let e6 = optional_same (λ y. ap (tlv 166) (encryption_key_same y)) v.subkey.0 in
    let e8 = optional_same (λ y. ap (tlv 168) (ap (tlv 48) (flat_map_same (λ x0. (authorization_data_same x0)) y))) v.authorization_data.0 in
    let whole : authenticator_octets v ≡ tlv 48 (tlv 160 (integer.enc v.authenticator_vno) ++ (tlv 161 (text.enc v.crealm) ++ (tlv 162 (principal_name.enc v.cname) ++ (optional (λ x. tlv 163 (checksum.enc x)) v.cksum.0 ++ (tlv 164 (integer.enc v.cusec) ++ (tlv 165 (time.enc v.ctime) ++ (optional (λ x. tlv 166 (encryption_key.enc x)) v.subkey.0 ++ (optional (λ x. tlv 167 (integer.enc x)) v.seq_number.0 ++ optional (λ x. tlv 168 ((sequence_of authorization_data).enc x)) v.authorization_data.0)))))))) =
    rw (e2, e3, e6, e8) (simp append_assoc refl) in
    whole ∙ ap (λ (o : List ℕ). tlv 48 (tlv 160 (integer.enc v.authenticator_vno) ++ (tlv 161 (text.enc v.crealm) ++ (tlv 162 (principal_name.enc v.cname) ++ (optional (λ x. tlv 163 (checksum.enc x)) v.cksum.0 ++ (tlv 164 (integer.enc v.cusec) ++ (tlv 165 (time.enc v.ctime) ++ (optional (λ x. tlv 166 (encryption_key.enc x)) v.subkey.0 ++ (optional (λ x. tlv 167 (integer.enc x)) v.seq_number.0 ++ o))))))))) (sym (append-nil (optional (λ x. tlv 168 ((sequence_of authorization_data).enc x)) v.authorization_data.0)))

abbrev pub authenticator_value : AuthenticatorInner → Type 0
authenticator_value v = (IsAny v.authenticator_vno × IsAscii v.crealm × principal_name_value v.cname × IfSome v.cksum.0 checksum_value × IsAny v.cusec × IsRealTime v.ctime) × (IfSome v.subkey.0 encryption_key_value × IfSome v.seq_number.0 IsAny × IfSome v.authorization_data.0 (AllByRecursion authorization_data_value))

pub authenticator_valid : (v : AuthenticatorInner) → authenticator_value v → authenticator.valid v
authenticator_valid v h = (h.0.0, (h.0.1, ((principal_name_valid v.cname h.0.2), ((some_as {P = checksum_value} {Q = checksum.valid} (λ y k. (checksum_valid y k)) v.cksum.0 h.0.3), (h.0.4, (h.0.5, ((some_as {P = encryption_key_value} {Q = encryption_key.valid} (λ y k. (encryption_key_valid y k)) v.subkey.0 h.1.0), (h.1.1, ((some_as {P = (AllByRecursion authorization_data_value)} {Q = (sequence_of authorization_data).valid} (λ y k. (all_as {P = authorization_data_value} {Q = authorization_data.valid} (λ x0 k0. (authorization_data_valid x0 k0)) y k)) v.authorization_data.0 h.1.2), tt)))))))))

pub authenticator_right : (v : AuthenticatorInner) → authenticator.valid v → authenticator_value v
authenticator_right v h = ((h.0, h.1.0, (principal_name_right v.cname h.1.1.0), (some_as {P = checksum.valid} {Q = checksum_value} (λ y k. (checksum_right y k)) v.cksum.0 h.1.1.1.0), h.1.1.1.1.0, h.1.1.1.1.1.0), ((some_as {P = encryption_key.valid} {Q = encryption_key_value} (λ y k. (encryption_key_right y k)) v.subkey.0 h.1.1.1.1.1.1.0), h.1.1.1.1.1.1.1.0, (some_as {P = (sequence_of authorization_data).valid} {Q = (AllByRecursion authorization_data_value)} (λ y k. (all_as {P = authorization_data.valid} {Q = authorization_data_value} (λ x0 k0. (authorization_data_right x0 k0)) y k)) v.authorization_data.0 h.1.1.1.1.1.1.1.1.0)))

-- ---- EncApRepPartInner

abbrev pub enc_ap_rep_part_fields : Codec
enc_ap_rep_part_fields = tagged 48 (required 160 time (required 161 integer (maybe 162 encryption_key (maybe 163 integer end))))

abbrev pub enc_ap_rep_part_to : EncApRepPartInner → (enc_ap_rep_part_fields).value
enc_ap_rep_part_to v = (v.ctime, (v.cusec, (v.subkey.0, (v.seq_number.0, tt))))

abbrev pub enc_ap_rep_part_of : (enc_ap_rep_part_fields).value → EncApRepPartInner
enc_ap_rep_part_of x = record { ctime = x.0; cusec = x.1.0; subkey = record { 0 = x.1.1.0 }; seq_number = record { 0 = x.1.1.1.0 } }

abbrev pub enc_ap_rep_part : Codec
enc_ap_rep_part = coded enc_ap_rep_part_fields enc_ap_rep_part_to

pub enc_ap_rep_part_tie : (schema : Schema) (k : IsKerberos schema) (levels : ℕ) → Tie schema k (suc (suc (suc levels))) 71 enc_ap_rep_part
unfolding cases fields shapes
enc_ap_rep_part_tie schema k levels =
    coded_tie schema k (suc (suc (suc levels))) 71 enc_ap_rep_part_fields enc_ap_rep_part_to enc_ap_rep_part_of (λ x. refl)
    (sequence_tie schema k (suc (suc levels)) 71 48 107 4 _ _ refl (lit≤ tt) refl
    (required_tie schema k _ _ _ _ _ _ _ _ _ (time_tie schema k (suc levels) 10 refl)
    (required_tie schema k _ _ _ _ _ _ _ _ _ (microseconds_tie schema k (suc levels) 3 refl)
    (maybe_tie schema k _ _ _ _ _ _ _ _ _ refl (encryption_key_tie schema k levels)
    (maybe_tie schema k _ _ _ _ _ _ _ _ _ refl (integer_tie schema k (suc levels) 1 refl)
    (end_tie schema k _))))))

abbrev pub enc_ap_rep_part_octets : EncApRepPartInner → List ℕ
enc_ap_rep_part_octets v = sequence (explicit 0 (generalized_time v.ctime) ++ explicit 1 (integer_octets v.cusec) ++ optional (λ x. explicit 2 (encryption_key_octets x)) v.subkey.0 ++ optional (λ x. explicit 3 (integer_octets x)) v.seq_number.0)

pub enc_ap_rep_part_same : (v : EncApRepPartInner) → enc_ap_rep_part_octets v ≡ enc_ap_rep_part.enc v
enc_ap_rep_part_same v =
    let e2 = optional_same (λ y. ap (tlv 162) (encryption_key_same y)) v.subkey.0 in
    let whole : enc_ap_rep_part_octets v ≡ tlv 48 (tlv 160 (time.enc v.ctime) ++ (tlv 161 (integer.enc v.cusec) ++ (optional (λ x. tlv 162 (encryption_key.enc x)) v.subkey.0 ++ optional (λ x. tlv 163 (integer.enc x)) v.seq_number.0))) =
    rw (e2) (simp append_assoc refl) in
    whole ∙ ap (λ (o : List ℕ). tlv 48 (tlv 160 (time.enc v.ctime) ++ (tlv 161 (integer.enc v.cusec) ++ (optional (λ x. tlv 162 (encryption_key.enc x)) v.subkey.0 ++ o)))) (sym (append-nil (optional (λ x. tlv 163 (integer.enc x)) v.seq_number.0)))

abbrev pub enc_ap_rep_part_value : EncApRepPartInner → Type 0
enc_ap_rep_part_value v = IsRealTime v.ctime × IsAny v.cusec × IfSome v.subkey.0 encryption_key_value × IfSome v.seq_number.0 IsAny

pub enc_ap_rep_part_valid : (v : EncApRepPartInner) → enc_ap_rep_part_value v → enc_ap_rep_part.valid v
enc_ap_rep_part_valid v h = (h.0, (h.1, ((some_as {P = encryption_key_value} {Q = encryption_key.valid} (λ y k. (encryption_key_valid y k)) v.subkey.0 h.2), (h.3, tt))))

pub enc_ap_rep_part_right : (v : EncApRepPartInner) → enc_ap_rep_part.valid v → enc_ap_rep_part_value v
enc_ap_rep_part_right v h = (h.0, h.1.0, (some_as {P = encryption_key.valid} {Q = encryption_key_value} (λ y k. (encryption_key_right y k)) v.subkey.0 h.1.1.0), h.1.1.1.0)

-- ---- EncKrbPrivPartInner

abbrev pub enc_krb_priv_part_fields : Codec
enc_krb_priv_part_fields = tagged 48 (required 160 octets (maybe 161 time (maybe 162 integer (maybe 163 integer (required 164 host_address (maybe 165 host_address end))))))

abbrev pub enc_krb_priv_part_to : EncKrbPrivPartInner → (enc_krb_priv_part_fields).value
enc_krb_priv_part_to v = (v.user_data, (v.timestamp.0, (v.usec.0, (v.seq_number.0, (v.s_address, (v.r_address.0, tt))))))

abbrev pub enc_krb_priv_part_of : (enc_krb_priv_part_fields).value → EncKrbPrivPartInner
enc_krb_priv_part_of x = record { user_data = x.0; timestamp = record { 0 = x.1.0 }; usec = record { 0 = x.1.1.0 }; seq_number = record { 0 = x.1.1.1.0 }; s_address = x.1.1.1.1.0; r_address = record { 0 = x.1.1.1.1.1.0 } }

abbrev pub enc_krb_priv_part : Codec
enc_krb_priv_part = coded enc_krb_priv_part_fields enc_krb_priv_part_to

pub enc_krb_priv_part_tie : (schema : Schema) (k : IsKerberos schema) (levels : ℕ) → Tie schema k (suc (suc (suc levels))) 76 enc_krb_priv_part
unfolding cases fields shapes
enc_krb_priv_part_tie schema k levels =
    coded_tie schema k (suc (suc (suc levels))) 76 enc_krb_priv_part_fields enc_krb_priv_part_to enc_krb_priv_part_of (λ x. refl)
    (sequence_tie schema k (suc (suc levels)) 76 48 114 6 _ _ refl (lit≤ tt) refl
    (required_tie schema k _ _ _ _ _ _ _ _ _ (secret_tie schema k (suc levels) 7 refl)
    (maybe_tie schema k _ _ _ _ _ _ _ _ _ refl (time_tie schema k (suc levels) 10 refl)
    (maybe_tie schema k _ _ _ _ _ _ _ _ _ refl (microseconds_tie schema k (suc levels) 3 refl)
    (maybe_tie schema k _ _ _ _ _ _ _ _ _ refl (integer_tie schema k (suc levels) 1 refl)
    (required_tie schema k _ _ _ _ _ _ _ _ _ (host_address_tie schema k levels)
    (maybe_tie schema k _ _ _ _ _ _ _ _ _ refl (host_address_tie schema k levels)
    (end_tie schema k _))))))))

abbrev pub enc_krb_priv_part_octets : EncKrbPrivPartInner → List ℕ
enc_krb_priv_part_octets v = sequence (explicit 0 (octet_string v.user_data) ++ optional (λ x. explicit 1 (generalized_time x)) v.timestamp.0 ++ optional (λ x. explicit 2 (integer_octets x)) v.usec.0 ++ optional (λ x. explicit 3 (integer_octets x)) v.seq_number.0 ++ explicit 4 (host_address_octets v.s_address) ++ optional (λ x. explicit 5 (host_address_octets x)) v.r_address.0)

pub enc_krb_priv_part_same : (v : EncKrbPrivPartInner) → enc_krb_priv_part_octets v ≡ enc_krb_priv_part.enc v
enc_krb_priv_part_same v =
    let e4 = (host_address_same v.s_address) in
    let e5 = optional_same (λ y. ap (tlv 165) (host_address_same y)) v.r_address.0 in
    let whole : enc_krb_priv_part_octets v ≡ tlv 48 (tlv 160 (octets.enc v.user_data) ++ (optional (λ x. tlv 161 (time.enc x)) v.timestamp.0 ++ (optional (λ x. tlv 162 (integer.enc x)) v.usec.0 ++ (optional (λ x. tlv 163 (integer.enc x)) v.seq_number.0 ++ (tlv 164 (host_address.enc v.s_address) ++ optional (λ x. tlv 165 (host_address.enc x)) v.r_address.0))))) =
    rw (e4, e5) (simp append_assoc refl) in
    whole ∙ ap (λ (o : List ℕ). tlv 48 (tlv 160 (octets.enc v.user_data) ++ (optional (λ x. tlv 161 (time.enc x)) v.timestamp.0 ++ (optional (λ x. tlv 162 (integer.enc x)) v.usec.0 ++ (optional (λ x. tlv 163 (integer.enc x)) v.seq_number.0 ++ (tlv 164 (host_address.enc v.s_address) ++ o)))))) (sym (append-nil (optional (λ x. tlv 165 (host_address.enc x)) v.r_address.0)))

abbrev pub enc_krb_priv_part_value : EncKrbPrivPartInner → Type 0
enc_krb_priv_part_value v = IsOctets v.user_data × IfSome v.timestamp.0 IsRealTime × IfSome v.usec.0 IsAny × IfSome v.seq_number.0 IsAny × host_address_value v.s_address × IfSome v.r_address.0 host_address_value

pub enc_krb_priv_part_valid : (v : EncKrbPrivPartInner) → enc_krb_priv_part_value v → enc_krb_priv_part.valid v
enc_krb_priv_part_valid v h = (h.0, (h.1, (h.2, (h.3, ((host_address_valid v.s_address h.4), ((some_as {P = host_address_value} {Q = host_address.valid} (λ y k. (host_address_valid y k)) v.r_address.0 h.5), tt))))))

pub enc_krb_priv_part_right : (v : EncKrbPrivPartInner) → enc_krb_priv_part.valid v → enc_krb_priv_part_value v
enc_krb_priv_part_right v h = (h.0, h.1.0, h.1.1.0, h.1.1.1.0, (host_address_right v.s_address h.1.1.1.1.0), (some_as {P = host_address.valid} {Q = host_address_value} (λ y k. (host_address_right y k)) v.r_address.0 h.1.1.1.1.1.0))

-- ---- KrbCredInfo

abbrev pub krb_cred_info_fields : Codec
krb_cred_info_fields = tagged 48 (required 160 encryption_key (maybe 161 text (maybe 162 principal_name (maybe 163 bits (maybe 164 time (maybe 165 time (maybe 166 time (maybe 167 time (maybe 168 text (maybe 169 principal_name (maybe 170 (sequence_of host_address) end)))))))))))

abbrev pub krb_cred_info_to : KrbCredInfo → (krb_cred_info_fields).value
krb_cred_info_to v = (v.key, (v.prealm.0, (v.pname.0, (v.flags.0, (v.auth_time.0, (v.start_time.0, (v.end_time.0, (v.renew_till.0, (v.srealm.0, (v.sname.0, (v.caddr.0, tt)))))))))))

abbrev pub krb_cred_info_of : (krb_cred_info_fields).value → KrbCredInfo
krb_cred_info_of x = record { key = x.0; prealm = record { 0 = x.1.0 }; pname = record { 0 = x.1.1.0 }; flags = record { 0 = x.1.1.1.0 }; auth_time = record { 0 = x.1.1.1.1.0 }; start_time = record { 0 = x.1.1.1.1.1.0 }; end_time = record { 0 = x.1.1.1.1.1.1.0 }; renew_till = record { 0 = x.1.1.1.1.1.1.1.0 }; srealm = record { 0 = x.1.1.1.1.1.1.1.1.0 }; sname = record { 0 = x.1.1.1.1.1.1.1.1.1.0 }; caddr = record { 0 = x.1.1.1.1.1.1.1.1.1.1.0 } }

abbrev pub krb_cred_info : Codec
krb_cred_info = coded krb_cred_info_fields krb_cred_info_to

pub krb_cred_info_tie : (schema : Schema) (k : IsKerberos schema) (levels : ℕ) → Tie schema k (suc (suc (suc (suc levels)))) 84 krb_cred_info
unfolding cases fields shapes
krb_cred_info_tie schema k levels =
    coded_tie schema k (suc (suc (suc (suc levels)))) 84 krb_cred_info_fields krb_cred_info_to krb_cred_info_of (λ x. refl)
    (sequence_tie schema k (suc (suc (suc levels))) 84 48 130 11 _ _ refl (lit≤ tt) refl
    (required_tie schema k _ _ _ _ _ _ _ _ _ (encryption_key_tie schema k (suc levels))
    (maybe_tie schema k _ _ _ _ _ _ _ _ _ refl (text_tie schema k (suc (suc levels)) 11 refl)
    (maybe_tie schema k _ _ _ _ _ _ _ _ _ refl (principal_name_tie schema k levels)
    (maybe_tie schema k _ _ _ _ _ _ _ _ _ refl (flags_tie schema k (suc (suc levels)) 5 refl)
    (maybe_tie schema k _ _ _ _ _ _ _ _ _ refl (time_tie schema k (suc (suc levels)) 10 refl)
    (maybe_tie schema k _ _ _ _ _ _ _ _ _ refl (time_tie schema k (suc (suc levels)) 10 refl)
    (maybe_tie schema k _ _ _ _ _ _ _ _ _ refl (time_tie schema k (suc (suc levels)) 10 refl)
    (maybe_tie schema k _ _ _ _ _ _ _ _ _ refl (time_tie schema k (suc (suc levels)) 10 refl)
    (maybe_tie schema k _ _ _ _ _ _ _ _ _ refl (text_tie schema k (suc (suc levels)) 11 refl)
    (maybe_tie schema k _ _ _ _ _ _ _ _ _ refl (principal_name_tie schema k levels)
    (maybe_tie schema k _ _ _ _ _ _ _ _ _ refl (list_tie schema k (suc (suc levels)) 17 16 true _ refl (host_address_tie schema k levels))
    (end_tie schema k _)))))))))))))

abbrev pub krb_cred_info_octets : KrbCredInfo → List ℕ
krb_cred_info_octets v = sequence ((explicit 0 (encryption_key_octets v.key) ++ optional (λ x. explicit 1 (general_string x)) v.prealm.0 ++ optional (λ x. explicit 2 (principal_name_octets x)) v.pname.0 ++ optional (λ x. explicit 3 (bit_string x)) v.flags.0 ++ optional (λ x. explicit 4 (generalized_time x)) v.auth_time.0) ++ (optional (λ x. explicit 5 (generalized_time x)) v.start_time.0 ++ optional (λ x. explicit 6 (generalized_time x)) v.end_time.0 ++ optional (λ x. explicit 7 (generalized_time x)) v.renew_till.0 ++ optional (λ x. explicit 8 (general_string x)) v.srealm.0 ++ optional (λ x. explicit 9 (principal_name_octets x)) v.sname.0 ++ optional (λ x. explicit 10 ((asn1_sequence_of host_address_octets) x)) v.caddr.0))

pub krb_cred_info_same : (v : KrbCredInfo) → krb_cred_info_octets v ≡ krb_cred_info.enc v
krb_cred_info_same v =
    let e0 = (encryption_key_same v.key) in
    let e2 = optional_same (λ y. ap (tlv 162) (principal_name_same y)) v.pname.0 in
    let e9 = optional_same (λ y. ap (tlv 169) (principal_name_same y)) v.sname.0 in
    let e10 = optional_same (λ y. ap (tlv 170) (ap (tlv 48) (flat_map_same (λ x0. (host_address_same x0)) y))) v.caddr.0 in
    let whole : krb_cred_info_octets v ≡ tlv 48 (tlv 160 (encryption_key.enc v.key) ++ (optional (λ x. tlv 161 (text.enc x)) v.prealm.0 ++ (optional (λ x. tlv 162 (principal_name.enc x)) v.pname.0 ++ (optional (λ x. tlv 163 (bits.enc x)) v.flags.0 ++ (optional (λ x. tlv 164 (time.enc x)) v.auth_time.0 ++ (optional (λ x. tlv 165 (time.enc x)) v.start_time.0 ++ (optional (λ x. tlv 166 (time.enc x)) v.end_time.0 ++ (optional (λ x. tlv 167 (time.enc x)) v.renew_till.0 ++ (optional (λ x. tlv 168 (text.enc x)) v.srealm.0 ++ (optional (λ x. tlv 169 (principal_name.enc x)) v.sname.0 ++ optional (λ x. tlv 170 ((sequence_of host_address).enc x)) v.caddr.0)))))))))) =
    rw (e0, e2, e9, e10) (simp append_assoc refl) in
    whole ∙ ap (λ (o : List ℕ). tlv 48 (tlv 160 (encryption_key.enc v.key) ++ (optional (λ x. tlv 161 (text.enc x)) v.prealm.0 ++ (optional (λ x. tlv 162 (principal_name.enc x)) v.pname.0 ++ (optional (λ x. tlv 163 (bits.enc x)) v.flags.0 ++ (optional (λ x. tlv 164 (time.enc x)) v.auth_time.0 ++ (optional (λ x. tlv 165 (time.enc x)) v.start_time.0 ++ (optional (λ x. tlv 166 (time.enc x)) v.end_time.0 ++ (optional (λ x. tlv 167 (time.enc x)) v.renew_till.0 ++ (optional (λ x. tlv 168 (text.enc x)) v.srealm.0 ++ (optional (λ x. tlv 169 (principal_name.enc x)) v.sname.0 ++ o))))))))))) (sym (append-nil (optional (λ x. tlv 170 ((sequence_of host_address).enc x)) v.caddr.0)))

abbrev pub krb_cred_info_value : KrbCredInfo → Type 0
krb_cred_info_value v = (encryption_key_value v.key × IfSome v.prealm.0 IsAscii × IfSome v.pname.0 principal_name_value × IfSome v.flags.0 IsBits × IfSome v.auth_time.0 IsRealTime) × (IfSome v.start_time.0 IsRealTime × IfSome v.end_time.0 IsRealTime × IfSome v.renew_till.0 IsRealTime × IfSome v.srealm.0 IsAscii × IfSome v.sname.0 principal_name_value × IfSome v.caddr.0 (AllByRecursion host_address_value))

pub krb_cred_info_valid : (v : KrbCredInfo) → krb_cred_info_value v → krb_cred_info.valid v
krb_cred_info_valid v h = ((encryption_key_valid v.key h.0.0), (h.0.1, ((some_as {P = principal_name_value} {Q = principal_name.valid} (λ y k. (principal_name_valid y k)) v.pname.0 h.0.2), (h.0.3, (h.0.4, (h.1.0, (h.1.1, (h.1.2, (h.1.3, ((some_as {P = principal_name_value} {Q = principal_name.valid} (λ y k. (principal_name_valid y k)) v.sname.0 h.1.4), ((some_as {P = (AllByRecursion host_address_value)} {Q = (sequence_of host_address).valid} (λ y k. (all_as {P = host_address_value} {Q = host_address.valid} (λ x0 k0. (host_address_valid x0 k0)) y k)) v.caddr.0 h.1.5), tt)))))))))))

pub krb_cred_info_right : (v : KrbCredInfo) → krb_cred_info.valid v → krb_cred_info_value v
krb_cred_info_right v h = (((encryption_key_right v.key h.0), h.1.0, (some_as {P = principal_name.valid} {Q = principal_name_value} (λ y k. (principal_name_right y k)) v.pname.0 h.1.1.0), h.1.1.1.0, h.1.1.1.1.0), (h.1.1.1.1.1.0, h.1.1.1.1.1.1.0, h.1.1.1.1.1.1.1.0, h.1.1.1.1.1.1.1.1.0, (some_as {P = principal_name.valid} {Q = principal_name_value} (λ y k. (principal_name_right y k)) v.sname.0 h.1.1.1.1.1.1.1.1.1.0), (some_as {P = (sequence_of host_address).valid} {Q = (AllByRecursion host_address_value)} (λ y k. (all_as {P = host_address.valid} {Q = host_address_value} (λ x0 k0. (host_address_right x0 k0)) y k)) v.caddr.0 h.1.1.1.1.1.1.1.1.1.1.0)))

-- ---- EncKrbCredPartInner

abbrev pub enc_krb_cred_part_fields : Codec
enc_krb_cred_part_fields = tagged 48 (required 160 (sequence_of krb_cred_info) (maybe 161 integer (maybe 162 time (maybe 163 integer (maybe 164 host_address (maybe 165 host_address end))))))

abbrev pub enc_krb_cred_part_to : EncKrbCredPartInner → (enc_krb_cred_part_fields).value
enc_krb_cred_part_to v = (v.ticket_info, (v.nonce.0, (v.timestamp.0, (v.usec.0, (v.s_address.0, (v.r_address.0, tt))))))

abbrev pub enc_krb_cred_part_of : (enc_krb_cred_part_fields).value → EncKrbCredPartInner
enc_krb_cred_part_of x = record { ticket_info = x.0; nonce = record { 0 = x.1.0 }; timestamp = record { 0 = x.1.1.0 }; usec = record { 0 = x.1.1.1.0 }; s_address = record { 0 = x.1.1.1.1.0 }; r_address = record { 0 = x.1.1.1.1.1.0 } }

abbrev pub enc_krb_cred_part : Codec
enc_krb_cred_part = coded enc_krb_cred_part_fields enc_krb_cred_part_to

pub enc_krb_cred_part_tie : (schema : Schema) (k : IsKerberos schema) (levels : ℕ) → Tie schema k (suc (suc (suc (suc (suc (suc levels)))))) 82 enc_krb_cred_part
unfolding cases fields shapes
enc_krb_cred_part_tie schema k levels =
    coded_tie schema k (suc (suc (suc (suc (suc (suc levels)))))) 82 enc_krb_cred_part_fields enc_krb_cred_part_to enc_krb_cred_part_of (λ x. refl)
    (sequence_tie schema k (suc (suc (suc (suc (suc levels))))) 82 48 124 6 _ _ refl (lit≤ tt) refl
    (required_tie schema k _ _ _ _ _ _ _ _ _ (list_tie schema k (suc (suc (suc (suc levels)))) 81 84 false _ refl (krb_cred_info_tie schema k levels))
    (maybe_tie schema k _ _ _ _ _ _ _ _ _ refl (integer_tie schema k (suc (suc (suc (suc levels)))) 1 refl)
    (maybe_tie schema k _ _ _ _ _ _ _ _ _ refl (time_tie schema k (suc (suc (suc (suc levels)))) 10 refl)
    (maybe_tie schema k _ _ _ _ _ _ _ _ _ refl (microseconds_tie schema k (suc (suc (suc (suc levels)))) 3 refl)
    (maybe_tie schema k _ _ _ _ _ _ _ _ _ refl (host_address_tie schema k (suc (suc (suc levels))))
    (maybe_tie schema k _ _ _ _ _ _ _ _ _ refl (host_address_tie schema k (suc (suc (suc levels))))
    (end_tie schema k _))))))))

abbrev pub enc_krb_cred_part_octets : EncKrbCredPartInner → List ℕ
enc_krb_cred_part_octets v = sequence (explicit 0 ((asn1_sequence_of krb_cred_info_octets) v.ticket_info) ++ optional (λ x. explicit 1 (integer_octets x)) v.nonce.0 ++ optional (λ x. explicit 2 (generalized_time x)) v.timestamp.0 ++ optional (λ x. explicit 3 (integer_octets x)) v.usec.0 ++ optional (λ x. explicit 4 (host_address_octets x)) v.s_address.0 ++ optional (λ x. explicit 5 (host_address_octets x)) v.r_address.0)

enc_krb_cred_part_in_a_row : (a0 a1 a2 a3 a4 a5 : List ℕ) → a0 ++ a1 ++ a2 ++ a3 ++ a4 ++ a5 ≡ a0 ++ (a1 ++ (a2 ++ (a3 ++ (a4 ++ a5))))
enc_krb_cred_part_in_a_row a0 a1 a2 a3 a4 a5 = simp append_assoc refl

pub enc_krb_cred_part_same : (v : EncKrbCredPartInner) → enc_krb_cred_part_octets v ≡ enc_krb_cred_part.enc v
enc_krb_cred_part_same v =
    let e0 = (ap (tlv 48) (flat_map_same (λ x0. (krb_cred_info_same x0)) v.ticket_info)) in
    let e4 = optional_same (λ y. ap (tlv 164) (host_address_same y)) v.s_address.0 in
    let e5 = optional_same (λ y. ap (tlv 165) (host_address_same y)) v.r_address.0 in
    let whole : enc_krb_cred_part_octets v ≡ tlv 48 (tlv 160 ((sequence_of krb_cred_info).enc v.ticket_info) ++ (optional (λ x. tlv 161 (integer.enc x)) v.nonce.0 ++ (optional (λ x. tlv 162 (time.enc x)) v.timestamp.0 ++ (optional (λ x. tlv 163 (integer.enc x)) v.usec.0 ++ (optional (λ x. tlv 164 (host_address.enc x)) v.s_address.0 ++ optional (λ x. tlv 165 (host_address.enc x)) v.r_address.0))))) =
    rw (e0, e4, e5) (ap (tlv 48) (enc_krb_cred_part_in_a_row (tlv 160 ((sequence_of krb_cred_info).enc v.ticket_info)) (optional (λ x. tlv 161 (integer.enc x)) v.nonce.0) (optional (λ x. tlv 162 (time.enc x)) v.timestamp.0) (optional (λ x. tlv 163 (integer.enc x)) v.usec.0) (optional (λ x. tlv 164 (host_address.enc x)) v.s_address.0) (optional (λ x. tlv 165 (host_address.enc x)) v.r_address.0))) in
    whole ∙ ap (λ (o : List ℕ). tlv 48 (tlv 160 ((sequence_of krb_cred_info).enc v.ticket_info) ++ (optional (λ x. tlv 161 (integer.enc x)) v.nonce.0 ++ (optional (λ x. tlv 162 (time.enc x)) v.timestamp.0 ++ (optional (λ x. tlv 163 (integer.enc x)) v.usec.0 ++ (optional (λ x. tlv 164 (host_address.enc x)) v.s_address.0 ++ o)))))) (sym (append-nil (optional (λ x. tlv 165 (host_address.enc x)) v.r_address.0)))

abbrev pub enc_krb_cred_part_value : EncKrbCredPartInner → Type 0
enc_krb_cred_part_value v = (AllByRecursion krb_cred_info_value) v.ticket_info × IfSome v.nonce.0 IsAny × IfSome v.timestamp.0 IsRealTime × IfSome v.usec.0 IsAny × IfSome v.s_address.0 host_address_value × IfSome v.r_address.0 host_address_value

pub enc_krb_cred_part_valid : (v : EncKrbCredPartInner) → enc_krb_cred_part_value v → enc_krb_cred_part.valid v
enc_krb_cred_part_valid v h = ((all_as {P = krb_cred_info_value} {Q = krb_cred_info.valid} (λ x0 k0. (krb_cred_info_valid x0 k0)) v.ticket_info h.0), (h.1, (h.2, (h.3, ((some_as {P = host_address_value} {Q = host_address.valid} (λ y k. (host_address_valid y k)) v.s_address.0 h.4), ((some_as {P = host_address_value} {Q = host_address.valid} (λ y k. (host_address_valid y k)) v.r_address.0 h.5), tt))))))

pub enc_krb_cred_part_right : (v : EncKrbCredPartInner) → enc_krb_cred_part.valid v → enc_krb_cred_part_value v
enc_krb_cred_part_right v h = ((all_as {P = krb_cred_info.valid} {Q = krb_cred_info_value} (λ x0 k0. (krb_cred_info_right x0 k0)) v.ticket_info h.0), h.1.0, h.1.1.0, h.1.1.1.0, (some_as {P = host_address.valid} {Q = host_address_value} (λ y k. (host_address_right y k)) v.s_address.0 h.1.1.1.1.0), (some_as {P = host_address.valid} {Q = host_address_value} (λ y k. (host_address_right y k)) v.r_address.0 h.1.1.1.1.1.0))
