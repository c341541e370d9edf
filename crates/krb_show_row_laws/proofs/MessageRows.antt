-- Messages as codecs, and their rows.
use Rattle.std.proofs.Common.{◌≡◌, ℕ, suc, true, false, refl, sym, ap, ◌∙◌, List, ◌++◌, lit≤}
use Rattle.std.specs.List.{AllByRecursion}
use Rattle.std.specs.Option.{IfSome}
use Rattle.std.specs.Str.{IsAscii}
use Rattle.std.proofs.lemmas.List.{append-nil, append_assoc}
use Rattle.krb_der.specs.Asn1.{bit_string, explicit, general_string, generalized_time, octet_string, sequence}
use Rattle.krb_der.specs.Asn1.{integer as integer_octets, sequence_of as asn1_sequence_of}
use Rattle.krb_der_core.specs.BitString.{IsBits}
use Rattle.krb_der_core.specs.Encoding.{IsOctets, optional}
use Rattle.krb_der_core.specs.GeneralizedTime.{IsRealTime}
use Rattle.krb_der_core.specs.Tlv.{tlv}
use Rattle.krb_messages.specs.declared.messages.application.ApRepInner.{ApRepInner}
use Rattle.krb_messages.specs.declared.messages.application.ApReqInner.{ApReqInner}
use Rattle.krb_messages.specs.declared.messages.credentials.KrbCredInner.{KrbCredInner}
use Rattle.krb_messages.specs.declared.messages.errors.KrbErrorInner.{KrbErrorInner}
use Rattle.krb_messages.specs.declared.messages.private.KrbPrivInner.{KrbPrivInner}
use Rattle.krb_messages.specs.declared.messages.proxy.KdcProxyMessage.{KdcProxyMessage}
use Rattle.krb_messages.specs.declared.messages.replies.EncKdcRepPart.{EncKdcRepPart}
use Rattle.krb_messages.specs.declared.messages.replies.KdcRep.{KdcRep}
use Rattle.krb_messages.specs.declared.messages.requests.KdcReq.{KdcReq}
use Rattle.krb_messages.specs.declared.messages.requests.KdcReqBody.{KdcReqBody}
use Rattle.krb_messages.specs.declared.messages.user_to_user.TgtRep.{TgtRep}
use Rattle.krb_messages.specs.declared.messages.user_to_user.TgtReq.{TgtReq}
use Rattle.krb_schema.specs.declared.shape.Schema.{Schema}
use Rattle.krb_schema.specs.Named.{IsKerberos}
use Rattle.krb_schema.specs.Types.{cases, fields, shapes}
use Rattle.krb_show_row_laws.proofs.Codecs.{Codec, bits, coded, end, integer, maybe, octets, required, sequence_of, tagged, text, time, unsigned, unsigned_octets}
use Rattle.krb_show_row_laws.proofs.CodecRows.{IsAny, IsUnsigned, Tie, all_as, coded_tie, end_tie, flags_tie, flat_map_same, holding_tie, integer_tie, list_tie, maybe_tie, microseconds_tie, number_tie, octets_tie, optional_same, required_tie, sequence_tie, some_as, tagged_tie, text_tie, time_tie, unsigned_tie}
use Rattle.krb_show_row_laws.proofs.DataTypeRows.{principal_name, principal_name_tie, principal_name_octets, principal_name_same, principal_name_value, principal_name_valid, principal_name_right, host_address, host_address_tie, host_address_octets, host_address_same, host_address_value, host_address_valid, host_address_right, encrypted_data, encrypted_data_tie, encrypted_data_octets, encrypted_data_same, encrypted_data_value, encrypted_data_valid, encrypted_data_right, encryption_key, encryption_key_tie, encryption_key_octets, encryption_key_same, encryption_key_value, encryption_key_valid, encryption_key_right, tagged_ticket_octets, tagged_ticket_value, ticket, ticket_tie, ticket_same, ticket_valid, ticket_right, pa_data, pa_data_tie, pa_data_octets, pa_data_same, pa_data_value, pa_data_valid, pa_data_right, last_req, last_req_tie, last_req_octets, last_req_same, last_req_value, last_req_valid, last_req_right}

-- ---- KDC-REQ-BODY

abbrev pub kdc_req_body_fields : Codec
kdc_req_body_fields = tagged 48 (required 160 bits (maybe 161 principal_name (required 162 text (maybe 163 principal_name (maybe 164 time (required 165 time (maybe 166 time (required 167 integer (required 168 (sequence_of integer) (maybe 169 (sequence_of host_address) (maybe 170 encrypted_data (maybe 171 (sequence_of (tagged 97 ticket)) end))))))))))))

abbrev pub kdc_req_body_to : KdcReqBody → (kdc_req_body_fields).value
kdc_req_body_to v = (v.kdc_options, (v.cname.0, (v.realm, (v.sname.0, (v.from.0, (v.till, (v.rtime.0, (v.nonce, (v.etype, (v.addresses.0, (v.enc_authorization_data.0, (v.additional_tickets.0, tt))))))))))))

abbrev pub kdc_req_body_of : (kdc_req_body_fields).value → KdcReqBody
kdc_req_body_of x = record { kdc_options = x.0; cname = record { 0 = x.1.0 }; realm = x.1.1.0; sname = record { 0 = x.1.1.1.0 }; from = record { 0 = x.1.1.1.1.0 }; till = x.1.1.1.1.1.0; rtime = record { 0 = x.1.1.1.1.1.1.0 }; nonce = x.1.1.1.1.1.1.1.0; etype = x.1.1.1.1.1.1.1.1.0; addresses = record { 0 = x.1.1.1.1.1.1.1.1.1.0 }; enc_authorization_data = record { 0 = x.1.1.1.1.1.1.1.1.1.1.0 }; additional_tickets = record { 0 = x.1.1.1.1.1.1.1.1.1.1.1.0 } }

abbrev pub kdc_req_body : Codec
kdc_req_body = coded kdc_req_body_fields kdc_req_body_to

pub kdc_req_body_tie : (schema : Schema) (k : IsKerberos schema) (levels : ℕ) → Tie schema k (suc (suc (suc (suc (suc (suc (suc levels))))))) 51 kdc_req_body
unfolding cases fields shapes
kdc_req_body_tie schema k levels =
    coded_tie schema k (suc (suc (suc (suc (suc (suc (suc levels))))))) 51 kdc_req_body_fields kdc_req_body_to kdc_req_body_of (λ x. refl)
    (sequence_tie schema k (suc (suc (suc (suc (suc (suc levels)))))) 51 48 49 12 _ _ refl (lit≤ tt) refl
    (required_tie schema k _ _ _ _ _ _ _ _ _ (flags_tie schema k (suc (suc (suc (suc (suc levels))))) 5 refl)
    (maybe_tie schema k _ _ _ _ _ _ _ _ _ refl (principal_name_tie schema k (suc (suc (suc levels))))
    (required_tie schema k _ _ _ _ _ _ _ _ _ (text_tie schema k (suc (suc (suc (suc (suc levels))))) 11 refl)
    (maybe_tie schema k _ _ _ _ _ _ _ _ _ refl (principal_name_tie schema k (suc (suc (suc levels))))
    (maybe_tie schema k _ _ _ _ _ _ _ _ _ refl (time_tie schema k (suc (suc (suc (suc (suc levels))))) 10 refl)
    (required_tie schema k _ _ _ _ _ _ _ _ _ (time_tie schema k (suc (suc (suc (suc (suc levels))))) 10 refl)
    (maybe_tie schema k _ _ _ _ _ _ _ _ _ refl (time_tie schema k (suc (suc (suc (suc (suc levels))))) 10 refl)
    (required_tie schema k _ _ _ _ _ _ _ _ _ (integer_tie schema k (suc (suc (suc (suc (suc levels))))) 1 refl)
    (required_tie schema k _ _ _ _ _ _ _ _ _ (list_tie schema k (suc (suc (suc (suc (suc levels))))) 49 1 false _ refl (integer_tie schema k (suc (suc (suc (suc levels)))) 1 refl))
    (maybe_tie schema k _ _ _ _ _ _ _ _ _ refl (list_tie schema k (suc (suc (suc (suc (suc levels))))) 17 16 true _ refl (host_address_tie schema k (suc (suc (suc levels)))))
    (maybe_tie schema k _ _ _ _ _ _ _ _ _ refl (encrypted_data_tie schema k (suc (suc (suc (suc levels)))))
    (maybe_tie schema k _ _ _ _ _ _ _ _ _ refl (list_tie schema k (suc (suc (suc (suc (suc levels))))) 50 28 false _ refl (tagged_tie schema k (suc (suc (suc (suc levels)))) 28 97 27 _ refl (ticket_tie schema k levels)))
    (end_tie schema k _))))))))))))))

abbrev pub kdc_req_body_octets : KdcReqBody → List ℕ
kdc_req_body_octets v = sequence ((explicit 0 (bit_string v.kdc_options) ++ optional (λ x. explicit 1 (principal_name_octets x)) v.cname.0 ++ explicit 2 (general_string v.realm) ++ optional (λ x. explicit 3 (principal_name_octets x)) v.sname.0) ++ (optional (λ x. explicit 4 (generalized_time x)) v.from.0 ++ explicit 5 (generalized_time v.till) ++ optional (λ x. explicit 6 (generalized_time x)) v.rtime.0 ++ explicit 7 (integer_octets v.nonce)) ++ (explicit 8 ((asn1_sequence_of integer_octets) v.etype) ++ optional (λ x. explicit 9 ((asn1_sequence_of host_address_octets) x)) v.addresses.0 ++ optional (λ x. explicit 10 (encrypted_data_octets x)) v.enc_authorization_data.0 ++ optional (λ x. explicit 11 ((asn1_sequence_of tagged_ticket_octets) x)) v.additional_tickets.0))

pub kdc_req_body_same : (v : KdcReqBody) → kdc_req_body_octets v ≡ kdc_req_body.enc v
kdc_req_body_same v =
    let e1 = optional_same (λ y. ap (tlv 161) (principal_name_same y)) v.cname.0 in
    let e3 = optional_same (λ y. ap (tlv 163) (principal_name_same y)) v.sname.0 in
    let e9 = optional_same (λ y. ap (tlv 169) (ap (tlv 48) (flat_map_same (λ x0. (host_address_same x0)) y))) v.addresses.0 in
    let e10 = optional_same (λ y. ap (tlv 170) (encrypted_data_same y)) v.enc_authorization_data.0 in
    let e11 = optional_same (λ y. ap (tlv 171) (ap (tlv 48) (flat_map_same (λ x0. (ap (tlv 97) (ticket_same x0))) y))) v.additional_tickets.0 in
    let whole : kdc_req_body_octets v ≡ tlv 48 (tlv 160 (bits.enc v.kdc_options) ++ (optional (λ x. tlv 161 (principal_name.enc x)) v.cname.0 ++ (tlv 162 (text.enc v.realm) ++ (optional (λ x. tlv 163 (principal_name.enc x)) v.sname.0 ++ (optional (λ x. tlv 164 (time.enc x)) v.from.0 ++ (tlv 165 (time.enc v.till) ++ (optional (λ x. tlv 166 (time.enc x)) v.rtime.0 ++ (tlv 167 (integer.enc v.nonce) ++ (tlv 168 ((sequence_of integer).enc v.etype) ++ (optional (λ x. tlv 169 ((sequence_of host_address).enc x)) v.addresses.0 ++ (optional (λ x. tlv 170 (encrypted_data.enc x)) v.enc_authorization_data.0 ++ optional (λ x. tlv 171 ((sequence_of (tagged 97 ticket)).enc x)) v.additional_tickets.0))))))))))) =
    rw (e1, e3, e9, e10, e11) (simp append_assoc refl) in
    whole ∙ ap (λ (o : List ℕ). tlv 48 (tlv 160 (bits.enc v.kdc_options) ++ (optional (λ x. tlv 161 (principal_name.enc x)) v.cname.0 ++ (tlv 162 (text.enc v.realm) ++ (optional (λ x. tlv 163 (principal_name.enc x)) v.sname.0 ++ (optional (λ x. tlv 164 (time.enc x)) v.from.0 ++ (tlv 165 (time.enc v.till) ++ (optional (λ x. tlv 166 (time.enc x)) v.rtime.0 ++ (tlv 167 (integer.enc v.nonce) ++ (tlv 168 ((sequence_of integer).enc v.etype) ++ (optional (λ x. tlv 169 ((sequence_of host_address).enc x)) v.addresses.0 ++ (optional (λ x. tlv 170 (encrypted_data.enc x)) v.enc_authorization_data.0 ++ o)))))))))))) (sym (append-nil (optional (λ x. tlv 171 ((sequence_of (tagged 97 ticket)).enc x)) v.additional_tickets.0)))

abbrev pub kdc_req_body_value : KdcReqBody → Type 0
kdc_req_body_value v = (IsBits v.kdc_options × IfSome v.cname.0 principal_name_value × IsAscii v.realm × IfSome v.sname.0 principal_name_value) × (IfSome v.from.0 IsRealTime × IsRealTime v.till × IfSome v.rtime.0 IsRealTime × IsAny v.nonce) × ((AllByRecursion IsAny) v.etype × IfSome v.addresses.0 (AllByRecursion host_address_value) × IfSome v.enc_authorization_data.0 encrypted_data_value × IfSome v.additional_tickets.0 (AllByRecursion tagged_ticket_value))

pub kdc_req_body_valid : (v : KdcReqBody) → kdc_req_body_value v → kdc_req_body.valid v
kdc_req_body_valid v h = (h.0.0, ((some_as {P = principal_name_value} {Q = principal_name.valid} (λ y k. (principal_name_valid y k)) v.cname.0 h.0.1), (h.0.2, ((some_as {P = principal_name_value} {Q = principal_name.valid} (λ y k. (principal_name_valid y k)) v.sname.0 h.0.3), (h.1.0, (h.1.1, (h.1.2, (h.1.3, (h.2.0, ((some_as {P = (AllByRecursion host_address_value)} {Q = (sequence_of host_address).valid} (λ y k. (all_as {P = host_address_value} {Q = host_address.valid} (λ x0 k0. (host_address_valid x0 k0)) y k)) v.addresses.0 h.2.1), ((some_as {P = encrypted_data_value} {Q = encrypted_data.valid} (λ y k. (encrypted_data_valid y k)) v.enc_authorization_data.0 h.2.2), ((some_as {P = (AllByRecursion tagged_ticket_value)} {Q = (sequence_of (tagged 97 ticket)).valid} (λ y k. (all_as {P = tagged_ticket_value} {Q = (tagged 97 ticket).valid} (λ x0 k0. (ticket_valid x0 k0.0)) y k)) v.additional_tickets.0 h.2.3), tt))))))))))))

pub kdc_req_body_right : (v : KdcReqBody) → kdc_req_body.valid v → kdc_req_body_value v
kdc_req_body_right v h = ((h.0, (some_as {P = principal_name.valid} {Q = principal_name_value} (λ y k. (principal_name_right y k)) v.cname.0 h.1.0), h.1.1.0, (some_as {P = principal_name.valid} {Q = principal_name_value} (λ y k. (principal_name_right y k)) v.sname.0 h.1.1.1.0)), (h.1.1.1.1.0, h.1.1.1.1.1.0, h.1.1.1.1.1.1.0, h.1.1.1.1.1.1.1.0), (h.1.1.1.1.1.1.1.1.0, (some_as {P = (sequence_of host_address).valid} {Q = (AllByRecursion host_address_value)} (λ y k. (all_as {P = host_address.valid} {Q = host_address_value} (λ x0 k0. (host_address_right x0 k0)) y k)) v.addresses.0 h.1.1.1.1.1.1.1.1.1.0), (some_as {P = encrypted_data.valid} {Q = encrypted_data_value} (λ y k. (encrypted_data_right y k)) v.enc_authorization_data.0 h.1.1.1.1.1.1.1.1.1.1.0), (some_as {P = (sequence_of (tagged 97 ticket)).valid} {Q = (AllByRecursion tagged_ticket_value)} (λ y k. (all_as {P = (tagged 97 ticket).valid} {Q = tagged_ticket_value} (λ x0 k0. ((ticket_right x0 k0), lit≤ tt)) y k)) v.additional_tickets.0 h.1.1.1.1.1.1.1.1.1.1.1.0)))

-- ---- KDC-REQ (AS)

abbrev pub kdc_req_as_fields : Codec
kdc_req_as_fields = tagged 48 (required 161 integer (required 162 integer (maybe 163 (sequence_of pa_data) (required 164 kdc_req_body end))))

abbrev pub kdc_req_as_to : KdcReq → (kdc_req_as_fields).value
kdc_req_as_to v = (v.pvno, (v.msg_type, (v.padata.0, (v.req_body, tt))))

abbrev pub kdc_req_as_of : (kdc_req_as_fields).value → KdcReq
kdc_req_as_of x = record { pvno = x.0; msg_type = x.1.0; padata = record { 0 = x.1.1.0 }; req_body = x.1.1.1.0 }

abbrev pub kdc_req_as : Codec
kdc_req_as = coded kdc_req_as_fields kdc_req_as_to

pub kdc_req_as_tie : (schema : Schema) (k : IsKerberos schema) (levels : ℕ) → Tie schema k (suc (suc (suc (suc (suc (suc (suc (suc levels)))))))) 46 kdc_req_as
unfolding cases fields shapes
kdc_req_as_tie schema k levels =
    coded_tie schema k (suc (suc (suc (suc (suc (suc (suc (suc levels)))))))) 46 kdc_req_as_fields kdc_req_as_to kdc_req_as_of (λ x. refl)
    (sequence_tie schema k (suc (suc (suc (suc (suc (suc (suc levels))))))) 46 48 41 4 _ _ refl (lit≤ tt) refl
    (required_tie schema k _ _ _ _ _ _ _ _ _ (number_tie schema k (suc (suc (suc (suc (suc (suc levels)))))) 26 5 refl)
    (required_tie schema k _ _ _ _ _ _ _ _ _ (number_tie schema k (suc (suc (suc (suc (suc (suc levels)))))) 44 10 refl)
    (maybe_tie schema k _ _ _ _ _ _ _ _ _ refl (list_tie schema k (suc (suc (suc (suc (suc (suc levels)))))) 45 33 false _ refl (pa_data_tie schema k (suc (suc (suc (suc levels))))))
    (required_tie schema k _ _ _ _ _ _ _ _ _ (kdc_req_body_tie schema k levels)
    (end_tie schema k _))))))

abbrev pub kdc_req_as_octets : KdcReq → List ℕ
kdc_req_as_octets v = sequence (explicit 1 (integer_octets v.pvno) ++ explicit 2 (integer_octets v.msg_type) ++ optional (λ x. explicit 3 ((asn1_sequence_of pa_data_octets) x)) v.padata.0 ++ explicit 4 (kdc_req_body_octets v.req_body))

pub kdc_req_as_same : (v : KdcReq) → kdc_req_as_octets v ≡ kdc_req_as.enc v
kdc_req_as_same v =
    let e2 = optional_same (λ y. ap (tlv 163) (ap (tlv 48) (flat_map_same (λ x0. (pa_data_same x0)) y))) v.padata.0 in
    let e3 = (kdc_req_body_same v.req_body) in
    let whole : kdc_req_as_octets v ≡ tlv 48 (tlv 161 (integer.enc v.pvno) ++ (tlv 162 (integer.enc v.msg_type) ++ (optional (λ x. tlv 163 ((sequence_of pa_data).enc x)) v.padata.0 ++ tlv 164 (kdc_req_body.enc v.req_body)))) =
    rw (e2, e3) (simp append_assoc refl) in
    whole ∙ ap (λ (o : List ℕ). tlv 48 (tlv 161 (integer.enc v.pvno) ++ (tlv 162 (integer.enc v.msg_type) ++ (optional (λ x. tlv 163 ((sequence_of pa_data).enc x)) v.padata.0 ++ o)))) (sym (append-nil (tlv 164 (kdc_req_body.enc v.req_body))))

abbrev pub kdc_req_as_value : KdcReq → Type 0
kdc_req_as_value v = IsAny v.pvno × IsAny v.msg_type × IfSome v.padata.0 (AllByRecursion pa_data_value) × kdc_req_body_value v.req_body

pub kdc_req_as_valid : (v : KdcReq) → kdc_req_as_value v → kdc_req_as.valid v
kdc_req_as_valid v h = (h.0, (h.1, ((some_as {P = (AllByRecursion pa_data_value)} {Q = (sequence_of pa_data).valid} (λ y k. (all_as {P = pa_data_value} {Q = pa_data.valid} (λ x0 k0. (pa_data_valid x0 k0)) y k)) v.padata.0 h.2), ((kdc_req_body_valid v.req_body h.3), tt))))

pub kdc_req_as_right : (v : KdcReq) → kdc_req_as.valid v → kdc_req_as_value v
kdc_req_as_right v h = (h.0, h.1.0, (some_as {P = (sequence_of pa_data).valid} {Q = (AllByRecursion pa_data_value)} (λ y k. (all_as {P = pa_data.valid} {Q = pa_data_value} (λ x0 k0. (pa_data_right x0 k0)) y k)) v.padata.0 h.1.1.0), (kdc_req_body_right v.req_body h.1.1.1.0))

-- ---- KDC-REQ (TGS)

abbrev pub kdc_req_tgs_fields : Codec
kdc_req_tgs_fields = tagged 48 (required 161 integer (required 162 integer (maybe 163 (sequence_of pa_data) (required 164 kdc_req_body end))))

abbrev pub kdc_req_tgs_to : KdcReq → (kdc_req_tgs_fields).value
kdc_req_tgs_to v = (v.pvno, (v.msg_type, (v.padata.0, (v.req_body, tt))))

abbrev pub kdc_req_tgs_of : (kdc_req_tgs_fields).value → KdcReq
kdc_req_tgs_of x = record { pvno = x.0; msg_type = x.1.0; padata = record { 0 = x.1.1.0 }; req_body = x.1.1.1.0 }

abbrev pub kdc_req_tgs : Codec
kdc_req_tgs = coded kdc_req_tgs_fields kdc_req_tgs_to

pub kdc_req_tgs_tie : (schema : Schema) (k : IsKerberos schema) (levels : ℕ) → Tie schema k (suc (suc (suc (suc (suc (suc (suc (suc levels)))))))) 48 kdc_req_tgs
unfolding cases fields shapes
kdc_req_tgs_tie schema k levels =
    coded_tie schema k (suc (suc (suc (suc (suc (suc (suc (suc levels)))))))) 48 kdc_req_tgs_fields kdc_req_tgs_to kdc_req_tgs_of (λ x. refl)
    (sequence_tie schema k (suc (suc (suc (suc (suc (suc (suc levels))))))) 48 48 45 4 _ _ refl (lit≤ tt) refl
    (required_tie schema k _ _ _ _ _ _ _ _ _ (number_tie schema k (suc (suc (suc (suc (suc (suc levels)))))) 26 5 refl)
    (required_tie schema k _ _ _ _ _ _ _ _ _ (number_tie schema k (suc (suc (suc (suc (suc (suc levels)))))) 47 12 refl)
    (maybe_tie schema k _ _ _ _ _ _ _ _ _ refl (list_tie schema k (suc (suc (suc (suc (suc (suc levels)))))) 45 33 false _ refl (pa_data_tie schema k (suc (suc (suc (suc levels))))))
    (required_tie schema k _ _ _ _ _ _ _ _ _ (kdc_req_body_tie schema k levels)
    (end_tie schema k _))))))

abbrev pub kdc_req_tgs_octets : KdcReq → List ℕ
kdc_req_tgs_octets v = sequence (explicit 1 (integer_octets v.pvno) ++ explicit 2 (integer_octets v.msg_type) ++ optional (λ x. explicit 3 ((asn1_sequence_of pa_data_octets) x)) v.padata.0 ++ explicit 4 (kdc_req_body_octets v.req_body))

pub kdc_req_tgs_same : (v : KdcReq) → kdc_req_tgs_octets v ≡ kdc_req_tgs.enc v
kdc_req_tgs_same v =
    let e2 = optional_same (λ y. ap (tlv 163) (ap (tlv 48) (flat_map_same (λ x0. (pa_data_same x0)) y))) v.padata.0 in
    let e3 = (kdc_req_body_same v.req_body) in
    let whole : kdc_req_tgs_octets v ≡ tlv 48 (tlv 161 (integer.enc v.pvno) ++ (tlv 162 (integer.enc v.msg_type) ++ (optional (λ x. tlv 163 ((sequence_of pa_data).enc x)) v.padata.0 ++ tlv 164 (kdc_req_body.enc v.req_body)))) =
    rw (e2, e3) (simp append_assoc refl) in
    whole ∙ ap (λ (o : List ℕ). tlv 48 (tlv 161 (integer.enc v.pvno) ++ (tlv 162 (integer.enc v.msg_type) ++ (optional (λ x. tlv 163 ((sequence_of pa_data).enc x)) v.padata.0 ++ o)))) (sym (append-nil (tlv 164 (kdc_req_body.enc v.req_body))))

abbrev pub kdc_req_tgs_value : KdcReq → Type 0
kdc_req_tgs_value v = IsAny v.pvno × IsAny v.msg_type × IfSome v.padata.0 (AllByRecursion pa_data_value) × kdc_req_body_value v.req_body

pub kdc_req_tgs_valid : (v : KdcReq) → kdc_req_tgs_value v → kdc_req_tgs.valid v
kdc_req_tgs_valid v h = (h.0, (h.1, ((some_as {P = (AllByRecursion pa_data_value)} {Q = (sequence_of pa_data).valid} (λ y k. (all_as {P = pa_data_value} {Q = pa_data.valid} (λ x0 k0. (pa_data_valid x0 k0)) y k)) v.padata.0 h.2), ((kdc_req_body_valid v.req_body h.3), tt))))

pub kdc_req_tgs_right : (v : KdcReq) → kdc_req_tgs.valid v → kdc_req_tgs_value v
kdc_req_tgs_right v h = (h.0, h.1.0, (some_as {P = (sequence_of pa_data).valid} {Q = (AllByRecursion pa_data_value)} (λ y k. (all_as {P = pa_data.valid} {Q = pa_data_value} (λ x0 k0. (pa_data_right x0 k0)) y k)) v.padata.0 h.1.1.0), (kdc_req_body_right v.req_body h.1.1.1.0))

-- ---- KDC-REP (AS)

abbrev pub kdc_rep_as_fields : Codec
kdc_rep_as_fields = tagged 48 (required 160 integer (required 161 integer (maybe 162 (sequence_of pa_data) (required 163 text (required 164 principal_name (required 165 (tagged 97 ticket) (required 166 encrypted_data end)))))))

abbrev pub kdc_rep_as_to : KdcRep → (kdc_rep_as_fields).value
kdc_rep_as_to v = (v.pvno, (v.msg_type, (v.padata.0, (v.crealm, (v.cname, (v.ticket, (v.enc_part, tt)))))))

abbrev pub kdc_rep_as_of : (kdc_rep_as_fields).value → KdcRep
kdc_rep_as_of x = record { pvno = x.0; msg_type = x.1.0; padata = record { 0 = x.1.1.0 }; crealm = x.1.1.1.0; cname = x.1.1.1.1.0; ticket = x.1.1.1.1.1.0; enc_part = x.1.1.1.1.1.1.0 }

abbrev pub kdc_rep_as : Codec
kdc_rep_as = coded kdc_rep_as_fields kdc_rep_as_to

pub kdc_rep_as_tie : (schema : Schema) (k : IsKerberos schema) (levels : ℕ) → Tie schema k (suc (suc (suc (suc (suc (suc levels)))))) 55 kdc_rep_as
unfolding cases fields shapes
kdc_rep_as_tie schema k levels =
    coded_tie schema k (suc (suc (suc (suc (suc (suc levels)))))) 55 kdc_rep_as_fields kdc_rep_as_to kdc_rep_as_of (λ x. refl)
    (sequence_tie schema k (suc (suc (suc (suc (suc levels))))) 55 48 61 7 _ _ refl (lit≤ tt) refl
    (required_tie schema k _ _ _ _ _ _ _ _ _ (number_tie schema k (suc (suc (suc (suc levels)))) 26 5 refl)
    (required_tie schema k _ _ _ _ _ _ _ _ _ (number_tie schema k (suc (suc (suc (suc levels)))) 54 11 refl)
    (maybe_tie schema k _ _ _ _ _ _ _ _ _ refl (list_tie schema k (suc (suc (suc (suc levels)))) 45 33 false _ refl (pa_data_tie schema k (suc (suc levels))))
    (required_tie schema k _ _ _ _ _ _ _ _ _ (text_tie schema k (suc (suc (suc (suc levels)))) 11 refl)
    (required_tie schema k _ _ _ _ _ _ _ _ _ (principal_name_tie schema k (suc (suc levels)))
    (required_tie schema k _ _ _ _ _ _ _ _ _ (tagged_tie schema k (suc (suc (suc (suc levels)))) 28 97 27 _ refl (ticket_tie schema k levels))
    (required_tie schema k _ _ _ _ _ _ _ _ _ (encrypted_data_tie schema k (suc (suc (suc levels))))
    (end_tie schema k _)))))))))

abbrev pub kdc_rep_as_octets : KdcRep → List ℕ
kdc_rep_as_octets v = sequence ((explicit 0 (integer_octets v.pvno) ++ explicit 1 (integer_octets v.msg_type) ++ optional (λ x. explicit 2 ((asn1_sequence_of pa_data_octets) x)) v.padata.0) ++ (explicit 3 (general_string v.crealm) ++ explicit 4 (principal_name_octets v.cname) ++ explicit 5 (tagged_ticket_octets v.ticket) ++ explicit 6 (encrypted_data_octets v.enc_part)))

pub kdc_rep_as_same : (v : KdcRep) → kdc_rep_as_octets v ≡ kdc_rep_as.enc v
kdc_rep_as_same v =
    let e2 = optional_same (λ y. ap (tlv 162) (ap (tlv 48) (flat_map_same (λ x0. (pa_data_same x0)) y))) v.padata.0 in
    let e4 = (principal_name_same v.cname) in
    let e5 = (ap (tlv 97) (ticket_same v.ticket)) in
    let e6 = (encrypted_data_same v.enc_part) in
    let whole : kdc_rep_as_octets v ≡ tlv 48 (tlv 160 (integer.enc v.pvno) ++ (tlv 161 (integer.enc v.msg_type) ++ (optional (λ x. tlv 162 ((sequence_of pa_data).enc x)) v.padata.0 ++ (tlv 163 (text.enc v.crealm) ++ (tlv 164 (principal_name.enc v.cname) ++ (tlv 165 ((tagged 97 ticket).enc v.ticket) ++ tlv 166 (encrypted_data.enc v.enc_part))))))) =
    rw (e2, e4, e5, e6) (simp append_assoc refl) in
    whole ∙ ap (λ (o : List ℕ). tlv 48 (tlv 160 (integer.enc v.pvno) ++ (tlv 161 (integer.enc v.msg_type) ++ (optional (λ x. tlv 162 ((sequence_of pa_data).enc x)) v.padata.0 ++ (tlv 163 (text.enc v.crealm) ++ (tlv 164 (principal_name.enc v.cname) ++ (tlv 165 ((tagged 97 ticket).enc v.ticket) ++ o))))))) (sym (append-nil (tlv 166 (encrypted_data.enc v.enc_part))))

abbrev pub kdc_rep_as_value : KdcRep → Type 0
kdc_rep_as_value v = (IsAny v.pvno × IsAny v.msg_type × IfSome v.padata.0 (AllByRecursion pa_data_value)) × (IsAscii v.crealm × principal_name_value v.cname × tagged_ticket_value v.ticket × encrypted_data_value v.enc_part)

pub kdc_rep_as_valid : (v : KdcRep) → kdc_rep_as_value v → kdc_rep_as.valid v
kdc_rep_as_valid v h = (h.0.0, (h.0.1, ((some_as {P = (AllByRecursion pa_data_value)} {Q = (sequence_of pa_data).valid} (λ y k. (all_as {P = pa_data_value} {Q = pa_data.valid} (λ x0 k0. (pa_data_valid x0 k0)) y k)) v.padata.0 h.0.2), (h.1.0, ((principal_name_valid v.cname h.1.1), ((ticket_valid v.ticket h.1.2.0), ((encrypted_data_valid v.enc_part h.1.3), tt)))))))

pub kdc_rep_as_right : (v : KdcRep) → kdc_rep_as.valid v → kdc_rep_as_value v
kdc_rep_as_right v h = ((h.0, h.1.0, (some_as {P = (sequence_of pa_data).valid} {Q = (AllByRecursion pa_data_value)} (λ y k. (all_as {P = pa_data.valid} {Q = pa_data_value} (λ x0 k0. (pa_data_right x0 k0)) y k)) v.padata.0 h.1.1.0)), (h.1.1.1.0, (principal_name_right v.cname h.1.1.1.1.0), ((ticket_right v.ticket h.1.1.1.1.1.0), lit≤ tt), (encrypted_data_right v.enc_part h.1.1.1.1.1.1.0)))

-- ---- KDC-REP (TGS)

abbrev pub kdc_rep_tgs_fields : Codec
kdc_rep_tgs_fields = tagged 48 (required 160 integer (required 161 integer (maybe 162 (sequence_of pa_data) (required 163 text (required 164 principal_name (required 165 (tagged 97 ticket) (required 166 encrypted_data end)))))))

abbrev pub kdc_rep_tgs_to : KdcRep → (kdc_rep_tgs_fields).value
kdc_rep_tgs_to v = (v.pvno, (v.msg_type, (v.padata.0, (v.crealm, (v.cname, (v.ticket, (v.enc_part, tt)))))))

abbrev pub kdc_rep_tgs_of : (kdc_rep_tgs_fields).value → KdcRep
kdc_rep_tgs_of x = record { pvno = x.0; msg_type = x.1.0; padata = record { 0 = x.1.1.0 }; crealm = x.1.1.1.0; cname = x.1.1.1.1.0; ticket = x.1.1.1.1.1.0; enc_part = x.1.1.1.1.1.1.0 }

abbrev pub kdc_rep_tgs : Codec
kdc_rep_tgs = coded kdc_rep_tgs_fields kdc_rep_tgs_to

pub kdc_rep_tgs_tie : (schema : Schema) (k : IsKerberos schema) (levels : ℕ) → Tie schema k (suc (suc (suc (suc (suc (suc levels)))))) 57 kdc_rep_tgs
unfolding cases fields shapes
kdc_rep_tgs_tie schema k levels =
    coded_tie schema k (suc (suc (suc (suc (suc (suc levels)))))) 57 kdc_rep_tgs_fields kdc_rep_tgs_to kdc_rep_tgs_of (λ x. refl)
    (sequence_tie schema k (suc (suc (suc (suc (suc levels))))) 57 48 68 7 _ _ refl (lit≤ tt) refl
    (required_tie schema k _ _ _ _ _ _ _ _ _ (number_tie schema k (suc (suc (suc (suc levels)))) 26 5 refl)
    (required_tie schema k _ _ _ _ _ _ _ _ _ (number_tie schema k (suc (suc (suc (suc levels)))) 56 13 refl)
    (maybe_tie schema k _ _ _ _ _ _ _ _ _ refl (list_tie schema k (suc (suc (suc (suc levels)))) 45 33 false _ refl (pa_data_tie schema k (suc (suc levels))))
    (required_tie schema k _ _ _ _ _ _ _ _ _ (text_tie schema k (suc (suc (suc (suc levels)))) 11 refl)
    (required_tie schema k _ _ _ _ _ _ _ _ _ (principal_name_tie schema k (suc (suc levels)))
    (required_tie schema k _ _ _ _ _ _ _ _ _ (tagged_tie schema k (suc (suc (suc (suc levels)))) 28 97 27 _ refl (ticket_tie schema k levels))
    (required_tie schema k _ _ _ _ _ _ _ _ _ (encrypted_data_tie schema k (suc (suc (suc levels))))
    (end_tie schema k _)))))))))

abbrev pub kdc_rep_tgs_octets : KdcRep → List ℕ
kdc_rep_tgs_octets v = sequence ((explicit 0 (integer_octets v.pvno) ++ explicit 1 (integer_octets v.msg_type) ++ optional (λ x. explicit 2 ((asn1_sequence_of pa_data_octets) x)) v.padata.0) ++ (explicit 3 (general_string v.crealm) ++ explicit 4 (principal_name_octets v.cname) ++ explicit 5 (tagged_ticket_octets v.ticket) ++ explicit 6 (encrypted_data_octets v.enc_part)))

pub kdc_rep_tgs_same : (v : KdcRep) → kdc_rep_tgs_octets v ≡ kdc_rep_tgs.enc v
kdc_rep_tgs_same v =
    let e2 = optional_same (λ y. ap (tlv 162) (ap (tlv 48) (flat_map_same (λ x0. (pa_data_same x0)) y))) v.padata.0 in
    let e4 = (principal_name_same v.cname) in
    let e5 = (ap (tlv 97) (ticket_same v.ticket)) in
    let e6 = (encrypted_data_same v.enc_part) in
    let whole : kdc_rep_tgs_octets v ≡ tlv 48 (tlv 160 (integer.enc v.pvno) ++ (tlv 161 (integer.enc v.msg_type) ++ (optional (λ x. tlv 162 ((sequence_of pa_data).enc x)) v.padata.0 ++ (tlv 163 (text.enc v.crealm) ++ (tlv 164 (principal_name.enc v.cname) ++ (tlv 165 ((tagged 97 ticket).enc v.ticket) ++ tlv 166 (encrypted_data.enc v.enc_part))))))) =
    rw (e2, e4, e5, e6) (simp append_assoc refl) in
    whole ∙ ap (λ (o : List ℕ). tlv 48 (tlv 160 (integer.enc v.pvno) ++ (tlv 161 (integer.enc v.msg_type) ++ (optional (λ x. tlv 162 ((sequence_of pa_data).enc x)) v.padata.0 ++ (tlv 163 (text.enc v.crealm) ++ (tlv 164 (principal_name.enc v.cname) ++ (tlv 165 ((tagged 97 ticket).enc v.ticket) ++ o))))))) (sym (append-nil (tlv 166 (encrypted_data.enc v.enc_part))))

abbrev pub kdc_rep_tgs_value : KdcRep → Type 0
kdc_rep_tgs_value v = (IsAny v.pvno × IsAny v.msg_type × IfSome v.padata.0 (AllByRecursion pa_data_value)) × (IsAscii v.crealm × principal_name_value v.cname × tagged_ticket_value v.ticket × encrypted_data_value v.enc_part)

pub kdc_rep_tgs_valid : (v : KdcRep) → kdc_rep_tgs_value v → kdc_rep_tgs.valid v
kdc_rep_tgs_valid v h = (h.0.0, (h.0.1, ((some_as {P = (AllByRecursion pa_data_value)} {Q = (sequence_of pa_data).valid} (λ y k. (all_as {P = pa_data_value} {Q = pa_data.valid} (λ x0 k0. (pa_data_valid x0 k0)) y k)) v.padata.0 h.0.2), (h.1.0, ((principal_name_valid v.cname h.1.1), ((ticket_valid v.ticket h.1.2.0), ((encrypted_data_valid v.enc_part h.1.3), tt)))))))

pub kdc_rep_tgs_right : (v : KdcRep) → kdc_rep_tgs.valid v → kdc_rep_tgs_value v
kdc_rep_tgs_right v h = ((h.0, h.1.0, (some_as {P = (sequence_of pa_data).valid} {Q = (AllByRecursion pa_data_value)} (λ y k. (all_as {P = pa_data.valid} {Q = pa_data_value} (λ x0 k0. (pa_data_right x0 k0)) y k)) v.padata.0 h.1.1.0)), (h.1.1.1.0, (principal_name_right v.cname h.1.1.1.1.0), ((ticket_right v.ticket h.1.1.1.1.1.0), lit≤ tt), (encrypted_data_right v.enc_part h.1.1.1.1.1.1.0)))

-- ---- EncKDCRepPart

abbrev pub enc_kdc_rep_part_fields : Codec
enc_kdc_rep_part_fields = tagged 48 (required 160 encryption_key (required 161 (sequence_of last_req) (required 162 integer (maybe 163 time (required 164 bits (required 165 time (maybe 166 time (required 167 time (maybe 168 time (required 169 text (required 170 principal_name (maybe 171 (sequence_of host_address) (maybe 172 (sequence_of pa_data) end)))))))))))))

abbrev pub enc_kdc_rep_part_to : EncKdcRepPart → (enc_kdc_rep_part_fields).value
enc_kdc_rep_part_to v = (v.key, (v.last_req, (v.nonce, (v.key_expiration.0, (v.flags, (v.auth_time, (v.start_time.0, (v.end_time, (v.renew_till.0, (v.srealm, (v.sname, (v.caddr.0, (v.encrypted_pa_data.0, tt)))))))))))))

abbrev pub enc_kdc_rep_part_of : (enc_kdc_rep_part_fields).value → EncKdcRepPart
enc_kdc_rep_part_of x = record { key = x.0; last_req = x.1.0; nonce = x.1.1.0; key_expiration = record { 0 = x.1.1.1.0 }; flags = x.1.1.1.1.0; auth_time = x.1.1.1.1.1.0; start_time = record { 0 = x.1.1.1.1.1.1.0 }; end_time = x.1.1.1.1.1.1.1.0; renew_till = record { 0 = x.1.1.1.1.1.1.1.1.0 }; srealm = x.1.1.1.1.1.1.1.1.1.0; sname = x.1.1.1.1.1.1.1.1.1.1.0; caddr = record { 0 = x.1.1.1.1.1.1.1.1.1.1.1.0 }; encrypted_pa_data = record { 0 = x.1.1.1.1.1.1.1.1.1.1.1.1.0 } }

abbrev pub enc_kdc_rep_part : Codec
enc_kdc_rep_part = coded enc_kdc_rep_part_fields enc_kdc_rep_part_to

pub enc_kdc_rep_part_tie : (schema : Schema) (k : IsKerberos schema) (levels : ℕ) → Tie schema k (suc (suc (suc (suc levels)))) 60 enc_kdc_rep_part
unfolding cases fields shapes
enc_kdc_rep_part_tie schema k levels =
    coded_tie schema k (suc (suc (suc (suc levels)))) 60 enc_kdc_rep_part_fields enc_kdc_rep_part_to enc_kdc_rep_part_of (λ x. refl)
    (sequence_tie schema k (suc (suc (suc levels))) 60 48 75 13 _ _ refl (lit≤ tt) refl
    (required_tie schema k _ _ _ _ _ _ _ _ _ (encryption_key_tie schema k (suc levels))
    (required_tie schema k _ _ _ _ _ _ _ _ _ (list_tie schema k (suc (suc levels)) 62 61 false _ refl (last_req_tie schema k levels))
    (required_tie schema k _ _ _ _ _ _ _ _ _ (integer_tie schema k (suc (suc levels)) 1 refl)
    (maybe_tie schema k _ _ _ _ _ _ _ _ _ refl (time_tie schema k (suc (suc levels)) 10 refl)
    (required_tie schema k _ _ _ _ _ _ _ _ _ (flags_tie schema k (suc (suc levels)) 5 refl)
    (required_tie schema k _ _ _ _ _ _ _ _ _ (time_tie schema k (suc (suc levels)) 10 refl)
    (maybe_tie schema k _ _ _ _ _ _ _ _ _ refl (time_tie schema k (suc (suc levels)) 10 refl)
    (required_tie schema k _ _ _ _ _ _ _ _ _ (time_tie schema k (suc (suc levels)) 10 refl)
    (maybe_tie schema k _ _ _ _ _ _ _ _ _ refl (time_tie schema k (suc (suc levels)) 10 refl)
    (required_tie schema k _ _ _ _ _ _ _ _ _ (text_tie schema k (suc (suc levels)) 11 refl)
    (required_tie schema k _ _ _ _ _ _ _ _ _ (principal_name_tie schema k levels)
    (maybe_tie schema k _ _ _ _ _ _ _ _ _ refl (list_tie schema k (suc (suc levels)) 17 16 true _ refl (host_address_tie schema k levels))
    (maybe_tie schema k _ _ _ _ _ _ _ _ _ refl (list_tie schema k (suc (suc levels)) 45 33 false _ refl (pa_data_tie schema k levels))
    (end_tie schema k _)))))))))))))))

abbrev pub enc_kdc_rep_part_octets : EncKdcRepPart → List ℕ
enc_kdc_rep_part_octets v = sequence ((explicit 0 (encryption_key_octets v.key) ++ explicit 1 ((asn1_sequence_of last_req_octets) v.last_req) ++ explicit 2 (integer_octets v.nonce) ++ optional (λ x. explicit 3 (generalized_time x)) v.key_expiration.0) ++ (explicit 4 (bit_string v.flags) ++ explicit 5 (generalized_time v.auth_time) ++ optional (λ x. explicit 6 (generalized_time x)) v.start_time.0 ++ explicit 7 (generalized_time v.end_time) ++ optional (λ x. explicit 8 (generalized_time x)) v.renew_till.0) ++ (explicit 9 (general_string v.srealm) ++ explicit 10 (principal_name_octets v.sname) ++ optional (λ x. explicit 11 ((asn1_sequence_of host_address_octets) x)) v.caddr.0 ++ optional (λ x. explicit 12 ((asn1_sequence_of pa_data_octets) x)) v.encrypted_pa_data.0))

enc_kdc_rep_part_in_a_row : (a0 a1 a2 a3 a4 a5 a6 a7 a8 a9 a10 a11 a12 : List ℕ) → (a0 ++ a1 ++ a2 ++ a3) ++ (a4 ++ a5 ++ a6 ++ a7 ++ a8) ++ (a9 ++ a10 ++ a11 ++ a12) ≡ a0 ++ (a1 ++ (a2 ++ (a3 ++ (a4 ++ (a5 ++ (a6 ++ (a7 ++ (a8 ++ (a9 ++ (a10 ++ (a11 ++ a12)))))))))))
enc_kdc_rep_part_in_a_row a0 a1 a2 a3 a4 a5 a6 a7 a8 a9 a10 a11 a12 = simp append_assoc refl

pub enc_kdc_rep_part_same : (v : EncKdcRepPart) → enc_kdc_rep_part_octets v ≡ enc_kdc_rep_part.enc v
enc_kdc_rep_part_same v =
    let e0 = (encryption_key_same v.key) in
    let e1 = (ap (tlv 48) (flat_map_same (λ x0. (last_req_same x0)) v.last_req)) in
    let e10 = (principal_name_same v.sname) in
    let e11 = optional_same (λ y. ap (tlv 171) (ap (tlv 48) (flat_map_same (λ x0. (host_address_same x0)) y))) v.caddr.0 in
    let e12 = optional_same (λ y. ap (tlv 172) (ap (tlv 48) (flat_map_same (λ x0. (pa_data_same x0)) y))) v.encrypted_pa_data.0 in
    let whole : enc_kdc_rep_part_octets v ≡ tlv 48 (tlv 160 (encryption_key.enc v.key) ++ (tlv 161 ((sequence_of last_req).enc v.last_req) ++ (tlv 162 (integer.enc v.nonce) ++ (optional (λ x. tlv 163 (time.enc x)) v.key_expiration.0 ++ (tlv 164 (bits.enc v.flags) ++ (tlv 165 (time.enc v.auth_time) ++ (optional (λ x. tlv 166 (time.enc x)) v.start_time.0 ++ (tlv 167 (time.enc v.end_time) ++ (optional (λ x. tlv 168 (time.enc x)) v.renew_till.0 ++ (tlv 169 (text.enc v.srealm) ++ (tlv 170 (principal_name.enc v.sname) ++ (optional (λ x. tlv 171 ((sequence_of host_address).enc x)) v.caddr.0 ++ optional (λ x. tlv 172 ((sequence_of pa_data).enc x)) v.encrypted_pa_data.0)))))))))))) =
    rw (e0, e1, e10, e11, e12) (ap (tlv 48) (enc_kdc_rep_part_in_a_row (tlv 160 (encryption_key.enc v.key)) (tlv 161 ((sequence_of last_req).enc v.last_req)) (tlv 162 (integer.enc v.nonce)) (optional (λ x. tlv 163 (time.enc x)) v.key_expiration.0) (tlv 164 (bits.enc v.flags)) (tlv 165 (time.enc v.auth_time)) (optional (λ x. tlv 166 (time.enc x)) v.start_time.0) (tlv 167 (time.enc v.end_time)) (optional (λ x. tlv 168 (time.enc x)) v.renew_till.0) (tlv 169 (text.enc v.srealm)) (tlv 170 (principal_name.enc v.sname)) (optional (λ x. tlv 171 ((sequence_of host_address).enc x)) v.caddr.0) (optional (λ x. tlv 172 ((sequence_of pa_data).enc x)) v.encrypted_pa_data.0))) in
    whole ∙ ap (λ (o : List ℕ). tlv 48 (tlv 160 (encryption_key.enc v.key) ++ (tlv 161 ((sequence_of last_req).enc v.last_req) ++ (tlv 162 (integer.enc v.nonce) ++ (optional (λ x. tlv 163 (time.enc x)) v.key_expiration.0 ++ (tlv 164 (bits.enc v.flags) ++ (tlv 165 (time.enc v.auth_time) ++ (optional (λ x. tlv 166 (time.enc x)) v.start_time.0 ++ (tlv 167 (time.enc v.end_time) ++ (optional (λ x. tlv 168 (time.enc x)) v.renew_till.0 ++ (tlv 169 (text.enc v.srealm) ++ (tlv 170 (principal_name.enc v.sname) ++ (optional (λ x. tlv 171 ((sequence_of host_address).enc x)) v.caddr.0 ++ o))))))))))))) (sym (append-nil (optional (λ x. tlv 172 ((sequence_of pa_data).enc x)) v.encrypted_pa_data.0)))

abbrev pub enc_kdc_rep_part_value : EncKdcRepPart → Type 0
enc_kdc_rep_part_value v = (encryption_key_value v.key × (AllByRecursion last_req_value) v.last_req × IsAny v.nonce × IfSome v.key_expiration.0 IsRealTime) × (IsBits v.flags × IsRealTime v.auth_time × IfSome v.start_time.0 IsRealTime × IsRealTime v.end_time × IfSome v.renew_till.0 IsRealTime) × (IsAscii v.srealm × principal_name_value v.sname × IfSome v.caddr.0 (AllByRecursion host_address_value) × IfSome v.encrypted_pa_data.0 (AllByRecursion pa_data_value))

pub enc_kdc_rep_part_valid : (v : EncKdcRepPart) → enc_kdc_rep_part_value v → enc_kdc_rep_part.valid v
enc_kdc_rep_part_valid v h = ((encryption_key_valid v.key h.0.0), ((all_as {P = last_req_value} {Q = last_req.valid} (λ x0 k0. (last_req_valid x0 k0)) v.last_req h.0.1), (h.0.2, (h.0.3, (h.1.0, (h.1.1, (h.1.2, (h.1.3, (h.1.4, (h.2.0, ((principal_name_valid v.sname h.2.1), ((some_as {P = (AllByRecursion host_address_value)} {Q = (sequence_of host_address).valid} (λ y k. (all_as {P = host_address_value} {Q = host_address.valid} (λ x0 k0. (host_address_valid x0 k0)) y k)) v.caddr.0 h.2.2), ((some_as {P = (AllByRecursion pa_data_value)} {Q = (sequence_of pa_data).valid} (λ y k. (all_as {P = pa_data_value} {Q = pa_data.valid} (λ x0 k0. (pa_data_valid x0 k0)) y k)) v.encrypted_pa_data.0 h.2.3), tt)))))))))))))

pub enc_kdc_rep_part_right : (v : EncKdcRepPart) → enc_kdc_rep_part.valid v → enc_kdc_rep_part_value v
enc_kdc_rep_part_right v h = (((encryption_key_right v.key h.0), (all_as {P = last_req.valid} {Q = last_req_value} (λ x0 k0. (last_req_right x0 k0)) v.last_req h.1.0), h.1.1.0, h.1.1.1.0), (h.1.1.1.1.0, h.1.1.1.1.1.0, h.1.1.1.1.1.1.0, h.1.1.1.1.1.1.1.0, h.1.1.1.1.1.1.1.1.0), (h.1.1.1.1.1.1.1.1.1.0, (principal_name_right v.sname h.1.1.1.1.1.1.1.1.1.1.0), (some_as {P = (sequence_of host_address).valid} {Q = (AllByRecursion host_address_value)} (λ y k. (all_as {P = host_address.valid} {Q = host_address_value} (λ x0 k0. (host_address_right x0 k0)) y k)) v.caddr.0 h.1.1.1.1.1.1.1.1.1.1.1.0), (some_as {P = (sequence_of pa_data).valid} {Q = (AllByRecursion pa_data_value)} (λ y k. (all_as {P = pa_data.valid} {Q = pa_data_value} (λ x0 k0. (pa_data_right x0 k0)) y k)) v.encrypted_pa_data.0 h.1.1.1.1.1.1.1.1.1.1.1.1.0)))

-- ---- ApReqInner

abbrev pub ap_req_fields : Codec
ap_req_fields = tagged 48 (required 160 integer (required 161 integer (required 162 bits (required 163 (tagged 97 ticket) (required 164 encrypted_data end)))))

abbrev pub ap_req_to : ApReqInner → (ap_req_fields).value
ap_req_to v = (v.pvno, (v.msg_type, (v.ap_options, (v.ticket, (v.authenticator, tt)))))

abbrev pub ap_req_of : (ap_req_fields).value → ApReqInner
ap_req_of x = record { pvno = x.0; msg_type = x.1.0; ap_options = x.1.1.0; ticket = x.1.1.1.0; authenticator = x.1.1.1.1.0 }

abbrev pub ap_req : Codec
ap_req = coded ap_req_fields ap_req_to

pub ap_req_tie : (schema : Schema) (k : IsKerberos schema) (levels : ℕ) → Tie schema k (suc (suc (suc (suc (suc (suc levels)))))) 64 ap_req
unfolding cases fields shapes
ap_req_tie schema k levels =
    coded_tie schema k (suc (suc (suc (suc (suc (suc levels)))))) 64 ap_req_fields ap_req_to ap_req_of (λ x. refl)
    (sequence_tie schema k (suc (suc (suc (suc (suc levels))))) 64 48 90 5 _ _ refl (lit≤ tt) refl
    (required_tie schema k _ _ _ _ _ _ _ _ _ (number_tie schema k (suc (suc (suc (suc levels)))) 26 5 refl)
    (required_tie schema k _ _ _ _ _ _ _ _ _ (number_tie schema k (suc (suc (suc (suc levels)))) 63 14 refl)
    (required_tie schema k _ _ _ _ _ _ _ _ _ (flags_tie schema k (suc (suc (suc (suc levels)))) 5 refl)
    (required_tie schema k _ _ _ _ _ _ _ _ _ (tagged_tie schema k (suc (suc (suc (suc levels)))) 28 97 27 _ refl (ticket_tie schema k levels))
    (required_tie schema k _ _ _ _ _ _ _ _ _ (encrypted_data_tie schema k (suc (suc (suc levels))))
    (end_tie schema k _)))))))

abbrev pub ap_req_octets : ApReqInner → List ℕ
ap_req_octets v = sequence (explicit 0 (integer_octets v.pvno) ++ explicit 1 (integer_octets v.msg_type) ++ explicit 2 (bit_string v.ap_options) ++ explicit 3 (tagged_ticket_octets v.ticket) ++ explicit 4 (encrypted_data_octets v.authenticator))

pub ap_req_same : (v : ApReqInner) → ap_req_octets v ≡ ap_req.enc v
ap_req_same v =
    let e3 = (ap (tlv 97) (ticket_same v.ticket)) in
    let e4 = (encrypted_data_same v.authenticator) in
    let whole : ap_req_octets v ≡ tlv 48 (tlv 160 (integer.enc v.pvno) ++ (tlv 161 (integer.enc v.msg_type) ++ (tlv 162 (bits.enc v.ap_options) ++ (tlv 163 ((tagged 97 ticket).enc v.ticket) ++ tlv 164 (encrypted_data.enc v.authenticator))))) =
    rw (e3, e4) (simp append_assoc refl) in
    whole ∙ ap (λ (o : List ℕ). tlv 48 (tlv 160 (integer.enc v.pvno) ++ (tlv 161 (integer.enc v.msg_type) ++ (tlv 162 (bits.enc v.ap_options) ++ (tlv 163 ((tagged 97 ticket).enc v.ticket) ++ o))))) (sym (append-nil (tlv 164 (encrypted_data.enc v.authenticator))))

abbrev pub ap_req_value : ApReqInner → Type 0
ap_req_value v = IsAny v.pvno × IsAny v.msg_type × IsBits v.ap_options × tagged_ticket_value v.ticket × encrypted_data_value v.authenticator

pub ap_req_valid : (v : ApReqInner) → ap_req_value v → ap_req.valid v
ap_req_valid v h = (h.0, (h.1, (h.2, ((ticket_valid v.ticket h.3.0), ((encrypted_data_valid v.authenticator h.4), tt)))))

pub ap_req_right : (v : ApReqInner) → ap_req.valid v → ap_req_value v
ap_req_right v h = (h.0, h.1.0, h.1.1.0, ((ticket_right v.ticket h.1.1.1.0), lit≤ tt), (encrypted_data_right v.authenticator h.1.1.1.1.0))

-- ---- ApRepInner

abbrev pub ap_rep_fields : Codec
ap_rep_fields = tagged 48 (required 160 integer (required 161 integer (required 162 encrypted_data end)))

abbrev pub ap_rep_to : ApRepInner → (ap_rep_fields).value
ap_rep_to v = (v.pvno, (v.msg_type, (v.enc_part, tt)))

abbrev pub ap_rep_of : (ap_rep_fields).value → ApRepInner
ap_rep_of x = record { pvno = x.0; msg_type = x.1.0; enc_part = x.1.1.0 }

abbrev pub ap_rep : Codec
ap_rep = coded ap_rep_fields ap_rep_to

pub ap_rep_tie : (schema : Schema) (k : IsKerberos schema) (levels : ℕ) → Tie schema k (suc (suc (suc levels))) 69 ap_rep
unfolding cases fields shapes
ap_rep_tie schema k levels =
    coded_tie schema k (suc (suc (suc levels))) 69 ap_rep_fields ap_rep_to ap_rep_of (λ x. refl)
    (sequence_tie schema k (suc (suc levels)) 69 48 104 3 _ _ refl (lit≤ tt) refl
    (required_tie schema k _ _ _ _ _ _ _ _ _ (number_tie schema k (suc levels) 26 5 refl)
    (required_tie schema k _ _ _ _ _ _ _ _ _ (number_tie schema k (suc levels) 68 15 refl)
    (required_tie schema k _ _ _ _ _ _ _ _ _ (encrypted_data_tie schema k levels)
    (end_tie schema k _)))))

abbrev pub ap_rep_octets : ApRepInner → List ℕ
ap_rep_octets v = sequence (explicit 0 (integer_octets v.pvno) ++ explicit 1 (integer_octets v.msg_type) ++ explicit 2 (encrypted_data_octets v.enc_part))

pub ap_rep_same : (v : ApRepInner) → ap_rep_octets v ≡ ap_rep.enc v
ap_rep_same v =
    let e2 = (encrypted_data_same v.enc_part) in
    let whole : ap_rep_octets v ≡ tlv 48 (tlv 160 (integer.enc v.pvno) ++ (tlv 161 (integer.enc v.msg_type) ++ tlv 162 (encrypted_data.enc v.enc_part))) =
    rw (e2) (simp append_assoc refl) in
    whole ∙ ap (λ (o : List ℕ). tlv 48 (tlv 160 (integer.enc v.pvno) ++ (tlv 161 (integer.enc v.msg_type) ++ o))) (sym (append-nil (tlv 162 (encrypted_data.enc v.enc_part))))

abbrev pub ap_rep_value : ApRepInner → Type 0
ap_rep_value v = IsAny v.pvno × IsAny v.msg_type × encrypted_data_value v.enc_part

pub ap_rep_valid : (v : ApRepInner) → ap_rep_value v → ap_rep.valid v
ap_rep_valid v h = (h.0, (h.1, ((encrypted_data_valid v.enc_part h.2), tt)))

pub ap_rep_right : (v : ApRepInner) → ap_rep.valid v → ap_rep_value v
ap_rep_right v h = (h.0, h.1.0, (encrypted_data_right v.enc_part h.1.1.0))

-- ---- KrbPrivInner

abbrev pub krb_priv_fields : Codec
krb_priv_fields = tagged 48 (required 160 integer (required 161 integer (required 163 encrypted_data end)))

abbrev pub krb_priv_to : KrbPrivInner → (krb_priv_fields).value
krb_priv_to v = (v.pvno, (v.msg_type, (v.enc_part, tt)))

abbrev pub krb_priv_of : (krb_priv_fields).value → KrbPrivInner
krb_priv_of x = record { pvno = x.0; msg_type = x.1.0; enc_part = x.1.1.0 }

abbrev pub krb_priv : Codec
krb_priv = coded krb_priv_fields krb_priv_to

pub krb_priv_tie : (schema : Schema) (k : IsKerberos schema) (levels : ℕ) → Tie schema k (suc (suc (suc levels))) 74 krb_priv
unfolding cases fields shapes
krb_priv_tie schema k levels =
    coded_tie schema k (suc (suc (suc levels))) 74 krb_priv_fields krb_priv_to krb_priv_of (λ x. refl)
    (sequence_tie schema k (suc (suc levels)) 74 48 111 3 _ _ refl (lit≤ tt) refl
    (required_tie schema k _ _ _ _ _ _ _ _ _ (number_tie schema k (suc levels) 26 5 refl)
    (required_tie schema k _ _ _ _ _ _ _ _ _ (number_tie schema k (suc levels) 73 21 refl)
    (required_tie schema k _ _ _ _ _ _ _ _ _ (encrypted_data_tie schema k levels)
    (end_tie schema k _)))))

abbrev pub krb_priv_octets : KrbPrivInner → List ℕ
krb_priv_octets v = sequence (explicit 0 (integer_octets v.pvno) ++ explicit 1 (integer_octets v.msg_type) ++ explicit 3 (encrypted_data_octets v.enc_part))

pub krb_priv_same : (v : KrbPrivInner) → krb_priv_octets v ≡ krb_priv.enc v
krb_priv_same v =
    let e2 = (encrypted_data_same v.enc_part) in
    let whole : krb_priv_octets v ≡ tlv 48 (tlv 160 (integer.enc v.pvno) ++ (tlv 161 (integer.enc v.msg_type) ++ tlv 163 (encrypted_data.enc v.enc_part))) =
    rw (e2) (simp append_assoc refl) in
    whole ∙ ap (λ (o : List ℕ). tlv 48 (tlv 160 (integer.enc v.pvno) ++ (tlv 161 (integer.enc v.msg_type) ++ o))) (sym (append-nil (tlv 163 (encrypted_data.enc v.enc_part))))

abbrev pub krb_priv_value : KrbPrivInner → Type 0
krb_priv_value v = IsAny v.pvno × IsAny v.msg_type × encrypted_data_value v.enc_part

pub krb_priv_valid : (v : KrbPrivInner) → krb_priv_value v → krb_priv.valid v
krb_priv_valid v h = (h.0, (h.1, ((encrypted_data_valid v.enc_part h.2), tt)))

pub krb_priv_right : (v : KrbPrivInner) → krb_priv.valid v → krb_priv_value v
krb_priv_right v h = (h.0, h.1.0, (encrypted_data_right v.enc_part h.1.1.0))

-- ---- KrbCredInner

abbrev pub krb_cred_fields : Codec
krb_cred_fields = tagged 48 (required 160 integer (required 161 integer (required 162 (sequence_of (tagged 97 ticket)) (required 163 encrypted_data end))))

abbrev pub krb_cred_to : KrbCredInner → (krb_cred_fields).value
krb_cred_to v = (v.pvno, (v.msg_type, (v.tickets, (v.enc_part, tt))))

abbrev pub krb_cred_of : (krb_cred_fields).value → KrbCredInner
krb_cred_of x = record { pvno = x.0; msg_type = x.1.0; tickets = x.1.1.0; enc_part = x.1.1.1.0 }

abbrev pub krb_cred : Codec
krb_cred = coded krb_cred_fields krb_cred_to

pub krb_cred_tie : (schema : Schema) (k : IsKerberos schema) (levels : ℕ) → Tie schema k (suc (suc (suc (suc (suc (suc (suc levels))))))) 79 krb_cred
unfolding cases fields shapes
krb_cred_tie schema k levels =
    coded_tie schema k (suc (suc (suc (suc (suc (suc (suc levels))))))) 79 krb_cred_fields krb_cred_to krb_cred_of (λ x. refl)
    (sequence_tie schema k (suc (suc (suc (suc (suc (suc levels)))))) 79 48 120 4 _ _ refl (lit≤ tt) refl
    (required_tie schema k _ _ _ _ _ _ _ _ _ (number_tie schema k (suc (suc (suc (suc (suc levels))))) 26 5 refl)
    (required_tie schema k _ _ _ _ _ _ _ _ _ (number_tie schema k (suc (suc (suc (suc (suc levels))))) 78 22 refl)
    (required_tie schema k _ _ _ _ _ _ _ _ _ (list_tie schema k (suc (suc (suc (suc (suc levels))))) 50 28 false _ refl (tagged_tie schema k (suc (suc (suc (suc levels)))) 28 97 27 _ refl (ticket_tie schema k levels)))
    (required_tie schema k _ _ _ _ _ _ _ _ _ (encrypted_data_tie schema k (suc (suc (suc (suc levels)))))
    (end_tie schema k _))))))

abbrev pub krb_cred_octets : KrbCredInner → List ℕ
krb_cred_octets v = sequence (explicit 0 (integer_octets v.pvno) ++ explicit 1 (integer_octets v.msg_type) ++ explicit 2 ((asn1_sequence_of tagged_ticket_octets) v.tickets) ++ explicit 3 (encrypted_data_octets v.enc_part))

pub krb_cred_same : (v : KrbCredInner) → krb_cred_octets v ≡ krb_cred.enc v
krb_cred_same v =
    let e2 = (ap (tlv 48) (flat_map_same (λ x0. (ap (tlv 97) (ticket_same x0))) v.tickets)) in
    let e3 = (encrypted_data_same v.enc_part) in
    let whole : krb_cred_octets v ≡ tlv 48 (tlv 160 (integer.enc v.pvno) ++ (tlv 161 (integer.enc v.msg_type) ++ (tlv 162 ((sequence_of (tagged 97 ticket)).enc v.tickets) ++ tlv 163 (encrypted_data.enc v.enc_part)))) =
    rw (e2, e3) (simp append_assoc refl) in
    whole ∙ ap (λ (o : List ℕ). tlv 48 (tlv 160 (integer.enc v.pvno) ++ (tlv 161 (integer.enc v.msg_type) ++ (tlv 162 ((sequence_of (tagged 97 ticket)).enc v.tickets) ++ o)))) (sym (append-nil (tlv 163 (encrypted_data.enc v.enc_part))))

abbrev pub krb_cred_value : KrbCredInner → Type 0
krb_cred_value v = IsAny v.pvno × IsAny v.msg_type × (AllByRecursion tagged_ticket_value) v.tickets × encrypted_data_value v.enc_part

pub krb_cred_valid : (v : KrbCredInner) → krb_cred_value v → krb_cred.valid v
krb_cred_valid v h = (h.0, (h.1, ((all_as {P = tagged_ticket_value} {Q = (tagged 97 ticket).valid} (λ x0 k0. (ticket_valid x0 k0.0)) v.tickets h.2), ((encrypted_data_valid v.enc_part h.3), tt))))

pub krb_cred_right : (v : KrbCredInner) → krb_cred.valid v → krb_cred_value v
krb_cred_right v h = (h.0, h.1.0, (all_as {P = (tagged 97 ticket).valid} {Q = tagged_ticket_value} (λ x0 k0. ((ticket_right x0 k0), lit≤ tt)) v.tickets h.1.1.0), (encrypted_data_right v.enc_part h.1.1.1.0))

-- ---- KrbErrorInner

abbrev pub krb_error_fields : Codec
krb_error_fields = tagged 48 (required 160 integer (required 161 integer (maybe 162 time (maybe 163 integer (required 164 time (required 165 integer (required 166 unsigned (maybe 167 text (maybe 168 principal_name (required 169 text (required 170 principal_name (maybe 171 text (maybe 172 octets end)))))))))))))

abbrev pub krb_error_to : KrbErrorInner → (krb_error_fields).value
krb_error_to v = (v.pvno, (v.msg_type, (v.ctime.0, (v.cusec.0, (v.stime, (v.susec, (v.error_code, (v.crealm.0, (v.cname.0, (v.realm, (v.sname, (v.e_text.0, (v.e_data.0, tt)))))))))))))

abbrev pub krb_error_of : (krb_error_fields).value → KrbErrorInner
krb_error_of x = record { pvno = x.0; msg_type = x.1.0; ctime = record { 0 = x.1.1.0 }; cusec = record { 0 = x.1.1.1.0 }; stime = x.1.1.1.1.0; susec = x.1.1.1.1.1.0; error_code = x.1.1.1.1.1.1.0; crealm = record { 0 = x.1.1.1.1.1.1.1.0 }; cname = record { 0 = x.1.1.1.1.1.1.1.1.0 }; realm = x.1.1.1.1.1.1.1.1.1.0; sname = x.1.1.1.1.1.1.1.1.1.1.0; e_text = record { 0 = x.1.1.1.1.1.1.1.1.1.1.1.0 }; e_data = record { 0 = x.1.1.1.1.1.1.1.1.1.1.1.1.0 } }

abbrev pub krb_error : Codec
krb_error = coded krb_error_fields krb_error_to

pub krb_error_tie : (schema : Schema) (k : IsKerberos schema) (levels : ℕ) → Tie schema k (suc (suc (suc (suc levels)))) 87 krb_error
unfolding cases fields shapes
krb_error_tie schema k levels =
    coded_tie schema k (suc (suc (suc (suc levels)))) 87 krb_error_fields krb_error_to krb_error_of (λ x. refl)
    (sequence_tie schema k (suc (suc (suc levels))) 87 48 141 13 _ _ refl (lit≤ tt) refl
    (required_tie schema k _ _ _ _ _ _ _ _ _ (number_tie schema k (suc (suc levels)) 26 5 refl)
    (required_tie schema k _ _ _ _ _ _ _ _ _ (number_tie schema k (suc (suc levels)) 85 30 refl)
    (maybe_tie schema k _ _ _ _ _ _ _ _ _ refl (time_tie schema k (suc (suc levels)) 10 refl)
    (maybe_tie schema k _ _ _ _ _ _ _ _ _ refl (microseconds_tie schema k (suc (suc levels)) 3 refl)
    (required_tie schema k _ _ _ _ _ _ _ _ _ (time_tie schema k (suc (suc levels)) 10 refl)
    (required_tie schema k _ _ _ _ _ _ _ _ _ (microseconds_tie schema k (suc (suc levels)) 3 refl)
    (required_tie schema k _ _ _ _ _ _ _ _ _ (unsigned_tie schema k (suc (suc levels)) 2 refl)
    (maybe_tie schema k _ _ _ _ _ _ _ _ _ refl (text_tie schema k (suc (suc levels)) 11 refl)
    (maybe_tie schema k _ _ _ _ _ _ _ _ _ refl (principal_name_tie schema k levels)
    (required_tie schema k _ _ _ _ _ _ _ _ _ (text_tie schema k (suc (suc levels)) 11 refl)
    (required_tie schema k _ _ _ _ _ _ _ _ _ (principal_name_tie schema k levels)
    (maybe_tie schema k _ _ _ _ _ _ _ _ _ refl (text_tie schema k (suc (suc levels)) 11 refl)
    (maybe_tie schema k _ _ _ _ _ _ _ _ _ refl (holding_tie schema k (suc (suc levels)) 86 15 2 refl (lit≤ tt))
    (end_tie schema k _)))))))))))))))

abbrev pub krb_error_octets : KrbErrorInner → List ℕ
krb_error_octets v = sequence ((explicit 0 (integer_octets v.pvno) ++ explicit 1 (integer_octets v.msg_type) ++ optional (λ x. explicit 2 (generalized_time x)) v.ctime.0 ++ optional (λ x. explicit 3 (integer_octets x)) v.cusec.0) ++ (explicit 4 (generalized_time v.stime) ++ explicit 5 (integer_octets v.susec) ++ explicit 6 (unsigned_octets v.error_code) ++ optional (λ x. explicit 7 (general_string x)) v.crealm.0 ++ optional (λ x. explicit 8 (principal_name_octets x)) v.cname.0) ++ (explicit 9 (general_string v.realm) ++ explicit 10 (principal_name_octets v.sname) ++ optional (λ x. explicit 11 (general_string x)) v.e_text.0 ++ optional (λ x. explicit 12 (octet_string x)) v.e_data.0))

pub krb_error_same : (v : KrbErrorInner) → krb_error_octets v ≡ krb_error.enc v
krb_error_same v =
    let e8 = optional_same (λ y. ap (tlv 168) (principal_name_same y)) v.cname.0 in
    let e10 = (principal_name_same v.sname) in
    let whole : krb_error_octets v ≡ tlv 48 (tlv 160 (integer.enc v.pvno) ++ (tlv 161 (integer.enc v.msg_type) ++ (optional (λ x. tlv 162 (time.enc x)) v.ctime.0 ++ (optional (λ x. tlv 163 (integer.enc x)) v.cusec.0 ++ (tlv 164 (time.enc v.stime) ++ (tlv 165 (integer.enc v.susec) ++ (tlv 166 (unsigned.enc v.error_code) ++ (optional (λ x. tlv 167 (text.enc x)) v.crealm.0 ++ (optional (λ x. tlv 168 (principal_name.enc x)) v.cname.0 ++ (tlv 169 (text.enc v.realm) ++ (tlv 170 (principal_name.enc v.sname) ++ (optional (λ x. tlv 171 (text.enc x)) v.e_text.0 ++ optional (λ x. tlv 172 (octets.enc x)) v.e_data.0)))))))))))) =
    rw (e8, e10) (simp append_assoc refl) in
    whole ∙ ap (λ (o : List ℕ). tlv 48 (tlv 160 (integer.enc v.pvno) ++ (tlv 161 (integer.enc v.msg_type) ++ (optional (λ x. tlv 162 (time.enc x)) v.ctime.0 ++ (optional (λ x. tlv 163 (integer.enc x)) v.cusec.0 ++ (tlv 164 (time.enc v.stime) ++ (tlv 165 (integer.enc v.susec) ++ (tlv 166 (unsigned.enc v.error_code) ++ (optional (λ x. tlv 167 (text.enc x)) v.crealm.0 ++ (optional (λ x. tlv 168 (principal_name.enc x)) v.cname.0 ++ (tlv 169 (text.enc v.realm) ++ (tlv 170 (principal_name.enc v.sname) ++ (optional (λ x. tlv 171 (text.enc x)) v.e_text.0 ++ o))))))))))))) (sym (append-nil (optional (λ x. tlv 172 (octets.enc x)) v.e_data.0)))

abbrev pub krb_error_value : KrbErrorInner → Type 0
krb_error_value v = (IsAny v.pvno × IsAny v.msg_type × IfSome v.ctime.0 IsRealTime × IfSome v.cusec.0 IsAny) × (IsRealTime v.stime × IsAny v.susec × IsUnsigned v.error_code × IfSome v.crealm.0 IsAscii × IfSome v.cname.0 principal_name_value) × (IsAscii v.realm × principal_name_value v.sname × IfSome v.e_text.0 IsAscii × IfSome v.e_data.0 IsOctets)

pub krb_error_valid : (v : KrbErrorInner) → krb_error_value v → krb_error.valid v
krb_error_valid v h = (h.0.0, (h.0.1, (h.0.2, (h.0.3, (h.1.0, (h.1.1, (h.1.2, (h.1.3, ((some_as {P = principal_name_value} {Q = principal_name.valid} (λ y k. (principal_name_valid y k)) v.cname.0 h.1.4), (h.2.0, ((principal_name_valid v.sname h.2.1), (h.2.2, (h.2.3, tt)))))))))))))

pub krb_error_right : (v : KrbErrorInner) → krb_error.valid v → krb_error_value v
krb_error_right v h = ((h.0, h.1.0, h.1.1.0, h.1.1.1.0), (h.1.1.1.1.0, h.1.1.1.1.1.0, h.1.1.1.1.1.1.0, h.1.1.1.1.1.1.1.0, (some_as {P = principal_name.valid} {Q = principal_name_value} (λ y k. (principal_name_right y k)) v.cname.0 h.1.1.1.1.1.1.1.1.0)), (h.1.1.1.1.1.1.1.1.1.0, (principal_name_right v.sname h.1.1.1.1.1.1.1.1.1.1.0), h.1.1.1.1.1.1.1.1.1.1.1.0, h.1.1.1.1.1.1.1.1.1.1.1.1.0))

-- ---- TGT-REQ

abbrev pub tgt_req_fields : Codec
tgt_req_fields = tagged 48 (required 160 integer (required 161 integer (required 162 principal_name end)))

abbrev pub tgt_req_to : TgtReq → (tgt_req_fields).value
tgt_req_to v = (v.pvno, (v.msg_type, (v.server_name, tt)))

abbrev pub tgt_req_of : (tgt_req_fields).value → TgtReq
tgt_req_of x = record { pvno = x.0; msg_type = x.1.0; server_name = x.1.1.0 }

abbrev pub tgt_req : Codec
tgt_req = coded tgt_req_fields tgt_req_to

pub tgt_req_tie : (schema : Schema) (k : IsKerberos schema) (levels : ℕ) → Tie schema k (suc (suc (suc (suc levels)))) 93 tgt_req
unfolding cases fields shapes
tgt_req_tie schema k levels =
    coded_tie schema k (suc (suc (suc (suc levels)))) 93 tgt_req_fields tgt_req_to tgt_req_of (λ x. refl)
    (sequence_tie schema k (suc (suc (suc levels))) 93 48 161 3 _ _ refl (lit≤ tt) refl
    (required_tie schema k _ _ _ _ _ _ _ _ _ (number_tie schema k (suc (suc levels)) 26 5 refl)
    (required_tie schema k _ _ _ _ _ _ _ _ _ (number_tie schema k (suc (suc levels)) 92 16 refl)
    (required_tie schema k _ _ _ _ _ _ _ _ _ (principal_name_tie schema k levels)
    (end_tie schema k _)))))

abbrev pub tgt_req_octets : TgtReq → List ℕ
tgt_req_octets v = sequence (explicit 0 (integer_octets v.pvno) ++ explicit 1 (integer_octets v.msg_type) ++ explicit 2 (principal_name_octets v.server_name))

pub tgt_req_same : (v : TgtReq) → tgt_req_octets v ≡ tgt_req.enc v
tgt_req_same v =
    let e2 = (principal_name_same v.server_name) in
    let whole : tgt_req_octets v ≡ tlv 48 (tlv 160 (integer.enc v.pvno) ++ (tlv 161 (integer.enc v.msg_type) ++ tlv 162 (principal_name.enc v.server_name))) =
    rw (e2) (simp append_assoc refl) in
    whole ∙ ap (λ (o : List ℕ). tlv 48 (tlv 160 (integer.enc v.pvno) ++ (tlv 161 (integer.enc v.msg_type) ++ o))) (sym (append-nil (tlv 162 (principal_name.enc v.server_name))))

abbrev pub tgt_req_value : TgtReq → Type 0
tgt_req_value v = IsAny v.pvno × IsAny v.msg_type × principal_name_value v.server_name

pub tgt_req_valid : (v : TgtReq) → tgt_req_value v → tgt_req.valid v
tgt_req_valid v h = (h.0, (h.1, ((principal_name_valid v.server_name h.2), tt)))

pub tgt_req_right : (v : TgtReq) → tgt_req.valid v → tgt_req_value v
tgt_req_right v h = (h.0, h.1.0, (principal_name_right v.server_name h.1.1.0))

-- ---- TGT-REP

abbrev pub tgt_rep_fields : Codec
tgt_rep_fields = tagged 48 (required 160 integer (required 161 integer (required 162 (tagged 97 ticket) end)))

abbrev pub tgt_rep_to : TgtRep → (tgt_rep_fields).value
tgt_rep_to v = (v.pvno, (v.msg_type, (v.ticket, tt)))

abbrev pub tgt_rep_of : (tgt_rep_fields).value → TgtRep
tgt_rep_of x = record { pvno = x.0; msg_type = x.1.0; ticket = x.1.1.0 }

abbrev pub tgt_rep : Codec
tgt_rep = coded tgt_rep_fields tgt_rep_to

pub tgt_rep_tie : (schema : Schema) (k : IsKerberos schema) (levels : ℕ) → Tie schema k (suc (suc (suc (suc (suc (suc levels)))))) 95 tgt_rep
unfolding cases fields shapes
tgt_rep_tie schema k levels =
    coded_tie schema k (suc (suc (suc (suc (suc (suc levels)))))) 95 tgt_rep_fields tgt_rep_to tgt_rep_of (λ x. refl)
    (sequence_tie schema k (suc (suc (suc (suc (suc levels))))) 95 48 164 3 _ _ refl (lit≤ tt) refl
    (required_tie schema k _ _ _ _ _ _ _ _ _ (number_tie schema k (suc (suc (suc (suc levels)))) 26 5 refl)
    (required_tie schema k _ _ _ _ _ _ _ _ _ (number_tie schema k (suc (suc (suc (suc levels)))) 94 17 refl)
    (required_tie schema k _ _ _ _ _ _ _ _ _ (tagged_tie schema k (suc (suc (suc (suc levels)))) 28 97 27 _ refl (ticket_tie schema k levels))
    (end_tie schema k _)))))

abbrev pub tgt_rep_octets : TgtRep → List ℕ
tgt_rep_octets v = sequence (explicit 0 (integer_octets v.pvno) ++ explicit 1 (integer_octets v.msg_type) ++ explicit 2 (tagged_ticket_octets v.ticket))

pub tgt_rep_same : (v : TgtRep) → tgt_rep_octets v ≡ tgt_rep.enc v
tgt_rep_same v =
    let e2 = (ap (tlv 97) (ticket_same v.ticket)) in
    let whole : tgt_rep_octets v ≡ tlv 48 (tlv 160 (integer.enc v.pvno) ++ (tlv 161 (integer.enc v.msg_type) ++ tlv 162 ((tagged 97 ticket).enc v.ticket))) =
    rw (e2) (simp append_assoc refl) in
    whole ∙ ap (λ (o : List ℕ). tlv 48 (tlv 160 (integer.enc v.pvno) ++ (tlv 161 (integer.enc v.msg_type) ++ o))) (sym (append-nil (tlv 162 ((tagged 97 ticket).enc v.ticket))))

abbrev pub tgt_rep_value : TgtRep → Type 0
tgt_rep_value v = IsAny v.pvno × IsAny v.msg_type × tagged_ticket_value v.ticket

pub tgt_rep_valid : (v : TgtRep) → tgt_rep_value v → tgt_rep.valid v
tgt_rep_valid v h = (h.0, (h.1, ((ticket_valid v.ticket h.2.0), tt)))

pub tgt_rep_right : (v : TgtRep) → tgt_rep.valid v → tgt_rep_value v
tgt_rep_right v h = (h.0, h.1.0, ((ticket_right v.ticket h.1.1.0), lit≤ tt))

-- ---- KDC-PROXY-MESSAGE

abbrev pub kdc_proxy_message_fields : Codec
kdc_proxy_message_fields = tagged 48 (required 160 octets (maybe 161 text (maybe 162 integer end)))

abbrev pub kdc_proxy_message_to : KdcProxyMessage → (kdc_proxy_message_fields).value
kdc_proxy_message_to v = (v.kerb_message, (v.target_domain.0, (v.dclocator_hint.0, tt)))

abbrev pub kdc_proxy_message_of : (kdc_proxy_message_fields).value → KdcProxyMessage
kdc_proxy_message_of x = record { kerb_message = x.0; target_domain = record { 0 = x.1.0 }; dclocator_hint = record { 0 = x.1.1.0 } }

abbrev pub kdc_proxy_message : Codec
kdc_proxy_message = coded kdc_proxy_message_fields kdc_proxy_message_to

pub kdc_proxy_message_tie : (schema : Schema) (k : IsKerberos schema) (levels : ℕ) → Tie schema k (suc (suc levels)) 96 kdc_proxy_message
unfolding cases fields shapes
kdc_proxy_message_tie schema k levels =
    coded_tie schema k (suc (suc levels)) 96 kdc_proxy_message_fields kdc_proxy_message_to kdc_proxy_message_of (λ x. refl)
    (sequence_tie schema k (suc levels) 96 48 167 3 _ _ refl (lit≤ tt) refl
    (required_tie schema k _ _ _ _ _ _ _ _ _ (octets_tie schema k levels 6 refl)
    (maybe_tie schema k _ _ _ _ _ _ _ _ _ refl (text_tie schema k levels 11 refl)
    (maybe_tie schema k _ _ _ _ _ _ _ _ _ refl (integer_tie schema k levels 1 refl)
    (end_tie schema k _)))))

abbrev pub kdc_proxy_message_octets : KdcProxyMessage → List ℕ
kdc_proxy_message_octets v = sequence (explicit 0 (octet_string v.kerb_message) ++ optional (λ x. explicit 1 (general_string x)) v.target_domain.0 ++ optional (λ x. explicit 2 (integer_octets x)) v.dclocator_hint.0)

pub kdc_proxy_message_same : (v : KdcProxyMessage) → kdc_proxy_message_octets v ≡ kdc_proxy_message.enc v
kdc_proxy_message_same v = simp (append_assoc, append-nil) refl

abbrev pub kdc_proxy_message_value : KdcProxyMessage → Type 0
kdc_proxy_message_value v = IsOctets v.kerb_message × IfSome v.target_domain.0 IsAscii × IfSome v.dclocator_hint.0 IsAny

pub kdc_proxy_message_valid : (v : KdcProxyMessage) → kdc_proxy_message_value v → kdc_proxy_message.valid v
kdc_proxy_message_valid v h = (h.0, (h.1, (h.2, tt)))

pub kdc_proxy_message_right : (v : KdcProxyMessage) → kdc_proxy_message.valid v → kdc_proxy_message_value v
kdc_proxy_message_right v h = (h.0, h.1.0, h.1.1.0)
