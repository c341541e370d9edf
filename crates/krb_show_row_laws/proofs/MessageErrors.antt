-- Messages as readers, and their first errors.
use Rattle.std.proofs.Common.{ℕ, suc, true, false, refl, lit≤}
use Rattle.krb_messages.specs.declared.messages.application.ApRepInner.{ApRepInner}
use Rattle.krb_messages.specs.declared.messages.application.ApReqInner.{ApReqInner}
use Rattle.krb_messages.specs.declared.messages.credentials.KrbCredInner.{KrbCredInner}
use Rattle.krb_messages.specs.declared.messages.errors.KrbErrorInner.{KrbErrorInner}
use Rattle.krb_messages.specs.declared.messages.private.KrbPrivInner.{KrbPrivInner}
use Rattle.krb_messages.specs.declared.messages.proxy.KdcProxyMessage.{KdcProxyMessage}
use Rattle.krb_messages.specs.declared.messages.replies.EncKdcRepPart.{EncKdcRepPart}
use Rattle.krb_messages.specs.declared.messages.replies.KdcRep.{KdcRep}
use Rattle.krb_messages.specs.declared.messages.requests.KdcReq.{KdcReq}
use Rattle.krb_messages.specs.declared.messages.requests.KdcReqBody.{KdcReqBody}
use Rattle.krb_messages.specs.declared.messages.user_to_user.TgtRep.{TgtRep}
use Rattle.krb_messages.specs.declared.messages.user_to_user.TgtReq.{TgtReq}
use Rattle.krb_schema.specs.declared.shape.Schema.{Schema}
use Rattle.krb_schema.specs.Named.{IsKerberos}
use Rattle.krb_schema.specs.Types.{cases, fields, shapes}
use Rattle.krb_show_row_laws.proofs.Readers.{Fields, Reader, application, bits, explicit, five, four, integer, maybe, octets, one, pair, sequence, sequence_of, text, time, triple, unsigned}
use Rattle.krb_show_row_laws.proofs.FaultRows.{FaultTie, application_refused, list_refused}
use Rattle.krb_show_row_laws.proofs.FaultFields.{five_refused, four_refused, maybe_refused, pair_refused, required_refused, sequence_refused, triple_refused}
use Rattle.krb_show_row_laws.proofs.FaultLeaves.{flags_refused, holding_refused, integer_refused, microseconds_refused, number_refused, octets_refused, text_refused, time_refused, unsigned_refused}
use Rattle.krb_show_row_laws.proofs.MessageRows.{kdc_req_as, kdc_req_as_tie, kdc_req_as_same, kdc_req_as_right, kdc_req_tgs, kdc_req_tgs_tie, kdc_req_tgs_same, kdc_req_tgs_right, kdc_req_body, kdc_req_body_tie, kdc_req_body_same, kdc_req_body_right, kdc_rep_as, kdc_rep_as_tie, kdc_rep_as_same, kdc_rep_as_right, kdc_rep_tgs, kdc_rep_tgs_tie, kdc_rep_tgs_same, kdc_rep_tgs_right, enc_kdc_rep_part, enc_kdc_rep_part_tie, enc_kdc_rep_part_same, enc_kdc_rep_part_right, ap_req, ap_req_tie, ap_req_same, ap_req_right, ap_rep, ap_rep_tie, ap_rep_same, ap_rep_right, krb_priv, krb_priv_tie, krb_priv_same, krb_priv_right, krb_cred, krb_cred_tie, krb_cred_same, krb_cred_right, krb_error, krb_error_tie, krb_error_same, krb_error_right, tgt_req, tgt_req_tie, tgt_req_same, tgt_req_right, tgt_rep, tgt_rep_tie, tgt_rep_same, tgt_rep_right, kdc_proxy_message, kdc_proxy_message_tie, kdc_proxy_message_same, kdc_proxy_message_right}
use Rattle.krb_show_row_laws.proofs.DataTypeErrors.{principal_name_reader, principal_name_refused, host_address_reader, host_address_refused, encrypted_data_reader, encrypted_data_refused, encryption_key_reader, encryption_key_refused, ticket_reader, ticket_refused, pa_data_reader, pa_data_refused, last_req_reader, last_req_refused}

-- ---- KDC-REQ-BODY

abbrev pub kdc_req_body_read : Fields
kdc_req_body_read = triple
    (four
    (one (explicit 160 bits))
    (maybe (explicit 161 principal_name_reader))
    (one (explicit 162 text))
    (maybe (explicit 163 principal_name_reader)))
    (four
    (maybe (explicit 164 time))
    (one (explicit 165 time))
    (maybe (explicit 166 time))
    (one (explicit 167 integer)))
    (four
    (one (explicit 168 (sequence_of integer)))
    (maybe (explicit 169 (sequence_of host_address_reader)))
    (maybe (explicit 170 encrypted_data_reader))
    (maybe (explicit 171 (sequence_of (application 1 ticket_reader)))))

abbrev pub kdc_req_body_parts : KdcReqBody → (kdc_req_body_read).value
kdc_req_body_parts v = ((v.kdc_options, v.cname, v.realm, v.sname), (v.from, v.till, v.rtime, v.nonce), (v.etype, v.addresses, v.enc_authorization_data, v.additional_tickets))

abbrev pub kdc_req_body_reader : Reader
kdc_req_body_reader = sequence kdc_req_body_read kdc_req_body_parts

pub kdc_req_body_refused : (schema : Schema) (k : IsKerberos schema) (levels : ℕ) → FaultTie schema k (suc (suc (suc (suc (suc (suc (suc levels))))))) 51 kdc_req_body_reader
unfolding cases fields shapes
kdc_req_body_refused schema k levels =
    sequence_refused schema k (suc (suc (suc (suc (suc (suc levels)))))) 51 49 12 _ kdc_req_body_read kdc_req_body_parts kdc_req_body (λ x. x) refl (lit≤ tt) refl
    (kdc_req_body_tie schema k levels) kdc_req_body_right kdc_req_body_same
    (triple_refused schema k _ _ _ _ _ _ _ _
    (four_refused schema k _ _ _ _ _ _ _ _ _ _
    (required_refused schema k _ _ _ _ _ _ _ _ (flags_refused schema k (suc (suc (suc (suc (suc levels))))) 5 refl))
    (maybe_refused schema k _ _ _ _ _ _ _ _ (principal_name_refused schema k (suc (suc (suc levels)))))
    (required_refused schema k _ _ _ _ _ _ _ _ (text_refused schema k (suc (suc (suc (suc (suc levels))))) 11 refl))
    (maybe_refused schema k _ _ _ _ _ _ _ _ (principal_name_refused schema k (suc (suc (suc levels))))))
    (four_refused schema k _ _ _ _ _ _ _ _ _ _
    (maybe_refused schema k _ _ _ _ _ _ _ _ (time_refused schema k (suc (suc (suc (suc (suc levels))))) 10 refl))
    (required_refused schema k _ _ _ _ _ _ _ _ (time_refused schema k (suc (suc (suc (suc (suc levels))))) 10 refl))
    (maybe_refused schema k _ _ _ _ _ _ _ _ (time_refused schema k (suc (suc (suc (suc (suc levels))))) 10 refl))
    (required_refused schema k _ _ _ _ _ _ _ _ (integer_refused schema k (suc (suc (suc (suc (suc levels))))) 1 refl)))
    (four_refused schema k _ _ _ _ _ _ _ _ _ _
    (required_refused schema k _ _ _ _ _ _ _ _ (list_refused schema k (suc (suc (suc (suc (suc levels))))) 49 1 false _ refl (integer_refused schema k (suc (suc (suc (suc levels)))) 1 refl)))
    (maybe_refused schema k _ _ _ _ _ _ _ _ (list_refused schema k (suc (suc (suc (suc (suc levels))))) 17 16 true _ refl (host_address_refused schema k (suc (suc (suc levels))))))
    (maybe_refused schema k _ _ _ _ _ _ _ _ (encrypted_data_refused schema k (suc (suc (suc (suc levels))))))
    (maybe_refused schema k _ _ _ _ _ _ _ _ (list_refused schema k (suc (suc (suc (suc (suc levels))))) 50 28 false _ refl (application_refused schema k (suc (suc (suc (suc levels)))) 28 1 27 _ refl (lit≤ tt) refl (ticket_refused schema k levels))))))

-- ---- KDC-REQ (AS)

abbrev pub kdc_req_as_read : Fields
kdc_req_as_read = four
    (one (explicit 161 integer))
    (one (explicit 162 integer))
    (maybe (explicit 163 (sequence_of pa_data_reader)))
    (one (explicit 164 kdc_req_body_reader))

abbrev pub kdc_req_as_parts : KdcReq → (kdc_req_as_read).value
kdc_req_as_parts v = (v.pvno, v.msg_type, v.padata, v.req_body)

abbrev pub kdc_req_as_reader : Reader
kdc_req_as_reader = sequence kdc_req_as_read kdc_req_as_parts

pub kdc_req_as_refused : (schema : Schema) (k : IsKerberos schema) (levels : ℕ) → FaultTie schema k (suc (suc (suc (suc (suc (suc (suc (suc levels)))))))) 46 kdc_req_as_reader
unfolding cases fields shapes
kdc_req_as_refused schema k levels =
    sequence_refused schema k (suc (suc (suc (suc (suc (suc (suc levels))))))) 46 41 4 _ kdc_req_as_read kdc_req_as_parts kdc_req_as (λ x. x) refl (lit≤ tt) refl
    (kdc_req_as_tie schema k levels) kdc_req_as_right kdc_req_as_same
    (four_refused schema k _ _ _ _ _ _ _ _ _ _
    (required_refused schema k _ _ _ _ _ _ _ _ (number_refused schema k (suc (suc (suc (suc (suc (suc levels)))))) 26 5 refl))
    (required_refused schema k _ _ _ _ _ _ _ _ (number_refused schema k (suc (suc (suc (suc (suc (suc levels)))))) 44 10 refl))
    (maybe_refused schema k _ _ _ _ _ _ _ _ (list_refused schema k (suc (suc (suc (suc (suc (suc levels)))))) 45 33 false _ refl (pa_data_refused schema k (suc (suc (suc (suc levels)))))))
    (required_refused schema k _ _ _ _ _ _ _ _ (kdc_req_body_refused schema k levels)))

-- ---- KDC-REQ (TGS)

abbrev pub kdc_req_tgs_read : Fields
kdc_req_tgs_read = four
    (one (explicit 161 integer))
    (one (explicit 162 integer))
    (maybe (explicit 163 (sequence_of pa_data_reader)))
    (one (explicit 164 kdc_req_body_reader))

abbrev pub kdc_req_tgs_parts : KdcReq → (kdc_req_tgs_read).value
kdc_req_tgs_parts v = (v.pvno, v.msg_type, v.padata, v.req_body)

abbrev pub kdc_req_tgs_reader : Reader
kdc_req_tgs_reader = sequence kdc_req_tgs_read kdc_req_tgs_parts

pub kdc_req_tgs_refused : (schema : Schema) (k : IsKerberos schema) (levels : ℕ) → FaultTie schema k (suc (suc (suc (suc (suc (suc (suc (suc levels)))))))) 48 kdc_req_tgs_reader
unfolding cases fields shapes
kdc_req_tgs_refused schema k levels =
    sequence_refused schema k (suc (suc (suc (suc (suc (suc (suc levels))))))) 48 45 4 _ kdc_req_tgs_read kdc_req_tgs_parts kdc_req_tgs (λ x. x) refl (lit≤ tt) refl
    (kdc_req_tgs_tie schema k levels) kdc_req_tgs_right kdc_req_tgs_same
    (four_refused schema k _ _ _ _ _ _ _ _ _ _
    (required_refused schema k _ _ _ _ _ _ _ _ (number_refused schema k (suc (suc (suc (suc (suc (suc levels)))))) 26 5 refl))
    (required_refused schema k _ _ _ _ _ _ _ _ (number_refused schema k (suc (suc (suc (suc (suc (suc levels)))))) 47 12 refl))
    (maybe_refused schema k _ _ _ _ _ _ _ _ (list_refused schema k (suc (suc (suc (suc (suc (suc levels)))))) 45 33 false _ refl (pa_data_refused schema k (suc (suc (suc (suc levels)))))))
    (required_refused schema k _ _ _ _ _ _ _ _ (kdc_req_body_refused schema k levels)))

-- ---- KDC-REP (AS)

abbrev pub kdc_rep_as_read : Fields
kdc_rep_as_read = pair
    (triple
    (one (explicit 160 integer))
    (one (explicit 161 integer))
    (maybe (explicit 162 (sequence_of pa_data_reader))))
    (four
    (one (explicit 163 text))
    (one (explicit 164 principal_name_reader))
    (one (explicit 165 (application 1 ticket_reader)))
    (one (explicit 166 encrypted_data_reader)))

abbrev pub kdc_rep_as_parts : KdcRep → (kdc_rep_as_read).value
kdc_rep_as_parts v = ((v.pvno, v.msg_type, v.padata), (v.crealm, v.cname, v.ticket, v.enc_part))

abbrev pub kdc_rep_as_reader : Reader
kdc_rep_as_reader = sequence kdc_rep_as_read kdc_rep_as_parts

pub kdc_rep_as_refused : (schema : Schema) (k : IsKerberos schema) (levels : ℕ) → FaultTie schema k (suc (suc (suc (suc (suc (suc levels)))))) 55 kdc_rep_as_reader
unfolding cases fields shapes
kdc_rep_as_refused schema k levels =
    sequence_refused schema k (suc (suc (suc (suc (suc levels))))) 55 61 7 _ kdc_rep_as_read kdc_rep_as_parts kdc_rep_as (λ x. x) refl (lit≤ tt) refl
    (kdc_rep_as_tie schema k levels) kdc_rep_as_right kdc_rep_as_same
    (pair_refused schema k _ _ _ _ _ _
    (triple_refused schema k _ _ _ _ _ _ _ _
    (required_refused schema k _ _ _ _ _ _ _ _ (number_refused schema k (suc (suc (suc (suc levels)))) 26 5 refl))
    (required_refused schema k _ _ _ _ _ _ _ _ (number_refused schema k (suc (suc (suc (suc levels)))) 54 11 refl))
    (maybe_refused schema k _ _ _ _ _ _ _ _ (list_refused schema k (suc (suc (suc (suc levels)))) 45 33 false _ refl (pa_data_refused schema k (suc (suc levels))))))
    (four_refused schema k _ _ _ _ _ _ _ _ _ _
    (required_refused schema k _ _ _ _ _ _ _ _ (text_refused schema k (suc (suc (suc (suc levels)))) 11 refl))
    (required_refused schema k _ _ _ _ _ _ _ _ (principal_name_refused schema k (suc (suc levels))))
    (required_refused schema k _ _ _ _ _ _ _ _ (application_refused schema k (suc (suc (suc (suc levels)))) 28 1 27 _ refl (lit≤ tt) refl (ticket_refused schema k levels)))
    (required_refused schema k _ _ _ _ _ _ _ _ (encrypted_data_refused schema k (suc (suc (suc levels)))))))

-- ---- KDC-REP (TGS)

abbrev pub kdc_rep_tgs_read : Fields
kdc_rep_tgs_read = pair
    (triple
    (one (explicit 160 integer))
    (one (explicit 161 integer))
    (maybe (explicit 162 (sequence_of pa_data_reader))))
    (four
    (one (explicit 163 text))
    (one (explicit 164 principal_name_reader))
    (one (explicit 165 (application 1 ticket_reader)))
    (one (explicit 166 encrypted_data_reader)))

abbrev pub kdc_rep_tgs_parts : KdcRep → (kdc_rep_tgs_read).value
kdc_rep_tgs_parts v = ((v.pvno, v.msg_type, v.padata), (v.crealm, v.cname, v.ticket, v.enc_part))

abbrev pub kdc_rep_tgs_reader : Reader
kdc_rep_tgs_reader = sequence kdc_rep_tgs_read kdc_rep_tgs_parts

pub kdc_rep_tgs_refused : (schema : Schema) (k : IsKerberos schema) (levels : ℕ) → FaultTie schema k (suc (suc (suc (suc (suc (suc levels)))))) 57 kdc_rep_tgs_reader
unfolding cases fields shapes
kdc_rep_tgs_refused schema k levels =
    sequence_refused schema k (suc (suc (suc (suc (suc levels))))) 57 68 7 _ kdc_rep_tgs_read kdc_rep_tgs_parts kdc_rep_tgs (λ x. x) refl (lit≤ tt) refl
    (kdc_rep_tgs_tie schema k levels) kdc_rep_tgs_right kdc_rep_tgs_same
    (pair_refused schema k _ _ _ _ _ _
    (triple_refused schema k _ _ _ _ _ _ _ _
    (required_refused schema k _ _ _ _ _ _ _ _ (number_refused schema k (suc (suc (suc (suc levels)))) 26 5 refl))
    (required_refused schema k _ _ _ _ _ _ _ _ (number_refused schema k (suc (suc (suc (suc levels)))) 56 13 refl))
    (maybe_refused schema k _ _ _ _ _ _ _ _ (list_refused schema k (suc (suc (suc (suc levels)))) 45 33 false _ refl (pa_data_refused schema k (suc (suc levels))))))
    (four_refused schema k _ _ _ _ _ _ _ _ _ _
    (required_refused schema k _ _ _ _ _ _ _ _ (text_refused schema k (suc (suc (suc (suc levels)))) 11 refl))
    (required_refused schema k _ _ _ _ _ _ _ _ (principal_name_refused schema k (suc (suc levels))))
    (required_refused schema k _ _ _ _ _ _ _ _ (application_refused schema k (suc (suc (suc (suc levels)))) 28 1 27 _ refl (lit≤ tt) refl (ticket_refused schema k levels)))
    (required_refused schema k _ _ _ _ _ _ _ _ (encrypted_data_refused schema k (suc (suc (suc levels)))))))

-- ---- EncKDCRepPart

abbrev pub enc_kdc_rep_part_read : Fields
enc_kdc_rep_part_read = triple
    (four
    (one (explicit 160 encryption_key_reader))
    (one (explicit 161 (sequence_of last_req_reader)))
    (one (explicit 162 integer))
    (maybe (explicit 163 time)))
    (five
    (one (explicit 164 bits))
    (one (explicit 165 time))
    (maybe (explicit 166 time))
    (one (explicit 167 time))
    (maybe (explicit 168 time)))
    (four
    (one (explicit 169 text))
    (one (explicit 170 principal_name_reader))
    (maybe (explicit 171 (sequence_of host_address_reader)))
    (maybe (explicit 172 (sequence_of pa_data_reader))))

abbrev pub enc_kdc_rep_part_parts : EncKdcRepPart → (enc_kdc_rep_part_read).value
enc_kdc_rep_part_parts v = ((v.key, v.last_req, v.nonce, v.key_expiration), (v.flags, v.auth_time, v.start_time, v.end_time, v.renew_till), (v.srealm, v.sname, v.caddr, v.encrypted_pa_data))

abbrev pub enc_kdc_rep_part_reader : Reader
enc_kdc_rep_part_reader = sequence enc_kdc_rep_part_read enc_kdc_rep_part_parts

pub enc_kdc_rep_part_refused : (schema : Schema) (k : IsKerberos schema) (levels : ℕ) → FaultTie schema k (suc (suc (suc (suc levels)))) 60 enc_kdc_rep_part_reader
unfolding cases fields shapes
enc_kdc_rep_part_refused schema k levels =
    sequence_refused schema k (suc (suc (suc levels))) 60 75 13 _ enc_kdc_rep_part_read enc_kdc_rep_part_parts enc_kdc_rep_part (λ x. x) refl (lit≤ tt) refl
    (enc_kdc_rep_part_tie schema k levels) enc_kdc_rep_part_right enc_kdc_rep_part_same
    (triple_refused schema k _ _ _ _ _ _ _ _
    (four_refused schema k _ _ _ _ _ _ _ _ _ _
    (required_refused schema k _ _ _ _ _ _ _ _ (encryption_key_refused schema k (suc levels)))
    (required_refused schema k _ _ _ _ _ _ _ _ (list_refused schema k (suc (suc levels)) 62 61 false _ refl (last_req_refused schema k levels)))
    (required_refused schema k _ _ _ _ _ _ _ _ (integer_refused schema k (suc (suc levels)) 1 refl))
    (maybe_refused schema k _ _ _ _ _ _ _ _ (time_refused schema k (suc (suc levels)) 10 refl)))
    (five_refused schema k _ _ _ _ _ _ _ _ _ _ _ _
    (required_refused schema k _ _ _ _ _ _ _ _ (flags_refused schema k (suc (suc levels)) 5 refl))
    (required_refused schema k _ _ _ _ _ _ _ _ (time_refused schema k (suc (suc levels)) 10 refl))
    (maybe_refused schema k _ _ _ _ _ _ _ _ (time_refused schema k (suc (suc levels)) 10 refl))
    (required_refused schema k _ _ _ _ _ _ _ _ (time_refused schema k (suc (suc levels)) 10 refl))
    (maybe_refused schema k _ _ _ _ _ _ _ _ (time_refused schema k (suc (suc levels)) 10 refl)))
    (four_refused schema k _ _ _ _ _ _ _ _ _ _
    (required_refused schema k _ _ _ _ _ _ _ _ (text_refused schema k (suc (suc levels)) 11 refl))
    (required_refused schema k _ _ _ _ _ _ _ _ (principal_name_refused schema k levels))
    (maybe_refused schema k _ _ _ _ _ _ _ _ (list_refused schema k (suc (suc levels)) 17 16 true _ refl (host_address_refused schema k levels)))
    (maybe_refused schema k _ _ _ _ _ _ _ _ (list_refused schema k (suc (suc levels)) 45 33 false _ refl (pa_data_refused schema k levels)))))

-- ---- ApReqInner

abbrev pub ap_req_read : Fields
ap_req_read = five
    (one (explicit 160 integer))
    (one (explicit 161 integer))
    (one (explicit 162 bits))
    (one (explicit 163 (application 1 ticket_reader)))
    (one (explicit 164 encrypted_data_reader))

abbrev pub ap_req_parts : ApReqInner → (ap_req_read).value
ap_req_parts v = (v.pvno, v.msg_type, v.ap_options, v.ticket, v.authenticator)

abbrev pub ap_req_reader : Reader
ap_req_reader = sequence ap_req_read ap_req_parts

pub ap_req_refused : (schema : Schema) (k : IsKerberos schema) (levels : ℕ) → FaultTie schema k (suc (suc (suc (suc (suc (suc levels)))))) 64 ap_req_reader
unfolding cases fields shapes
ap_req_refused schema k levels =
    sequence_refused schema k (suc (suc (suc (suc (suc levels))))) 64 90 5 _ ap_req_read ap_req_parts ap_req (λ x. x) refl (lit≤ tt) refl
    (ap_req_tie schema k levels) ap_req_right ap_req_same
    (five_refused schema k _ _ _ _ _ _ _ _ _ _ _ _
    (required_refused schema k _ _ _ _ _ _ _ _ (number_refused schema k (suc (suc (suc (suc levels)))) 26 5 refl))
    (required_refused schema k _ _ _ _ _ _ _ _ (number_refused schema k (suc (suc (suc (suc levels)))) 63 14 refl))
    (required_refused schema k _ _ _ _ _ _ _ _ (flags_refused schema k (suc (suc (suc (suc levels)))) 5 refl))
    (required_refused schema k _ _ _ _ _ _ _ _ (application_refused schema k (suc (suc (suc (suc levels)))) 28 1 27 _ refl (lit≤ tt) refl (ticket_refused schema k levels)))
    (required_refused schema k _ _ _ _ _ _ _ _ (encrypted_data_refused schema k (suc (suc (suc levels))))))

-- ---- ApRepInner

abbrev pub ap_rep_read : Fields
ap_rep_read = triple (one (explicit 160 integer)) (one (explicit 161 integer)) (one (explicit 162 encrypted_data_reader))

abbrev pub ap_rep_parts : ApRepInner → (ap_rep_read).value
ap_rep_parts v = (v.pvno, v.msg_type, v.enc_part)

abbrev pub ap_rep_reader : Reader
ap_rep_reader = sequence ap_rep_read ap_rep_parts

pub ap_rep_refused : (schema : Schema) (k : IsKerberos schema) (levels : ℕ) → FaultTie schema k (suc (suc (suc levels))) 69 ap_rep_reader
unfolding cases fields shapes
ap_rep_refused schema k levels =
    sequence_refused schema k (suc (suc levels)) 69 104 3 _ ap_rep_read ap_rep_parts ap_rep (λ x. x) refl (lit≤ tt) refl
    (ap_rep_tie schema k levels) ap_rep_right ap_rep_same
    (triple_refused schema k _ _ _ _ _ _ _ _
    (required_refused schema k _ _ _ _ _ _ _ _ (number_refused schema k (suc levels) 26 5 refl))
    (required_refused schema k _ _ _ _ _ _ _ _ (number_refused schema k (suc levels) 68 15 refl))
    (required_refused schema k _ _ _ _ _ _ _ _ (encrypted_data_refused schema k levels)))

-- ---- KrbPrivInner

abbrev pub krb_priv_read : Fields
krb_priv_read = triple (one (explicit 160 integer)) (one (explicit 161 integer)) (one (explicit 163 encrypted_data_reader))

abbrev pub krb_priv_parts : KrbPrivInner → (krb_priv_read).value
krb_priv_parts v = (v.pvno, v.msg_type, v.enc_part)

abbrev pub krb_priv_reader : Reader
krb_priv_reader = sequence krb_priv_read krb_priv_parts

pub krb_priv_refused : (schema : Schema) (k : IsKerberos schema) (levels : ℕ) → FaultTie schema k (suc (suc (suc levels))) 74 krb_priv_reader
unfolding cases fields shapes
krb_priv_refused schema k levels =
    sequence_refused schema k (suc (suc levels)) 74 111 3 _ krb_priv_read krb_priv_parts krb_priv (λ x. x) refl (lit≤ tt) refl
    (krb_priv_tie schema k levels) krb_priv_right krb_priv_same
    (triple_refused schema k _ _ _ _ _ _ _ _
    (required_refused schema k _ _ _ _ _ _ _ _ (number_refused schema k (suc levels) 26 5 refl))
    (required_refused schema k _ _ _ _ _ _ _ _ (number_refused schema k (suc levels) 73 21 refl))
    (required_refused schema k _ _ _ _ _ _ _ _ (encrypted_data_refused schema k levels)))

-- ---- KrbCredInner

abbrev pub krb_cred_read : Fields
krb_cred_read = four
    (one (explicit 160 integer))
    (one (explicit 161 integer))
    (one (explicit 162 (sequence_of (application 1 ticket_reader))))
    (one (explicit 163 encrypted_data_reader))

abbrev pub krb_cred_parts : KrbCredInner → (krb_cred_read).value
krb_cred_parts v = (v.pvno, v.msg_type, v.tickets, v.enc_part)

abbrev pub krb_cred_reader : Reader
krb_cred_reader = sequence krb_cred_read krb_cred_parts

pub krb_cred_refused : (schema : Schema) (k : IsKerberos schema) (levels : ℕ) → FaultTie schema k (suc (suc (suc (suc (suc (suc (suc levels))))))) 79 krb_cred_reader
unfolding cases fields shapes
krb_cred_refused schema k levels =
    sequence_refused schema k (suc (suc (suc (suc (suc (suc levels)))))) 79 120 4 _ krb_cred_read krb_cred_parts krb_cred (λ x. x) refl (lit≤ tt) refl
    (krb_cred_tie schema k levels) krb_cred_right krb_cred_same
    (four_refused schema k _ _ _ _ _ _ _ _ _ _
    (required_refused schema k _ _ _ _ _ _ _ _ (number_refused schema k (suc (suc (suc (suc (suc levels))))) 26 5 refl))
    (required_refused schema k _ _ _ _ _ _ _ _ (number_refused schema k (suc (suc (suc (suc (suc levels))))) 78 22 refl))
    (required_refused schema k _ _ _ _ _ _ _ _ (list_refused schema k (suc (suc (suc (suc (suc levels))))) 50 28 false _ refl (application_refused schema k (suc (suc (suc (suc levels)))) 28 1 27 _ refl (lit≤ tt) refl (ticket_refused schema k levels))))
    (required_refused schema k _ _ _ _ _ _ _ _ (encrypted_data_refused schema k (suc (suc (suc (suc levels)))))))

-- ---- KrbErrorInner

abbrev pub krb_error_read : Fields
krb_error_read = triple
    (four
    (one (explicit 160 integer))
    (one (explicit 161 integer))
    (maybe (explicit 162 time))
    (maybe (explicit 163 integer)))
    (five
    (one (explicit 164 time))
    (one (explicit 165 integer))
    (one (explicit 166 unsigned))
    (maybe (explicit 167 text))
    (maybe (explicit 168 principal_name_reader)))
    (four
    (one (explicit 169 text))
    (one (explicit 170 principal_name_reader))
    (maybe (explicit 171 text))
    (maybe (explicit 172 octets)))

abbrev pub krb_error_parts : KrbErrorInner → (krb_error_read).value
krb_error_parts v = ((v.pvno, v.msg_type, v.ctime, v.cusec), (v.stime, v.susec, v.error_code, v.crealm, v.cname), (v.realm, v.sname, v.e_text, v.e_data))

abbrev pub krb_error_reader : Reader
krb_error_reader = sequence krb_error_read krb_error_parts

pub krb_error_refused : (schema : Schema) (k : IsKerberos schema) (levels : ℕ) → FaultTie schema k (suc (suc (suc (suc levels)))) 87 krb_error_reader
unfolding cases fields shapes
krb_error_refused schema k levels =
    sequence_refused schema k (suc (suc (suc levels))) 87 141 13 _ krb_error_read krb_error_parts krb_error (λ x. x) refl (lit≤ tt) refl
    (krb_error_tie schema k levels) krb_error_right krb_error_same
    (triple_refused schema k _ _ _ _ _ _ _ _
    (four_refused schema k _ _ _ _ _ _ _ _ _ _
    (required_refused schema k _ _ _ _ _ _ _ _ (number_refused schema k (suc (suc levels)) 26 5 refl))
    (required_refused schema k _ _ _ _ _ _ _ _ (number_refused schema k (suc (suc levels)) 85 30 refl))
    (maybe_refused schema k _ _ _ _ _ _ _ _ (time_refused schema k (suc (suc levels)) 10 refl))
    (maybe_refused schema k _ _ _ _ _ _ _ _ (microseconds_refused schema k (suc (suc levels)) 3 refl)))
    (five_refused schema k _ _ _ _ _ _ _ _ _ _ _ _
    (required_refused schema k _ _ _ _ _ _ _ _ (time_refused schema k (suc (suc levels)) 10 refl))
    (required_refused schema k _ _ _ _ _ _ _ _ (microseconds_refused schema k (suc (suc levels)) 3 refl))
    (required_refused schema k _ _ _ _ _ _ _ _ (unsigned_refused schema k (suc (suc levels)) 2 refl))
    (maybe_refused schema k _ _ _ _ _ _ _ _ (text_refused schema k (suc (suc levels)) 11 refl))
    (maybe_refused schema k _ _ _ _ _ _ _ _ (principal_name_refused schema k levels)))
    (four_refused schema k _ _ _ _ _ _ _ _ _ _
    (required_refused schema k _ _ _ _ _ _ _ _ (text_refused schema k (suc (suc levels)) 11 refl))
    (required_refused schema k _ _ _ _ _ _ _ _ (principal_name_refused schema k levels))
    (maybe_refused schema k _ _ _ _ _ _ _ _ (text_refused schema k (suc (suc levels)) 11 refl))
    (maybe_refused schema k _ _ _ _ _ _ _ _ (holding_refused schema k (suc (suc levels)) 86 15 2 refl (lit≤ tt)))))

-- ---- TGT-REQ

abbrev pub tgt_req_read : Fields
tgt_req_read = triple (one (explicit 160 integer)) (one (explicit 161 integer)) (one (explicit 162 principal_name_reader))

abbrev pub tgt_req_parts : TgtReq → (tgt_req_read).value
tgt_req_parts v = (v.pvno, v.msg_type, v.server_name)

abbrev pub tgt_req_reader : Reader
tgt_req_reader = sequence tgt_req_read tgt_req_parts

pub tgt_req_refused : (schema : Schema) (k : IsKerberos schema) (levels : ℕ) → FaultTie schema k (suc (suc (suc (suc levels)))) 93 tgt_req_reader
unfolding cases fields shapes
tgt_req_refused schema k levels =
    sequence_refused schema k (suc (suc (suc levels))) 93 161 3 _ tgt_req_read tgt_req_parts tgt_req (λ x. x) refl (lit≤ tt) refl
    (tgt_req_tie schema k levels) tgt_req_right tgt_req_same
    (triple_refused schema k _ _ _ _ _ _ _ _
    (required_refused schema k _ _ _ _ _ _ _ _ (number_refused schema k (suc (suc levels)) 26 5 refl))
    (required_refused schema k _ _ _ _ _ _ _ _ (number_refused schema k (suc (suc levels)) 92 16 refl))
    (required_refused schema k _ _ _ _ _ _ _ _ (principal_name_refused schema k levels)))

-- ---- TGT-REP

abbrev pub tgt_rep_read : Fields
tgt_rep_read = triple (one (explicit 160 integer)) (one (explicit 161 integer)) (one (explicit 162 (application 1 ticket_reader)))

abbrev pub tgt_rep_parts : TgtRep → (tgt_rep_read).value
tgt_rep_parts v = (v.pvno, v.msg_type, v.ticket)

abbrev pub tgt_rep_reader : Reader
tgt_rep_reader = sequence tgt_rep_read tgt_rep_parts

pub tgt_rep_refused : (schema : Schema) (k : IsKerberos schema) (levels : ℕ) → FaultTie schema k (suc (suc (suc (suc (suc (suc levels)))))) 95 tgt_rep_reader
unfolding cases fields shapes
tgt_rep_refused schema k levels =
    sequence_refused schema k (suc (suc (suc (suc (suc levels))))) 95 164 3 _ tgt_rep_read tgt_rep_parts tgt_rep (λ x. x) refl (lit≤ tt) refl
    (tgt_rep_tie schema k levels) tgt_rep_right tgt_rep_same
    (triple_refused schema k _ _ _ _ _ _ _ _
    (required_refused schema k _ _ _ _ _ _ _ _ (number_refused schema k (suc (suc (suc (suc levels)))) 26 5 refl))
    (required_refused schema k _ _ _ _ _ _ _ _ (number_refused schema k (suc (suc (suc (suc levels)))) 94 17 refl))
    (required_refused schema k _ _ _ _ _ _ _ _ (application_refused schema k (suc (suc (suc (suc levels)))) 28 1 27 _ refl (lit≤ tt) refl (ticket_refused schema k levels))))

-- ---- KDC-PROXY-MESSAGE

abbrev pub kdc_proxy_message_read : Fields
kdc_proxy_message_read = triple (one (explicit 160 octets)) (maybe (explicit 161 text)) (maybe (explicit 162 integer))

abbrev pub kdc_proxy_message_parts : KdcProxyMessage → (kdc_proxy_message_read).value
kdc_proxy_message_parts v = (v.kerb_message, v.target_domain, v.dclocator_hint)

abbrev pub kdc_proxy_message_reader : Reader
kdc_proxy_message_reader = sequence kdc_proxy_message_read kdc_proxy_message_parts

pub kdc_proxy_message_refused : (schema : Schema) (k : IsKerberos schema) (levels : ℕ) → FaultTie schema k (suc (suc levels)) 96 kdc_proxy_message_reader
unfolding cases fields shapes
kdc_proxy_message_refused schema k levels =
    sequence_refused schema k (suc levels) 96 167 3 _ kdc_proxy_message_read kdc_proxy_message_parts kdc_proxy_message (λ x. x) refl (lit≤ tt) refl
    (kdc_proxy_message_tie schema k levels) kdc_proxy_message_right kdc_proxy_message_same
    (triple_refused schema k _ _ _ _ _ _ _ _
    (required_refused schema k _ _ _ _ _ _ _ _ (octets_refused schema k levels 6 refl))
    (maybe_refused schema k _ _ _ _ _ _ _ _ (text_refused schema k levels 11 refl))
    (maybe_refused schema k _ _ _ _ _ _ _ _ (integer_refused schema k levels 1 refl)))
