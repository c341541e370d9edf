-- Encrypted parts as readers, and their first errors.
use Rattle.std.proofs.Common.{ℕ, suc, true, false, refl, lit≤}
use Rattle.krb_enc_parts.specs.declared.data_types.authenticators.AuthenticatorInner.{AuthenticatorInner}
use Rattle.krb_enc_parts.specs.declared.data_types.authenticators.EncApRepPartInner.{EncApRepPartInner}
use Rattle.krb_enc_parts.specs.declared.data_types.credentials.EncKrbCredPartInner.{EncKrbCredPartInner}
use Rattle.krb_enc_parts.specs.declared.data_types.credentials.KrbCredInfo.{KrbCredInfo}
use Rattle.krb_enc_parts.specs.declared.data_types.private.EncKrbPrivPartInner.{EncKrbPrivPartInner}
use Rattle.krb_enc_parts.specs.declared.data_types.ticket_part.EncTicketPartInner.{EncTicketPartInner}
use Rattle.krb_schema.specs.declared.shape.Schema.{Schema}
use Rattle.krb_schema.specs.Named.{IsKerberos}
use Rattle.krb_schema.specs.Types.{cases, fields, shapes}
use Rattle.krb_show_row_laws.proofs.Readers.{Fields, Reader, bits, explicit, five, four, integer, maybe, octets, one, pair, sequence, sequence_of, six, text, time, triple}
use Rattle.krb_show_row_laws.proofs.FaultRows.{FaultTie, list_refused}
use Rattle.krb_show_row_laws.proofs.FaultFields.{five_refused, four_refused, maybe_refused, pair_refused, required_refused, sequence_refused, six_refused, triple_refused}
use Rattle.krb_show_row_laws.proofs.FaultLeaves.{flags_refused, integer_refused, microseconds_refused, number_refused, secret_refused, text_refused, time_refused}
use Rattle.krb_show_row_laws.proofs.PartRows.{enc_ticket_part, enc_ticket_part_tie, enc_ticket_part_same, enc_ticket_part_right, authenticator, authenticator_tie, authenticator_same, authenticator_right, enc_ap_rep_part, enc_ap_rep_part_tie, enc_ap_rep_part_same, enc_ap_rep_part_right, enc_krb_priv_part, enc_krb_priv_part_tie, enc_krb_priv_part_same, enc_krb_priv_part_right, enc_krb_cred_part, enc_krb_cred_part_tie, enc_krb_cred_part_same, enc_krb_cred_part_right, krb_cred_info, krb_cred_info_tie, krb_cred_info_same, krb_cred_info_right}
use Rattle.krb_show_row_laws.proofs.DataTypeErrors.{principal_name_reader, principal_name_refused, host_address_reader, host_address_refused, authorization_data_reader, authorization_data_refused, encryption_key_reader, encryption_key_refused, checksum_reader, checksum_refused, transited_encoding_reader, transited_encoding_refused}

-- ---- EncTicketPartInner

abbrev pub enc_ticket_part_read : Fields
enc_ticket_part_read = pair
    (five
    (one (explicit 160 bits))
    (one (explicit 161 encryption_key_reader))
    (one (explicit 162 text))
    (one (explicit 163 principal_name_reader))
    (one (explicit 164 transited_encoding_reader)))
    (six
    (one (explicit 165 time))
    (maybe (explicit 166 time))
    (one (explicit 167 time))
    (maybe (explicit 168 time))
    (maybe (explicit 169 (sequence_of host_address_reader)))
    (maybe (explicit 170 (sequence_of authorization_data_reader))))

abbrev pub enc_ticket_part_parts : EncTicketPartInner → (enc_ticket_part_read).value
enc_ticket_part_parts v = ((v.flags, v.key, v.crealm, v.cname, v.transited), (v.auth_time, v.starttime, v.endtime, v.renew_till, v.caddr, v.authorization_data))

abbrev pub enc_ticket_part_reader : Reader
enc_ticket_part_reader = sequence enc_ticket_part_read enc_ticket_part_parts

pub enc_ticket_part_refused : (schema : Schema) (k : IsKerberos schema) (levels : ℕ) → FaultTie schema k (suc (suc (suc (suc levels)))) 29 enc_ticket_part_reader
unfolding cases fields shapes
enc_ticket_part_refused schema k levels =
    sequence_refused schema k (suc (suc (suc levels))) 29 19 11 _ enc_ticket_part_read enc_ticket_part_parts enc_ticket_part (λ x. x) refl (lit≤ tt) refl
    (enc_ticket_part_tie schema k levels) enc_ticket_part_right enc_ticket_part_same
    (pair_refused schema k _ _ _ _ _ _
    (five_refused schema k _ _ _ _ _ _ _ _ _ _ _ _
    (required_refused schema k _ _ _ _ _ _ _ _ (flags_refused schema k (suc (suc levels)) 5 refl))
    (required_refused schema k _ _ _ _ _ _ _ _ (encryption_key_refused schema k (suc levels)))
    (required_refused schema k _ _ _ _ _ _ _ _ (text_refused schema k (suc (suc levels)) 11 refl))
    (required_refused schema k _ _ _ _ _ _ _ _ (principal_name_refused schema k levels))
    (required_refused schema k _ _ _ _ _ _ _ _ (transited_encoding_refused schema k (suc levels))))
    (six_refused schema k _ _ _ _ _ _ _ _ _ _ _ _ _ _
    (required_refused schema k _ _ _ _ _ _ _ _ (time_refused schema k (suc (suc levels)) 10 refl))
    (maybe_refused schema k _ _ _ _ _ _ _ _ (time_refused schema k (suc (suc levels)) 10 refl))
    (required_refused schema k _ _ _ _ _ _ _ _ (time_refused schema k (suc (suc levels)) 10 refl))
    (maybe_refused schema k _ _ _ _ _ _ _ _ (time_refused schema k (suc (suc levels)) 10 refl))
    (maybe_refused schema k _ _ _ _ _ _ _ _ (list_refused schema k (suc (suc levels)) 17 16 true _ refl (host_address_refused schema k levels)))
    (maybe_refused schema k _ _ _ _ _ _ _ _ (list_refused schema k (suc (suc levels)) 20 19 true _ refl (authorization_data_refused schema k levels)))))

-- ---- AuthenticatorInner

abbrev pub authenticator_read : Fields
authenticator_read = pair
    (six
    (one (explicit 160 integer))
    (one (explicit 161 text))
    (one (explicit 162 principal_name_reader))
    (maybe (explicit 163 checksum_reader))
    (one (explicit 164 integer))
    (one (explicit 165 time)))
    (triple
    (maybe (explicit 166 encryption_key_reader))
    (maybe (explicit 167 integer))
    (maybe (explicit 168 (sequence_of authorization_data_reader))))

abbrev pub authenticator_parts : AuthenticatorInner → (authenticator_read).value
authenticator_parts v = ((v.authenticator_vno, v.crealm, v.cname, v.cksum, v.cusec, v.ctime), (v.subkey, v.seq_number, v.authorization_data))

abbrev pub authenticator_reader : Reader
authenticator_reader = sequence authenticator_read authenticator_parts

pub authenticator_refused : (schema : Schema) (k : IsKerberos schema) (levels : ℕ) → FaultTie schema k (suc (suc (suc (suc levels)))) 66 authenticator_reader
unfolding cases fields shapes
authenticator_refused schema k levels =
    sequence_refused schema k (suc (suc (suc levels))) 66 95 9 _ authenticator_read authenticator_parts authenticator (λ x. x) refl (lit≤ tt) refl
    (authenticator_tie schema k levels) authenticator_right authenticator_same
    (pair_refused schema k _ _ _ _ _ _
    (six_refused schema k _ _ _ _ _ _ _ _ _ _ _ _ _ _
    (required_refused schema k _ _ _ _ _ _ _ _ (number_refused schema k (suc (suc levels)) 26 5 refl))
    (required_refused schema k _ _ _ _ _ _ _ _ (text_refused schema k (suc (suc levels)) 11 refl))
    (required_refused schema k _ _ _ _ _ _ _ _ (principal_name_refused schema k levels))
    (maybe_refused schema k _ _ _ _ _ _ _ _ (checksum_refused schema k (suc levels)))
    (required_refused schema k _ _ _ _ _ _ _ _ (microseconds_refused schema k (suc (suc levels)) 3 refl))
    (required_refused schema k _ _ _ _ _ _ _ _ (time_refused schema k (suc (suc levels)) 10 refl)))
    (triple_refused schema k _ _ _ _ _ _ _ _
    (maybe_refused schema k _ _ _ _ _ _ _ _ (encryption_key_refused schema k (suc levels)))
    (maybe_refused schema k _ _ _ _ _ _ _ _ (integer_refused schema k (suc (suc levels)) 1 refl))
    (maybe_refused schema k _ _ _ _ _ _ _ _ (list_refused schema k (suc (suc levels)) 20 19 true _ refl (authorization_data_refused schema k levels)))))

-- ---- EncApRepPartInner

abbrev pub enc_ap_rep_part_read : Fields
enc_ap_rep_part_read = four
    (one (explicit 160 time))
    (one (explicit 161 integer))
    (maybe (explicit 162 encryption_key_reader))
    (maybe (explicit 163 integer))

abbrev pub enc_ap_rep_part_parts : EncApRepPartInner → (enc_ap_rep_part_read).value
enc_ap_rep_part_parts v = (v.ctime, v.cusec, v.subkey, v.seq_number)

abbrev pub enc_ap_rep_part_reader : Reader
enc_ap_rep_part_reader = sequence enc_ap_rep_part_read enc_ap_rep_part_parts

pub enc_ap_rep_part_refused : (schema : Schema) (k : IsKerberos schema) (levels : ℕ) → FaultTie schema k (suc (suc (suc levels))) 71 enc_ap_rep_part_reader
unfolding cases fields shapes
enc_ap_rep_part_refused schema k levels =
    sequence_refused schema k (suc (suc levels)) 71 107 4 _ enc_ap_rep_part_read enc_ap_rep_part_parts enc_ap_rep_part (λ x. x) refl (lit≤ tt) refl
    (enc_ap_rep_part_tie schema k levels) enc_ap_rep_part_right enc_ap_rep_part_same
    (four_refused schema k _ _ _ _ _ _ _ _ _ _
    (required_refused schema k _ _ _ _ _ _ _ _ (time_refused schema k (suc levels) 10 refl))
    (required_refused schema k _ _ _ _ _ _ _ _ (microseconds_refused schema k (suc levels) 3 refl))
    (maybe_refused schema k _ _ _ _ _ _ _ _ (encryption_key_refused schema k levels))
    (maybe_refused schema k _ _ _ _ _ _ _ _ (integer_refused schema k (suc levels) 1 refl)))

-- ---- EncKrbPrivPartInner

abbrev pub enc_krb_priv_part_read : Fields
enc_krb_priv_part_read = six
    (one (explicit 160 octets))
    (maybe (explicit 161 time))
    (maybe (explicit 162 integer))
    (maybe (explicit 163 integer))
    (one (explicit 164 host_address_reader))
    (maybe (explicit 165 host_address_reader))

abbrev pub enc_krb_priv_part_parts : EncKrbPrivPartInner → (enc_krb_priv_part_read).value
enc_krb_priv_part_parts v = (v.user_data, v.timestamp, v.usec, v.seq_number, v.s_address, v.r_address)

abbrev pub enc_krb_priv_part_reader : Reader
enc_krb_priv_part_reader = sequence enc_krb_priv_part_read enc_krb_priv_part_parts

pub enc_krb_priv_part_refused : (schema : Schema) (k : IsKerberos schema) (levels : ℕ) → FaultTie schema k (suc (suc (suc levels))) 76 enc_krb_priv_part_reader
unfolding cases fields shapes
enc_krb_priv_part_refused schema k levels =
    sequence_refused schema k (suc (suc levels)) 76 114 6 _ enc_krb_priv_part_read enc_krb_priv_part_parts enc_krb_priv_part (λ x. x) refl (lit≤ tt) refl
    (enc_krb_priv_part_tie schema k levels) enc_krb_priv_part_right enc_krb_priv_part_same
    (six_refused schema k _ _ _ _ _ _ _ _ _ _ _ _ _ _
    (required_refused schema k _ _ _ _ _ _ _ _ (secret_refused schema k (suc levels) 7 refl))
    (maybe_refused schema k _ _ _ _ _ _ _ _ (time_refused schema k (suc levels) 10 refl))
    (maybe_refused schema k _ _ _ _ _ _ _ _ (microseconds_refused schema k (suc levels) 3 refl))
    (maybe_refused schema k _ _ _ _ _ _ _ _ (integer_refused schema k (suc levels) 1 refl))
    (required_refused schema k _ _ _ _ _ _ _ _ (host_address_refused schema k levels))
    (maybe_refused schema k _ _ _ _ _ _ _ _ (host_address_refused schema k levels)))

-- ---- KrbCredInfo

abbrev pub krb_cred_info_read : Fields
krb_cred_info_read = pair
    (five
    (one (explicit 160 encryption_key_reader))
    (maybe (explicit 161 text))
    (maybe (explicit 162 principal_name_reader))
    (maybe (explicit 163 bits))
    (maybe (explicit 164 time)))
    (six
    (maybe (explicit 165 time))
    (maybe (explicit 166 time))
    (maybe (explicit 167 time))
    (maybe (explicit 168 text))
    (maybe (explicit 169 principal_name_reader))
    (maybe (explicit 170 (sequence_of host_address_reader))))

abbrev pub krb_cred_info_parts : KrbCredInfo → (krb_cred_info_read).value
krb_cred_info_parts v = ((v.key, v.prealm, v.pname, v.flags, v.auth_time), (v.start_time, v.end_time, v.renew_till, v.srealm, v.sname, v.caddr))

abbrev pub krb_cred_info_reader : Reader
krb_cred_info_reader = sequence krb_cred_info_read krb_cred_info_parts

pub krb_cred_info_refused : (schema : Schema) (k : IsKerberos schema) (levels : ℕ) → FaultTie schema k (suc (suc (suc (suc levels)))) 84 krb_cred_info_reader
unfolding cases fields shapes
krb_cred_info_refused schema k levels =
    sequence_refused schema k (suc (suc (suc levels))) 84 130 11 _ krb_cred_info_read krb_cred_info_parts krb_cred_info (λ x. x) refl (lit≤ tt) refl
    (krb_cred_info_tie schema k levels) krb_cred_info_right krb_cred_info_same
    (pair_refused schema k _ _ _ _ _ _
    (five_refused schema k _ _ _ _ _ _ _ _ _ _ _ _
    (required_refused schema k _ _ _ _ _ _ _ _ (encryption_key_refused schema k (suc levels)))
    (maybe_refused schema k _ _ _ _ _ _ _ _ (text_refused schema k (suc (suc levels)) 11 refl))
    (maybe_refused schema k _ _ _ _ _ _ _ _ (principal_name_refused schema k levels))
    (maybe_refused schema k _ _ _ _ _ _ _ _ (flags_refused schema k (suc (suc levels)) 5 refl))
    (maybe_refused schema k _ _ _ _ _ _ _ _ (time_refused schema k (suc (suc levels)) 10 refl)))
    (six_refused schema k _ _ _ _ _ _ _ _ _ _ _ _ _ _
    (maybe_refused schema k _ _ _ _ _ _ _ _ (time_refused schema k (suc (suc levels)) 10 refl))
    (maybe_refused schema k _ _ _ _ _ _ _ _ (time_refused schema k (suc (suc levels)) 10 refl))
    (maybe_refused schema k _ _ _ _ _ _ _ _ (time_refused schema k (suc (suc levels)) 10 refl))
    (maybe_refused schema k _ _ _ _ _ _ _ _ (text_refused schema k (suc (suc levels)) 11 refl))
    (maybe_refused schema k _ _ _ _ _ _ _ _ (principal_name_refused schema k levels))
    (maybe_refused schema k _ _ _ _ _ _ _ _ (list_refused schema k (suc (suc levels)) 17 16 true _ refl (host_address_refused schema k levels)))))

-- ---- EncKrbCredPartInner

abbrev pub enc_krb_cred_part_read : Fields
enc_krb_cred_part_read = six
    (one (explicit 160 (sequence_of krb_cred_info_reader)))
    (maybe (explicit 161 integer))
    (maybe (explicit 162 time))
    (maybe (explicit 163 integer))
    (maybe (explicit 164 host_address_reader))
    (maybe (explicit 165 host_address_reader))

abbrev pub enc_krb_cred_part_parts : EncKrbCredPartInner → (enc_krb_cred_part_read).value
enc_krb_cred_part_parts v = (v.ticket_info, v.nonce, v.timestamp, v.usec, v.s_address, v.r_address)

abbrev pub enc_krb_cred_part_reader : Reader
enc_krb_cred_part_reader = sequence enc_krb_cred_part_read enc_krb_cred_part_parts

pub enc_krb_cred_part_refused : (schema : Schema) (k : IsKerberos schema) (levels : ℕ) → FaultTie schema k (suc (suc (suc (suc (suc (suc levels)))))) 82 enc_krb_cred_part_reader
unfolding cases fields shapes
enc_krb_cred_part_refused schema k levels =
    sequence_refused schema k (suc (suc (suc (suc (suc levels))))) 82 124 6 _ enc_krb_cred_part_read enc_krb_cred_part_parts enc_krb_cred_part (λ x. x) refl (lit≤ tt) refl
    (enc_krb_cred_part_tie schema k levels) enc_krb_cred_part_right enc_krb_cred_part_same
    (six_refused schema k _ _ _ _ _ _ _ _ _ _ _ _ _ _
    (required_refused schema k _ _ _ _ _ _ _ _ (list_refused schema k (suc (suc (suc (suc levels)))) 81 84 false _ refl (krb_cred_info_refused schema k levels)))
    (maybe_refused schema k _ _ _ _ _ _ _ _ (integer_refused schema k (suc (suc (suc (suc levels)))) 1 refl))
    (maybe_refused schema k _ _ _ _ _ _ _ _ (time_refused schema k (suc (suc (suc (suc levels)))) 10 refl))
    (maybe_refused schema k _ _ _ _ _ _ _ _ (microseconds_refused schema k (suc (suc (suc (suc levels)))) 3 refl))
    (maybe_refused schema k _ _ _ _ _ _ _ _ (host_address_refused schema k (suc (suc (suc levels)))))
    (maybe_refused schema k _ _ _ _ _ _ _ _ (host_address_refused schema k (suc (suc (suc levels))))))
