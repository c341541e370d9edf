use Rattle.std.proofs.Common.{refl}
use Rattle.krb_der.specs.EqualityLaws.{octets_decide, integers_decide, times_decide, list_decides, tag_decides, optional_decides, pair_decides, parts_decide}
use Rattle.krb_types.proofs.laws.equality.Goals as goal

pub returns-clause-host_address : goal.returns-clause-host_address
returns-clause-host_address c =
    parts_decide (λ v. (v.addr_type, v.address)) (λ p. record { addr_type = p.0; address = p.1 }) (λ v. refl)
    (pair_decides (tag_decides integers_decide) (tag_decides octets_decide))

pub returns-clause-authorization_data : goal.returns-clause-authorization_data
returns-clause-authorization_data c =
    parts_decide (λ v. (v.ad_type, v.ad_data)) (λ p. record { ad_type = p.0; ad_data = p.1 }) (λ v. refl)
    (pair_decides (tag_decides integers_decide) (tag_decides octets_decide))

pub returns-clause-restriction : goal.returns-clause-restriction
returns-clause-restriction c =
    parts_decide (λ v. (v.restriction_type, v.restriction)) (λ p. record { restriction_type = p.0; restriction = p.1 }) (λ v. refl)
    (pair_decides (tag_decides integers_decide) (tag_decides octets_decide))

pub returns-clause-checksum : goal.returns-clause-checksum
returns-clause-checksum c =
    parts_decide (λ v. (v.cksumtype, v.checksum)) (λ p. record { cksumtype = p.0; checksum = p.1 }) (λ v. refl)
    (pair_decides (tag_decides integers_decide) (tag_decides octets_decide))

pub returns-clause-encrypted_data : goal.returns-clause-encrypted_data
returns-clause-encrypted_data c =
    parts_decide (λ v. (v.etype, (v.kvno, v.cipher))) (λ p. record { etype = p.0; kvno = p.1.0; cipher = p.1.1 }) (λ v. refl)
    (pair_decides (tag_decides integers_decide) (pair_decides (optional_decides (tag_decides integers_decide)) (tag_decides octets_decide)))

pub returns-clause-encryption_key : goal.returns-clause-encryption_key
returns-clause-encryption_key c =
    parts_decide (λ v. (v.key_type, v.key_value)) (λ p. record { key_type = p.0; key_value = p.1 }) (λ v. refl)
    (pair_decides (tag_decides integers_decide) (tag_decides octets_decide))

pub returns-clause-last_req : goal.returns-clause-last_req
returns-clause-last_req c =
    parts_decide (λ v. (v.lr_type, v.lr_value)) (λ p. record { lr_type = p.0; lr_value = p.1 }) (λ v. refl)
    (pair_decides (tag_decides integers_decide) (tag_decides times_decide))

pub returns-clause-principal_name : goal.returns-clause-principal_name
returns-clause-principal_name c =
    parts_decide (λ v. (v.name_type, v.name_string)) (λ p. record { name_type = p.0; name_string = p.1 }) (λ v. refl)
    (pair_decides (tag_decides integers_decide) (tag_decides (list_decides octets_decide)))

pub returns-clause-change_passwd_data : goal.returns-clause-change_passwd_data
returns-clause-change_passwd_data c =
    parts_decide (λ v. (v.new_passwd, (v.target_name, v.target_realm))) (λ p. record { new_passwd = p.0; target_name = p.1.0; target_realm = p.1.1 }) (λ v. refl)
    (pair_decides (tag_decides octets_decide) (pair_decides (optional_decides (tag_decides (returns-clause-principal_name c))) (optional_decides (tag_decides octets_decide))))

pub returns-clause-ticket : goal.returns-clause-ticket
returns-clause-ticket c =
    parts_decide (λ v. (v.tkt_vno, (v.realm, (v.sname, v.enc_part)))) (λ p. record {
      tkt_vno = p.0;
      realm = p.1.0;
      sname = p.1.1.0;
      enc_part = p.1.1.1;
    }) (λ v. refl)
    (pair_decides (tag_decides integers_decide) (pair_decides (tag_decides octets_decide)
    (pair_decides (tag_decides (returns-clause-principal_name c)) (tag_decides (returns-clause-encrypted_data c)))))

pub returns-clause-transited_encoding : goal.returns-clause-transited_encoding
returns-clause-transited_encoding c =
    parts_decide (λ v. (v.tr_type, v.contents)) (λ p. record { tr_type = p.0; contents = p.1 }) (λ v. refl)
    (pair_decides (tag_decides integers_decide) (tag_decides octets_decide))
