use Rattle.std.proofs.Common.{refl}
use Rattle.krb_der.specs.EqualityLaws.{octets_decide, integers_decide, times_decide, bits_decide, tag_decides, optional_decides, pair_decides, parts_decide}
use Rattle.krb_types.proofs.laws.pre_authentication.equality.Goals as goal

pub returns-clause-pa_data : goal.returns-clause-pa_data
returns-clause-pa_data c =
    parts_decide (λ v. (v.padata_type, v.padata_data)) (λ p. record { padata_type = p.0; padata_data = p.1 }) (λ v. refl)
    (pair_decides (tag_decides integers_decide) (tag_decides octets_decide))

pub returns-clause-pa_enc_ts_enc : goal.returns-clause-pa_enc_ts_enc
returns-clause-pa_enc_ts_enc c =
    parts_decide (λ v. (v.patimestamp, v.pausec)) (λ p. record { patimestamp = p.0; pausec = p.1 }) (λ v. refl)
    (pair_decides (tag_decides times_decide) (optional_decides (tag_decides integers_decide)))

pub returns-clause-pa_pac_options : goal.returns-clause-pa_pac_options
returns-clause-pa_pac_options c =
    parts_decide (λ v. v.flags) (λ p. record { flags = p }) (λ v. refl)
    (tag_decides bits_decide)

pub returns-clause-etype_info2_entry : goal.returns-clause-etype_info2_entry
returns-clause-etype_info2_entry c =
    parts_decide (λ v. (v.etype, (v.salt, v.s2kparams))) (λ p. record { etype = p.0; salt = p.1.0; s2kparams = p.1.1 }) (λ v. refl)
    (pair_decides (tag_decides integers_decide) (pair_decides (optional_decides (tag_decides octets_decide)) (optional_decides (tag_decides octets_decide))))

pub returns-clause-kerb_error_data : goal.returns-clause-kerb_error_data
returns-clause-kerb_error_data c =
    parts_decide (λ v. (v.data_type, v.data_value)) (λ p. record { data_type = p.0; data_value = p.1 }) (λ v. refl)
    (pair_decides (tag_decides integers_decide) (optional_decides (tag_decides octets_decide)))
