use Rattle.std.proofs.Common.{refl}
use Rattle.krb_der.specs.EqualityLaws.{octets_decide, integers_decide, bits_decide, optional_decides, pair_decides, parts_decide}
use Rattle.krb_pkinit.proofs.laws.dh_keys.equality.Goals as goal

pub returns-clause-validation_params : goal.returns-clause-validation_params
returns-clause-validation_params c = pair_decides bits_decide integers_decide

pub returns-clause-dh_domain_parameters : goal.returns-clause-dh_domain_parameters
returns-clause-dh_domain_parameters c =
    parts_decide (λ v. (v.p, (v.g, (v.q, (v.j, v.validation_params))))) (λ p. record {
      p = p.0;
      g = p.1.0;
      q = p.1.1.0;
      j = p.1.1.1.0;
      validation_params = p.1.1.1.1;
    }) (λ v. refl)
    (pair_decides (integers_decide) (pair_decides (integers_decide) (pair_decides (integers_decide)
    (pair_decides (optional_decides integers_decide) (optional_decides (returns-clause-validation_params c))))))

pub returns-clause-dh_req_key_info : goal.returns-clause-dh_req_key_info
returns-clause-dh_req_key_info c =
    parts_decide (λ v. (v.identifier, v.key_info)) (λ p. record { identifier = p.0; key_info = p.1 }) (λ v. refl)
    (pair_decides (octets_decide) ((returns-clause-dh_domain_parameters c)))

pub returns-clause-dh_req_info : goal.returns-clause-dh_req_info
returns-clause-dh_req_info c =
    parts_decide (λ v. (v.key_info, v.key_value)) (λ p. record { key_info = p.0; key_value = p.1 }) (λ v. refl)
    (pair_decides ((returns-clause-dh_req_key_info c)) (bits_decide))
