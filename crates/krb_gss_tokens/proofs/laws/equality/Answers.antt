use Rattle.std.proofs.Common.{refl}
use Rattle.krb_der.specs.EqualityLaws.{octets_decide, bits_decide, list_decides, tag_decides, optional_decides, pair_decides, parts_decide}
use Rattle.krb_gss_tokens.proofs.laws.equality.Goals as goal

pub returns-clause-neg_token_init : goal.returns-clause-neg_token_init
returns-clause-neg_token_init c =
    parts_decide (λ v. (v.mech_types, (v.req_flags, (v.mech_token, v.mech_list_mic)))) (λ p. record {
      mech_types = p.0;
      req_flags = p.1.0;
      mech_token = p.1.1.0;
      mech_list_mic = p.1.1.1;
    }) (λ v. refl)
    (pair_decides (optional_decides (tag_decides (list_decides octets_decide))) (pair_decides (optional_decides (tag_decides bits_decide))
    (pair_decides (optional_decides (tag_decides octets_decide)) (optional_decides (tag_decides octets_decide)))))

pub returns-clause-neg_token_targ : goal.returns-clause-neg_token_targ
returns-clause-neg_token_targ c =
    parts_decide (λ v. (v.neg_result, (v.supported_mech, (v.response_token, v.mech_list_mic)))) (λ p. record {
      neg_result = p.0;
      supported_mech = p.1.0;
      response_token = p.1.1.0;
      mech_list_mic = p.1.1.1;
    }) (λ v. refl)
    (pair_decides (optional_decides (tag_decides octets_decide)) (pair_decides (optional_decides (tag_decides octets_decide))
    (pair_decides (optional_decides (tag_decides octets_decide)) (optional_decides (tag_decides octets_decide)))))

pub returns-clause-gss_api_neg_init : goal.returns-clause-gss_api_neg_init
returns-clause-gss_api_neg_init c =
    parts_decide (λ v. (v.oid, v.neg_token_init)) (λ p. record { oid = p.0; neg_token_init = p.1 }) (λ v. refl)
    (pair_decides octets_decide (tag_decides (returns-clause-neg_token_init c)))
