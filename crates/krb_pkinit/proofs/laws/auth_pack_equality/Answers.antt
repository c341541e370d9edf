use Rattle.std.proofs.Common.{refl}
use Rattle.krb_der.specs.EqualityLaws.{octets_decide, list_decides, tag_decides, optional_decides, pair_decides, parts_decide}
use Rattle.krb_pkinit.proofs.laws.auth_pack_equality.Goals as goal

pub returns : goal.returns
returns g c = λ h.
    parts_decide (λ v. (v.pk_authenticator, (v.client_public_value, (v.supported_cms_types, v.client_dh_nonce))))
    (λ p. record {
      pk_authenticator = p.0;
      client_public_value = p.1.0;
      supported_cms_types = p.1.1.0;
      client_dh_nonce = p.1.1.1;
    }) (λ v. refl)
    (pair_decides (tag_decides c.equality.ensures.pk_authenticator) (pair_decides (optional_decides (tag_decides h))
    (pair_decides (optional_decides (tag_decides (list_decides c.equality-2.ensures.algorithm_identifier))) (optional_decides (tag_decides octets_decide)))))
