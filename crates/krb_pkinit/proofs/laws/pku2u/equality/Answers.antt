use Rattle.std.proofs.Common.{refl}
use Rattle.krb_der.specs.EqualityLaws.{octets_decide, list_decides, tag_decides, pair_decides, parts_decide}
use Rattle.krb_pkinit.proofs.laws.pku2u.equality.Goals as goal

pub returns-clause-pku2u_nego_req_metadata : goal.returns-clause-pku2u_nego_req_metadata
returns-clause-pku2u_nego_req_metadata c =
    parts_decide (λ v. v.inner) (λ p. record { inner = p }) (λ v. refl)
    (tag_decides octets_decide)

pub returns-clause-pku2u_nego_body : goal.returns-clause-pku2u_nego_body
returns-clause-pku2u_nego_body c =
    parts_decide (λ v. (v.realm, v.sname)) (λ p. record { realm = p.0; sname = p.1 }) (λ v. refl)
    (pair_decides (tag_decides octets_decide) (tag_decides c.equality.ensures.principal_name))

pub returns-clause-pku2u_nego_req : goal.returns-clause-pku2u_nego_req
returns-clause-pku2u_nego_req c =
    parts_decide (λ v. (v.metadata, v.body)) (λ p. record { metadata = p.0; body = p.1 }) (λ v. refl)
    (pair_decides (tag_decides (list_decides (returns-clause-pku2u_nego_req_metadata c))) (tag_decides (returns-clause-pku2u_nego_body c)))

pub returns-clause-pku2u_nego_rep : goal.returns-clause-pku2u_nego_rep
returns-clause-pku2u_nego_rep c =
    parts_decide (λ v. v.metadata) (λ p. record { metadata = p }) (λ v. refl)
    (tag_decides (list_decides (returns-clause-pku2u_nego_req_metadata c)))

pub returns-clause-krb_finished : goal.returns-clause-krb_finished
returns-clause-krb_finished c =
    parts_decide (λ v. v.gss_mic) (λ p. record { gss_mic = p }) (λ v. refl)
    (tag_decides c.equality.ensures.checksum)
