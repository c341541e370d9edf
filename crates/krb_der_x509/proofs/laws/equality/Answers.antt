use Rattle.std.proofs.Common.{refl}
use Rattle.krb_der.specs.EqualityLaws.{octets_decide, bits_decide, optional_decides, pair_decides, parts_decide}
use Rattle.krb_der_x509.proofs.laws.equality.Goals as goal

pub returns-clause-object_identifier : goal.returns-clause-object_identifier
returns-clause-object_identifier c = octets_decide

pub returns-clause-raw_value : goal.returns-clause-raw_value
returns-clause-raw_value c = octets_decide

pub returns-clause-algorithm_identifier : goal.returns-clause-algorithm_identifier
returns-clause-algorithm_identifier c =
    parts_decide (λ v. (v.algorithm, v.parameters)) (λ p. record { algorithm = p.0; parameters = p.1 }) (λ v. refl)
    (pair_decides octets_decide (optional_decides octets_decide))

pub returns-clause-subject_public_key_info : goal.returns-clause-subject_public_key_info
returns-clause-subject_public_key_info c =
    parts_decide (λ v. (v.algorithm, v.subject_public_key)) (λ p. record { algorithm = p.0; subject_public_key = p.1 }) (λ v. refl)
    (pair_decides (returns-clause-algorithm_identifier c) bits_decide)
