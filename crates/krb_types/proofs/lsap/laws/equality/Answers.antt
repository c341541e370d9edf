use Rattle.std.proofs.Common.{refl}
use Rattle.krb_der.specs.EqualityLaws.{numbers_decide, octets_decide, pair_decides, parts_decide}
use Rattle.krb_types.proofs.lsap.laws.equality.Goals as goal

pub returns : goal.returns
returns c = parts_decide (λ v. (v.flags, (v.token_il, v.machine_id))) (λ p. record { flags = p.0; token_il = p.1.0; machine_id = p.1.1 }) (λ v. refl) (pair_decides numbers_decide (pair_decides numbers_decide octets_decide))
