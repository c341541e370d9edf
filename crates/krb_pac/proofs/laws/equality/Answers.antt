use Rattle.std.proofs.Common.{refl}
use Rattle.krb_pac.specs.contracts.kind.PacBufferType.{the_type}
use Rattle.krb_pac.specs.Equality.{numbers_decide, pair_decides, parts_decide, buffers_decide, pacs_decide}
use Rattle.krb_pac.proofs.laws.equality.Goals as goal
use denote.Enum.Bare.{same_true, true_same}

pub returns-clause-kind : goal.returns-clause-kind
returns-clause-kind c = λ v w. (same_true the_type tt v w, true_same the_type v w)

pub returns-clause-info_buffer : goal.returns-clause-info_buffer
returns-clause-info_buffer c =
    parts_decide (λ v. (v.ul_type, (v.cb_buffer_size, v.offset))) (λ p. record { ul_type = p.0; cb_buffer_size = p.1.0; offset = p.1.1 }) (λ v. refl)
    (pair_decides (returns-clause-kind c) (pair_decides numbers_decide numbers_decide))

pub returns-clause-buffer : goal.returns-clause-buffer
returns-clause-buffer c = buffers_decide

pub returns-clause-pac : goal.returns-clause-pac
returns-clause-pac c = pacs_decide
