use Rattle.std.proofs.Common.{[], rules}
use Rattle.krb_schema.proofs.Refusals.{all_refused}
use Rattle.krb_encoding_check.proofs.Walks.{on_fault}
use Rattle.krb_encoding_check.proofs.check.check_encoding.Goals as goal

pub returns-clause-refused : goal.returns-clause-refused
returns-clause-refused c =
    on_fault c.check_whole.result _ _
    (λ fault f w. all_refused 64 c.args.schema.now c.args.is c.args.name [] 0 c.args.octets.now fault (search rules) f w.0 w.1 w.2)
    c.check_whole.ensures.refused
