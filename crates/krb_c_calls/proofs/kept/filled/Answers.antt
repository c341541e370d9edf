use Rattle.krb_c_calls.proofs.KeptAgain.{zeros_behind}
use Rattle.krb_c_calls.proofs.kept.filled.Goals as goal

pub returns-clause-zeros : goal.returns-clause-zeros
returns-clause-zeros c = zeros_behind c.args.octets.now c.copy_from_slice.new.self c.copy_from_slice.ensures.after
