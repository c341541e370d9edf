use Rattle.std.proofs.Common.{◌∙◌, sym}
use Rattle.krb_c_negotiation.proofs.Naming.{refuses_name}
use Rattle.krb_c_negotiation.proofs.sides.running_of.Goals as goal

pub returns-in-Err : goal.returns-in-Err
returns-in-Err c =
    refuses_name c.args.side.now c.args.mechanisms.items c.in_ok-mechanism.mechanism _ (sym c.chosen.ensures ∙ c.in_ok-mechanism.was) c.in-Err.ensures
