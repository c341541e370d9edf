use Rattle.std.proofs.Common.{inl, refl}
use Rattle.krb_accept_rules.specs.Refusals.{plain}
use Rattle.krb_accept_rules.specs.declared.refusal.Rule.TheVariants as Rules
use Rattle.krb_c_accept.proofs.decision.admitted.Goals as goal

pub returns-in-Err-clause-refused : goal.returns-in-Err-clause-refused
returns-in-Err-clause-refused c = rw c.from.ensures (plain Rules.OutOfMemory, refl, inl refl)
