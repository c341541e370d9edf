use Rattle.krb_gss_per_message.proofs.SequenceSlots.{empty_slots}
use Rattle.krb_gss_per_message.proofs.sequence.SequenceWindow.new.Goals as goal

pub returns-clause-empty : goal.returns-clause-empty
returns-clause-empty c = empty_slots
