use Rattle.krb_gss_per_message.proofs.Mics.{only_number}
use Rattle.krb_gss_per_message.proofs.mic.verify_mic.Goals as goal

pub returns-clause-only : goal.returns-clause-only
returns-clause-only c = only_number _ _ _ c.number_of.result c.number_of.ensures.verified c.number_of.ensures.refused
