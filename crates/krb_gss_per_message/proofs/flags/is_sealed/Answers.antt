use Rattle.krb_gss_per_message.proofs.FlagBits.{bit_1_tested}
use Rattle.krb_gss_per_message.proofs.flags.is_sealed.Goals as goal

pub returns : goal.returns
returns c = bit_1_tested c.args.flags
