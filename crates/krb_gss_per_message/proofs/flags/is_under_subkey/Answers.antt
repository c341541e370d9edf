use Rattle.krb_gss_per_message.proofs.FlagBits.{bit_2_tested}
use Rattle.krb_gss_per_message.proofs.flags.is_under_subkey.Goals as goal

pub returns : goal.returns
returns c = bit_2_tested c.args.flags
