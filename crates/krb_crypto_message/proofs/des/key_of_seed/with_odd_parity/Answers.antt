use Rattle.std.proofs.Common.{arith}
use Rattle.krb_crypto_message.proofs.DesParts.{odd_octet}
use Rattle.krb_crypto_message.proofs.des.key_of_seed.with_odd_parity.Goals as goal

pub returns : goal.returns
returns c = odd_octet c.args.octet (omega arith)
