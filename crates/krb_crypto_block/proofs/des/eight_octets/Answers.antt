use Rattle.std.proofs.Common.{rules}
use Rattle.krb_crypto_block.specs.Modes.{IsOctets}
use Rattle.krb_crypto_block.proofs.DesOctets.{eight_octets_is}
use Rattle.krb_crypto_block.proofs.des.eight_octets.Goals as goal

pub returns : goal.returns
returns c =
    let octets : IsOctets c.args.octets.now = search rules in
    eight_octets_is c.args.octets.now c.args.at c.from_be_bytes.result octets c.requires c.from_be_bytes.ensures
