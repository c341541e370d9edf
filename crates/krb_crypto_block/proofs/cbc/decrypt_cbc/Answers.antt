use Rattle.std.proofs.Common.{rules}
use Rattle.krb_crypto_block.specs.Modes.{IsOctets}
use Rattle.krb_crypto_block.proofs.Chaining.{cbc_plain, cbc_only}
use Rattle.krb_crypto_block.proofs.cbc.decrypt_cbc.Goals as goal

pub returns-clause-plain : goal.returns-clause-plain
returns-clause-plain g c =
    let octets : IsOctets c.args.octets.now = search rules in
    cbc_plain g.row.SIZE c.requires.size (g.C.BlockDecrypt.encrypts c.args.cipher.now) (g.C.BlockDecrypt.decrypts c.args.cipher.now) c.requires.inverse c.unchain.new.octets c.args.octets.now octets c.requires.whole c.unchain.ensures.plain

pub returns-clause-only : goal.returns-clause-only
returns-clause-only g c = λ q octets is.
    cbc_only g.row.SIZE c.requires.size (g.C.BlockDecrypt.encrypts c.args.cipher.now) (g.C.BlockDecrypt.decrypts c.args.cipher.now) c.requires.inverse c.unchain.new.octets c.args.octets.now q c.unchain.ensures.plain octets is
