use Rattle.std.proofs.Common.{◌≡◌, length, ◌∙◌, ap, rules}
use Rattle.krb_crypto_block.specs.Modes.{IsOctets}
use Rattle.krb_crypto_block.specs.Des.{bits, octet_bits, ede3}
use Rattle.krb_crypto_block.proofs.DesOctets.{octet_bits_is}
use Rattle.krb_crypto_block.proofs.DesTriple.{ede3_is}
use Rattle.krb_crypto_block.proofs.des.DesKey.encrypt_block.Goals as goal

pub returns : goal.returns
returns c =
    let long : length c.args.block ≡ 8 = search rules in
    let octets : IsOctets c.args.block = search rules in
    let start : octet_bits c.args.block ≡ bits 64 c.from_be_bytes.result = octet_bits_is c.args.block c.from_be_bytes.result long octets c.from_be_bytes.ensures in
    let k = c.self.inside in
    c.to_be_bytes.ensures
    ∙ ede3_is k.first k.second k.third k.octets c.args.block c.from_be_bytes.result c.permute_first-start.result c.rounds-once.result c.rounds_back-twice.result c.rounds-thrice.result c.permute_last.result
    c.self.invariant start c.permute_first-start.ensures c.rounds-once.ensures c.rounds_back-twice.ensures c.rounds-thrice.ensures c.permute_last.ensures
    ∙ ap (λ v. ede3 v c.args.block) c.self.view_is
