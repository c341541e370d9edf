use Rattle.std.proofs.Common.{◌≡◌, length, ◌∙◌, ap, sym, rules}
use Rattle.krb_crypto_block.specs.Modes.{IsOctets}
use Rattle.krb_crypto_block.specs.Des.{bits, octet_bits, ede3, ede3_undo}
use Rattle.krb_crypto_block.proofs.DesOctets.{octet_bits_is}
use Rattle.krb_crypto_block.proofs.DesTriple.{ede3_undo_is, ede3_undo_alone, ede3-undo}
use Rattle.krb_crypto_block.proofs.des.DesKey.decrypt_block.Goals as goal

value_is : (c : goal.After-to_be_bytes) → c.to_be_bytes.result ≡ ede3_undo c.args.self.now c.args.block
value_is c =
    let long : length c.args.block ≡ 8 = search rules in
    let octets : IsOctets c.args.block = search rules in
    let start : octet_bits c.args.block ≡ bits 64 c.from_be_bytes.result = octet_bits_is c.args.block c.from_be_bytes.result long octets c.from_be_bytes.ensures in
    let k = c.self.inside in
    c.to_be_bytes.ensures
    ∙ ede3_undo_is k.first k.second k.third k.octets c.args.block c.from_be_bytes.result c.permute_first-start.result c.rounds_back-once.result c.rounds-twice.result c.rounds_back-thrice.result c.permute_last.result
    c.self.invariant start c.permute_first-start.ensures c.rounds_back-once.ensures c.rounds-twice.ensures c.rounds_back-thrice.ensures c.permute_last.ensures
    ∙ ap (λ v. ede3_undo v c.args.block) c.self.view_is

pub returns-clause-undone : goal.returns-clause-undone
returns-clause-undone c =
    let long : length c.args.block ≡ 8 = search rules in
    let octets : IsOctets c.args.block = search rules in
    ap (ede3 c.args.self.now) (value_is c) ∙ ede3-undo c.args.self.now c.args.block long octets

pub returns-clause-alone : goal.returns-clause-alone
returns-clause-alone c = λ q long octets e. ede3_undo_alone c.args.self.now q c.args.block long octets e ∙ sym (value_is c)

pub returns-clause-value : goal.returns-clause-value
returns-clause-value c = value_is c
