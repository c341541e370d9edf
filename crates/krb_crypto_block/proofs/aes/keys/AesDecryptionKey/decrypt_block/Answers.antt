use Rattle.std.proofs.Common.{◌≡◌, ◌-◌, ◌≤◌, length, sym, ap, ◌∙◌, arith, rules}
use Rattle.krb_crypto_block.specs.Aes.{key_expansion, aes_block}
use Rattle.krb_crypto_block.specs.InverseCipher.{aes_undo}
use Rattle.krb_crypto_block.specs.AesLanes.{HasInverseVectors}
use Rattle.krb_crypto_block.proofs.AesKeys.{lanes_are, expansion_octets, decrypt_is, most_rounds, keys_undo}
use Rattle.krb_crypto_block.proofs.AesInverseLanes.{inverse_start_is}
use Rattle.krb_crypto_block.proofs.AesInverseSteps.{first_inverse_state, next_inverse_state, last_inverse_state}
use Rattle.krb_crypto_block.proofs.aes.keys.AesDecryptionKey.decrypt_block.Goals as goal

pub loop-i-init : goal.loop-i-init
loop-i-init c =
    let k = c.self.inside in
    let v = c.args.self.now in
    let w = key_expansion v in
    let nr = k.rounds in
    let has : HasInverseVectors w k.keys nr = rw c.self.view_is at c.self.invariant.vectors in
    let octets = expansion_octets k.octets v nr c.self.invariant.key c.self.told c.self.view_is in
    let most = most_rounds k.octets nr c.self.invariant.key in
    let key = sym (lanes_are k.keys nr _ (omega (arith, c.self.invariant.long, most.1))) ∙ has.last_is in
    let p = c.args.block in
    let long : length p ≡ 16 = search rules in (
      omega arith,
      most.0,
      first_inverse_state w nr 1 p p octets _ (long, c.are_octets.ensures) (inverse_start_is w p nr (long, c.are_octets.ensures) _ _ c.to_inverse_linear.ensures key),
    )

pub loop-i-preserved : goal.loop-i-preserved
loop-i-preserved c =
    let k = c.self.inside in
    let v = c.args.self.now in
    let w = key_expansion v in
    let nr = k.rounds in
    let i = c.loop-i.i in
    let n = nr - i in
    let has : HasInverseVectors w k.keys nr = rw c.self.view_is at c.self.invariant.vectors in
    let octets = expansion_octets k.octets v nr c.self.invariant.key c.self.told c.self.view_is in
    let most = most_rounds k.octets nr c.self.invariant.key in
    let from : 1 ≤ n = omega arith in
    let key = sym (lanes_are k.keys n _ (omega (arith, c.self.invariant.long, most.1))) ∙ has.between_are n from (omega arith) in
    let a = c.loop-i.invariant.2 in (
      omega arith,
      omega arith,
      next_inverse_state w nr i c.args.block c.loop-i.s octets a _ from (c.inverse_round-s.ensures w a.state n a.block a.held key),
    )

pub returns-clause-value : goal.returns-clause-value
returns-clause-value c =
    let k = c.self.inside in
    let v = c.args.self.now in
    let w = key_expansion v in
    let nr = k.rounds in
    let i = c.loop-i.i in
    let has : HasInverseVectors w k.keys nr = rw c.self.view_is at c.self.invariant.vectors in
    let octets = expansion_octets k.octets v nr c.self.invariant.key c.self.told c.self.view_is in
    let done : nr - i ≡ 0 = omega arith in
    let key = sym (lanes_are k.keys 0 _ (omega (arith, c.self.invariant.long))) ∙ has.first_is in
    let a = c.loop-i.invariant.2 in
    c.inverse_last_round.ensures w a.state a.block a.held key ∙ last_inverse_state w nr i c.args.block c.loop-i.s octets a done
    ∙ sym (decrypt_is k.octets v nr c.self.invariant.key c.self.told c.self.view_is c.args.block)

pub returns-clause-undone : goal.returns-clause-undone
returns-clause-undone c =
    let k = c.self.inside in
    let inverse = keys_undo k.octets c.args.self.now k.rounds c.self.invariant.key c.self.told c.self.view_is in
    let long : length c.args.block ≡ 16 = search rules in
    ap (aes_block c.args.self.now) (returns-clause-value c) ∙ inverse.right c.args.block (long, c.are_octets.ensures)

pub returns-clause-alone : goal.returns-clause-alone
returns-clause-alone c = λ q long octets e.
    let k = c.self.inside in
    let inverse = keys_undo k.octets c.args.self.now k.rounds c.self.invariant.key c.self.told c.self.view_is in
    sym (inverse.left q (long, octets)) ∙ ap (aes_undo c.args.self.now) e ∙ sym (returns-clause-value c)
