use Rattle.std.proofs.Common.{◌≡◌, ◌-◌, ◌≤◌, length, sym, ◌∙◌, arith, rules}
use Rattle.krb_crypto_block.specs.Aes.{key_expansion}
use Rattle.krb_crypto_block.specs.AesLanes.{HasInverseVectors}
use Rattle.krb_crypto_block.proofs.AesKeys.{lanes_are, expansion_octets, decrypt_is, most_rounds}
use Rattle.krb_crypto_block.proofs.AesInverseLanes.{inverse_start_is}
use Rattle.krb_crypto_block.proofs.AesInverseSteps.{first_inverse_state, next_inverse_state, last_inverse_state}
use Rattle.krb_crypto_block.proofs.aes.keys.AesDecryptionKey.decrypt_two.Goals as goal

pub loop-i-init : goal.loop-i-init
loop-i-init c =
    let k = c.self.inside in
    let v = c.args.self.now in
    let w = key_expansion v in
    let nr = k.rounds in
    let has : HasInverseVectors w k.keys nr = rw c.self.view_is at c.self.invariant.vectors in
    let octets = expansion_octets k.octets v nr c.self.invariant.key c.self.told c.self.view_is in
    let most = most_rounds k.octets nr c.self.invariant.key in
    let key = sym (lanes_are k.keys nr _ (omega (arith, c.self.invariant.long, most.1))) ∙ has.last_is in
    let p = c.args.first in
    let q = c.args.second in
    let longp : length p ≡ 16 = search rules in
    let longq : length q ≡ 16 = search rules in (
      omega arith,
      most.0,
      first_inverse_state w nr 1 p p octets _ (longp, c.are_octets.ensures) (inverse_start_is w p nr (longp, c.are_octets.ensures) _ _ c.to_inverse_linear.ensures key),
      first_inverse_state w nr 1 q q octets _ (longq, c.are_octets-2.ensures) (inverse_start_is w q nr (longq, c.are_octets-2.ensures) _ _ c.to_inverse_linear-2.ensures key),
    )

pub loop-i-preserved : goal.loop-i-preserved
loop-i-preserved c =
    let k = c.self.inside in
    let v = c.args.self.now in
    let w = key_expansion v in
    let nr = k.rounds in
    let i = c.loop-i.i in
    let n = nr - i in
    let has : HasInverseVectors w k.keys nr = rw c.self.view_is at c.self.invariant.vectors in
    let octets = expansion_octets k.octets v nr c.self.invariant.key c.self.told c.self.view_is in
    let most = most_rounds k.octets nr c.self.invariant.key in
    let from : 1 ≤ n = omega arith in
    let key = sym (lanes_are k.keys n _ (omega (arith, c.self.invariant.long, most.1))) ∙ has.between_are n from (omega arith) in
    let a = c.loop-i.invariant.2 in
    let b = c.loop-i.invariant.3 in (
      omega arith,
      omega arith,
      next_inverse_state w nr i c.args.first c.loop-i.s octets a _ from (c.inverse_round-s.ensures w a.state n a.block a.held key),
      next_inverse_state w nr i c.args.second c.loop-i.t octets b _ from (c.inverse_round-t.ensures w b.state n b.block b.held key),
    )

pub returns-clause-first : goal.returns-clause-first
returns-clause-first c =
    let k = c.self.inside in
    let v = c.args.self.now in
    let w = key_expansion v in
    let nr = k.rounds in
    let i = c.loop-i.i in
    let has : HasInverseVectors w k.keys nr = rw c.self.view_is at c.self.invariant.vectors in
    let octets = expansion_octets k.octets v nr c.self.invariant.key c.self.told c.self.view_is in
    let done : nr - i ≡ 0 = omega arith in
    let key = sym (lanes_are k.keys 0 _ (omega (arith, c.self.invariant.long))) ∙ has.first_is in
    let a = c.loop-i.invariant.2 in
    c.inverse_last_round.ensures w a.state a.block a.held key ∙ last_inverse_state w nr i c.args.first c.loop-i.s octets a done
    ∙ sym (decrypt_is k.octets v nr c.self.invariant.key c.self.told c.self.view_is c.args.first)

pub returns-clause-second : goal.returns-clause-second
returns-clause-second c =
    let k = c.self.inside in
    let v = c.args.self.now in
    let w = key_expansion v in
    let nr = k.rounds in
    let i = c.loop-i.i in
    let has : HasInverseVectors w k.keys nr = rw c.self.view_is at c.self.invariant.vectors in
    let octets = expansion_octets k.octets v nr c.self.invariant.key c.self.told c.self.view_is in
    let done : nr - i ≡ 0 = omega arith in
    let key = sym (lanes_are k.keys 0 _ (omega (arith, c.self.invariant.long))) ∙ has.first_is in
    let a = c.loop-i.invariant.3 in
    c.inverse_last_round-2.ensures w a.state a.block a.held key ∙ last_inverse_state w nr i c.args.second c.loop-i.t octets a done
    ∙ sym (decrypt_is k.octets v nr c.self.invariant.key c.self.told c.self.view_is c.args.second)
