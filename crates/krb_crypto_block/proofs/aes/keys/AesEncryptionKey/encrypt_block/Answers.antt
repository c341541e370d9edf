use Rattle.std.proofs.Common.{◌≡◌, ◌-◌, length, map, sym, ap, ◌∙◌, arith, rules}
use Rattle.krb_crypto_block.specs.Aes.{key_expansion, rounds}
use Rattle.krb_crypto_block.specs.AesLanes.{HasVectors, tower}
use Rattle.krb_crypto_block.proofs.AesKeys.{lanes_are, expansion_octets, cipher_is, most_rounds, rounds_block, rounds_step}
use Rattle.krb_crypto_block.proofs.AesRoundLanes.{start_is}
use Rattle.krb_crypto_block.proofs.aes.keys.AesEncryptionKey.encrypt_block.Goals as goal

pub loop-n-init : goal.loop-n-init
unfolding rounds
loop-n-init c =
    let k = c.self.inside in
    let w = key_expansion c.args.self.now in
    let has : HasVectors w k.keys k.rounds = rw c.self.view_is at c.self.invariant.vectors in
    let long : length c.args.block ≡ 16 = search rules in (
      omega arith,
      start_is w c.args.block _ _ (long, c.are_octets.ensures) c.to_tower.ensures
          (sym (lanes_are k.keys 0 _ (omega (arith, c.self.invariant.long))) ∙ has.first_is),
    )

pub loop-n-preserved : goal.loop-n-preserved
loop-n-preserved c =
    let k = c.self.inside in
    let v = c.args.self.now in
    let w = key_expansion v in
    let n = c.loop-n.n in
    let p = c.args.block in
    let has : HasVectors w k.keys k.rounds = rw c.self.view_is at c.self.invariant.vectors in
    let octets = expansion_octets k.octets v k.rounds c.self.invariant.key c.self.told c.self.view_is in
    let long : length p ≡ 16 = search rules in
    let most = most_rounds k.octets k.rounds c.self.invariant.key in
    let from = c.loop-n.invariant.0 in (
      omega arith,
      c.round-s.ensures w (rounds w p (n - 1)) n (rounds_block w p (n - 1) octets (long, c.are_octets.ensures)) c.loop-n.invariant.1
          (sym (lanes_are k.keys n _ (omega (arith, c.self.invariant.long, most.1))) ∙ has.between_are n from (omega arith))
          ∙ ap (map tower) (rounds_step w p n from),
    )

pub returns : goal.returns
returns c =
    let k = c.self.inside in
    let v = c.args.self.now in
    let w = key_expansion v in
    let nr = k.rounds in
    let p = c.args.block in
    let has : HasVectors w k.keys nr = rw c.self.view_is at c.self.invariant.vectors in
    let octets = expansion_octets k.octets v nr c.self.invariant.key c.self.told c.self.view_is in
    let long : length p ≡ 16 = search rules in
    let most = most_rounds k.octets nr c.self.invariant.key in
    let done : c.loop-n.n ≡ nr = omega (arith, most.0) in
    c.last_round.ensures w (rounds w p (nr - 1)) nr (rounds_block w p (nr - 1) octets (long, c.are_octets.ensures)) (rw done at c.loop-n.invariant.1)
    (sym (lanes_are k.keys nr _ (omega (arith, c.self.invariant.long, most.1))) ∙ has.last_is)
    ∙ sym (cipher_is k.octets v nr c.self.invariant.key c.self.told c.self.view_is p)
