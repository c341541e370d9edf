use Rattle.std.proofs.Common.{◌≡◌, ◌+◌, ◌-◌, ◌/◌, ◌<◌, ◌≤◌, bit_xor, map, replicate, refl, List, ℕ, ap, ◌∙◌, arith, rules, inl, inr}
use lib.Lanes.{zip2}
use Rattle.krb_crypto_block.specs.Aes.{key_expansion}
use Rattle.krb_crypto_block.specs.AesLanes.{tower, with_constant, round_octets, round_vector}
use Rattle.krb_crypto_block.proofs.AesKeyVectors.{keys_start, keys_more, keys_done, map_tower_constant}
use Rattle.krb_crypto_block.proofs.AesNextKeys.{own_is}
use Rattle.krb_crypto_block.proofs.aes.round_keys.encryption_keys.Goals as goal

pub loop-n-init : goal.loop-n-init
loop-n-init g c =
    let nk = g.row.NK in
    let key = c.args.key.now in
    let w = key_expansion key in
    let size = c.requires.size in
    let long = c.requires.whole in
    let octets = c.are_octets.ensures in
    let some : 4 ≤ nk = elim size [ inl four ↦ omega arith | inr eight ↦ omega arith ] in
    let few : nk / 4 ≤ 2 = elim size [ inl four ↦ omega arith | inr eight ↦ omega arith ] in
    let first = c.own_key-before.ensures ∙ own_is nk key size long octets 0 (omega arith) in
    let last = c.own_key-last.ensures ∙ own_is nk key size long octets (nk / 4 - 1) (omega arith) in (
      search rules,
      keys_start (map tower (round_octets w 0)) (round_vector w) _ (nk / 4) _ _ (search rules) (omega arith) few (c.to_tower.ensures ∙ ap (map tower) first) (λ two.
          let one : nk / 4 - 1 ≡ 1 = omega arith in
          ap (λ (v : List ℕ). zip2 bit_xor v (replicate 16 0x6e)) (c.to_tower-tower.ensures ∙ ap (map tower) (rw one at last))
          ∙ map_tower_constant (round_octets w 1) refl),
      record {
        before_is = λ eight.
            let none : nk / 4 - 2 ≡ 0 = omega arith in
            rw none first;
        last_is = last;
        tower_is = c.to_tower-tower.ensures ∙ ap (map tower) last;
      },
    )

pub loop-n-preserved : goal.loop-n-preserved
loop-n-preserved g c =
    let key = c.args.key.now in
    let w = key_expansion key in
    let n = c.loop-n.n in
    let some : (1 ≤ n) × (n < 15) = elim c.requires.size [ inl four ↦ (omega arith, omega arith) | inr eight ↦ (omega arith, omega arith) ] in
    let next = c.next_key-next.ensures key c.are_octets.ensures c.requires.whole c.loop-n.invariant.2 in
    let in_tower = c.to_tower-tower-in-loop-n.ensures ∙ ap (map tower) next in
    let back : n + 1 - 2 ≡ n - 1 = omega arith in
    let here : n + 1 - 1 ≡ n = omega arith in (
      search rules,
      keys_more (map tower (round_octets w 0)) (round_vector w) c.loop-n.keys n _ c.loop-n.invariant.0 some.0 some.1 c.loop-n.invariant.1
          (ap (λ (v : List ℕ). zip2 bit_xor v (replicate 16 0x6e)) in_tower ∙ map_tower_constant (round_octets w n) refl),
      record {
        before_is = λ eight. rw back c.loop-n.invariant.2.last_is;
        last_is = rw here next;
        tower_is = rw here in_tower;
      },
    )

pub returns : goal.returns
returns g c =
    let key = c.args.key.now in
    let w = key_expansion key in
    let n = g.row.NK + 6 in
    let size = c.requires.size in
    let done : c.loop-n.n ≡ n = elim size [ inl four ↦ omega arith | inr eight ↦ omega arith ] in
    let few : (1 ≤ n) × (n < 15) = elim size [ inl four ↦ (omega arith, omega arith) | inr eight ↦ (omega arith, omega arith) ] in
    let next = c.next_key.ensures key c.are_octets.ensures c.requires.whole (rw done at c.loop-n.invariant.2) in
    keys_done (map tower (round_octets w 0)) (round_vector w) (map with_constant (round_octets w n)) c.loop-n.keys n _ c.loop-n.invariant.0 few.0 few.1 (rw done at c.loop-n.invariant.1)
    (ap (λ (v : List ℕ). zip2 bit_xor v (replicate 16 0x63)) next)
