use Rattle.std.proofs.Common.{◌≡◌, ◌+◌, ◌-◌, ◌/◌, ◌<◌, ◌≤◌, bit_xor, map, replicate, refl, List, ℕ, ap, ◌∙◌, arith, rules, inl, inr}
use lib.Lanes.{zip2}
use Rattle.krb_crypto_block.specs.Aes.{key_expansion}
use Rattle.krb_crypto_block.specs.InverseCipher.{inverse_mix_columns}
use Rattle.krb_crypto_block.specs.AesLanes.{tower, inverse_linear, inverse_form, round_octets, inverse_vector}
use Rattle.krb_crypto_block.proofs.AesKeyVectors.{keys_start, keys_more, keys_done, key_block, map_constant}
use Rattle.krb_crypto_block.proofs.AesWordKeys.{key_expansion-octets}
use Rattle.krb_crypto_block.proofs.AesNextKeys.{own_is}
use Rattle.krb_crypto_block.proofs.aes.round_keys.decryption_keys.Goals as goal

pub loop-n-init : goal.loop-n-init
unfolding inverse_mix_columns
loop-n-init g c =
    let nk = g.row.NK in
    let key = c.args.key.now in
    let w = key_expansion key in
    let size = c.requires.size in
    let long = c.requires.whole in
    let octets = c.are_octets.ensures in
    let some : 4 ≤ nk = elim size [ inl four ↦ omega arith | inr eight ↦ omega arith ] in
    let few : nk / 4 ≤ 2 = elim size [ inl four ↦ omega arith | inr eight ↦ omega arith ] in
    let first = c.own_key-before.ensures ∙ own_is nk key size long octets 0 (omega arith) in
    let last = c.own_key-last.ensures ∙ own_is nk key size long octets (nk / 4 - 1) (omega arith) in (
      search rules,
      keys_start (round_octets w 0) (inverse_vector w) _ (nk / 4) _ _ (search rules) (omega arith) few first (λ two.
          let one : nk / 4 - 1 ≡ 1 = omega arith in
          ap (λ (v : List ℕ). zip2 bit_xor v (replicate 16 0x2c)) (c.unmixed.ensures (round_octets w 1) (key_block w 1 (key_expansion-octets nk key size long octets)) (rw one at last))
          ∙ map_constant (inverse_mix_columns (round_octets w 1)) refl),
      record {
        before_is = λ eight.
            let none : nk / 4 - 2 ≡ 0 = omega arith in
            rw none first;
        last_is = last;
        tower_is = c.to_tower-tower.ensures ∙ ap (map tower) last;
      },
    )

pub loop-n-preserved : goal.loop-n-preserved
unfolding inverse_mix_columns
loop-n-preserved g c =
    let nk = g.row.NK in
    let key = c.args.key.now in
    let w = key_expansion key in
    let size = c.requires.size in
    let n = c.loop-n.n in
    let some : (1 ≤ n) × (n < 15) = elim size [ inl four ↦ (omega arith, omega arith) | inr eight ↦ (omega arith, omega arith) ] in
    let octets = c.are_octets.ensures in
    let next = c.next_key-next.ensures key octets c.requires.whole c.loop-n.invariant.2 in
    let back : n + 1 - 2 ≡ n - 1 = omega arith in
    let here : n + 1 - 1 ≡ n = omega arith in (
      search rules,
      keys_more (round_octets w 0) (inverse_vector w) c.loop-n.keys n _ c.loop-n.invariant.0 some.0 some.1 c.loop-n.invariant.1
          (ap (λ (v : List ℕ). zip2 bit_xor v (replicate 16 0x2c)) (c.unmixed-in-loop-n.ensures (round_octets w n) (key_block w n (key_expansion-octets nk key size c.requires.whole octets)) next)
          ∙ map_constant (inverse_mix_columns (round_octets w n)) refl),
      record {
        before_is = λ eight. rw back c.loop-n.invariant.2.last_is;
        last_is = rw here next;
        tower_is = rw here (c.to_tower-tower-in-loop-n.ensures ∙ ap (map tower) next);
      },
    )

pub returns : goal.returns
returns g c =
    let nk = g.row.NK in
    let key = c.args.key.now in
    let w = key_expansion key in
    let size = c.requires.size in
    let n = nk + 6 in
    let done : c.loop-n.n ≡ n = elim size [ inl four ↦ omega arith | inr eight ↦ omega arith ] in
    let few : (1 ≤ n) × (n < 15) = elim size [ inl four ↦ (omega arith, omega arith) | inr eight ↦ (omega arith, omega arith) ] in
    let next = c.next_key-next-2.ensures key c.are_octets.ensures c.requires.whole (rw done at c.loop-n.invariant.2) in
    keys_done (round_octets w 0) (inverse_vector w) (map inverse_form (round_octets w n)) c.loop-n.keys n _ c.loop-n.invariant.0 few.0 few.1 (rw done at c.loop-n.invariant.1)
    (c.to_inverse_linear.ensures ∙ ap (λ (v : List ℕ). map inverse_linear (zip2 bit_xor v (replicate 16 0x63))) next)
