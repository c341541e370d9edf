use Rattle.std.proofs.Common.{◌≡◌, ◌-◌, ◌/◌, arith, inl, inr, sym, ◌∙◌}
use Rattle.krb_crypto_block.specs.Aes.{key_expansion, add_words, sub_word, rot_word}
use Rattle.krb_crypto_block.specs.AesWords.{key_column}
use Rattle.krb_crypto_block.specs.AesLanes.{round_octets}
use Rattle.krb_crypto_block.specs.AesNextKey.{constant_word}
use Rattle.krb_crypto_block.proofs.AesKeyVectors.{key_block}
use Rattle.krb_crypto_block.proofs.AesWordKeys.{key_expansion-octets}
use Rattle.krb_crypto_block.proofs.AesNextKeys.{next_is, term_four, term_even, term_odd}
use Rattle.krb_crypto_block.proofs.aes.round_keys.next_key.Goals as goal
use Rattle.krb_crypto_block.proofs.aes.round_keys.next_key.Goals.{then-this-eq4, else-this-eq4, then-n-eq0, else-n-eq0}

pub returns : goal.returns
returns g c = λ key octets long has.
    let nk = g.row.NK in
    let n = c.args.n in
    let w = key_expansion key in
    let size = c.requires.size in
    let all = key_expansion-octets nk key size long octets in
    let u = key_column w (n - 1) 3 in
    let last_block = key_block w (n - 1) all in
    elim c.if-this-eq4.branch [
      | then-this-eq4 b ↦
          let four : nk ≡ 4 = omega arith in
          b.result-is ∙ b.summed.ensures (round_octets w (n - 1)) (add_words (sub_word (rot_word u)) (constant_word (n - 1))) last_block has.last_is (b.rotated_word.ensures (round_octets w (n - 1)) last_block has.tower_is)
          ∙ sym (next_is nk key size long octets n (n - 1) (add_words (sub_word (rot_word u)) (constant_word (n - 1))) (omega arith) c.requires.within (rw four (term_four n u)))
      | else-this-eq4 b ↦
          let eight : nk ≡ 8 = elim size [ inl four ↦ absurd (omega arith) | inr eight ↦ eight ] in
          let first = has.before_is eight in
          let first_block = key_block w (n - 2) all in
          b.result-is ∙ elim b.if-n-eq0.branch [
            | then-n-eq0 b' ↦
                b'.result-is ∙ b'.summed-then-n-eq0.ensures (round_octets w (n - 2)) (add_words (sub_word (rot_word u)) (constant_word (n / 2 - 1))) first_block first (b'.rotated_word-then-n-eq0.ensures (round_octets w (n - 1)) last_block has.tower_is)
                ∙ sym (next_is nk key size long octets n (n - 2) (add_words (sub_word (rot_word u)) (constant_word (n / 2 - 1))) (omega arith) c.requires.within (rw eight (term_even n u (omega arith))))
            | else-n-eq0 b' ↦
                b'.result-is ∙ b'.summed-else-n-eq0.ensures (round_octets w (n - 2)) (sub_word u) first_block first (b'.substituted_word.ensures (round_octets w (n - 1)) last_block has.tower_is)
                ∙ sym (next_is nk key size long octets n (n - 2) (sub_word u) (omega arith) c.requires.within (rw eight (term_odd n u (omega arith))))
          ]
    ]
