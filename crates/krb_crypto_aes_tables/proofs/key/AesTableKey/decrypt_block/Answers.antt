use Rattle.std.proofs.Common.{◌≡◌, ◌-◌, length, ap, sym, ◌∙◌, arith, rules, inl, inr}
use Rattle.krb_crypto_block.specs.Aes.{key_expansion, add_round_key, aes_block}
use Rattle.krb_crypto_block.specs.InverseCipher.{aes_undo}
use Rattle.krb_crypto_block.specs.AesWords.{Holds, inverse_cipher_rounds}
use Rattle.krb_crypto_block.proofs.AesKeys.{decrypt_by_steps}
use Rattle.krb_crypto_aes_tables.proofs.Keys.{inverse_keys_are, expansion_octets, decrypt_is, keys_undo}
use Rattle.krb_crypto_aes_tables.proofs.key.AesTableKey.decrypt_block.Goals as goal
use Rattle.krb_crypto_aes_tables.proofs.key.AesTableKey.decrypt_block.Goals.{then-self-eq10, else-self-eq10}

value : (c : goal.After-inverse_last_round) → c.inverse_last_round.result ≡ aes_undo c.args.self.now c.args.block
unfolding inverse_cipher_rounds
value c =
    let k = c.self.inside in
    let v = c.args.self.now in
    let w = key_expansion v in
    let nr = k.rounds in
    let has = inverse_keys_are k.octets k.round_keys k.inverse_keys v nr c.self.invariant c.self.told.0 c.self.view_is in
    let octets = expansion_octets k.octets k.round_keys k.inverse_keys v nr c.self.invariant c.self.told.0 c.self.view_is in
    let long : length c.args.block ≡ 16 = search rules in
    let held : Holds c.nine_inverse_rounds.result (inverse_cipher_rounds w (add_round_key w nr c.args.block) (nr - 1)) =
    elim c.if-self-eq10.branch [
      | then-self-eq10 w' ↦
          let ten : nr ≡ 10 = omega arith in
          rw ten (c.nine_inverse_rounds.ensures w _ octets (λ n from h. has.between n from (omega arith))
          (rw (← w'.tenth-is) at (w'.add_round_key-tenth.ensures w octets (rw ten at has.last) (long, c.are_octets.ensures))))
      | else-self-eq10 w' ↦
          let fourteen : nr ≡ 14 = elim c.self.invariant.size [ inl four ↦ omega arith | inr eight ↦ omega arith ] in
          rw fourteen (c.nine_inverse_rounds.ensures w _ octets (λ n from h. has.between n from (omega arith))
          (rw (← w'.tenth-is) at (w'.four_inverse_rounds-tenth.ensures w _ octets (λ i h. has.between (13 - i) (omega arith) (omega arith))
          (w'.add_round_key.ensures w octets (rw fourteen at has.last) (long, c.are_octets.ensures)))))
    ] in
    c.inverse_last_round.ensures w _ octets has.first held
    ∙ decrypt_by_steps w c.args.block nr
    ∙ sym (decrypt_is k.octets k.round_keys k.inverse_keys v nr c.self.invariant c.self.told.0 c.self.view_is c.args.block)

pub returns-clause-undone : goal.returns-clause-undone
returns-clause-undone c =
    let k = c.self.inside in
    let inverse = keys_undo k.octets k.round_keys k.inverse_keys c.args.self.now k.rounds c.self.invariant c.self.told.0 c.self.view_is in
    let long : length c.args.block ≡ 16 = search rules in
    ap (aes_block c.args.self.now) (value c) ∙ inverse.right c.args.block (long, c.are_octets.ensures)

pub returns-clause-alone : goal.returns-clause-alone
returns-clause-alone c = λ q long octets e.
    let k = c.self.inside in
    let inverse = keys_undo k.octets k.round_keys k.inverse_keys c.args.self.now k.rounds c.self.invariant c.self.told.0 c.self.view_is in
    sym (inverse.left q (long, octets)) ∙ ap (aes_undo c.args.self.now) e ∙ sym (value c)

pub returns-clause-value : goal.returns-clause-value
returns-clause-value c = value c
