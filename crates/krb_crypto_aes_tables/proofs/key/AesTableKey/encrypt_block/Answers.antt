use Rattle.std.proofs.Common.{◌≡◌, ◌+◌, ℕ, length, ap, sym, ◌∙◌, arith, rules, inl, inr}
use Rattle.krb_crypto_block.specs.Aes.{key_expansion, rounds, cipher}
use Rattle.krb_crypto_aes_tables.proofs.Keys.{keys_are, expansion_octets, cipher_is}
use Rattle.krb_crypto_aes_tables.proofs.key.AesTableKey.encrypt_block.Goals as goal

pub returns-then-self-eq10 : goal.returns-then-self-eq10
returns-then-self-eq10 c =
    let k = c.self.inside in
    let v = c.args.self.now in
    let w = key_expansion v in
    let ten : k.rounds ≡ 10 = omega arith in
    let has = keys_are k.octets k.round_keys k.inverse_keys v k.rounds c.self.invariant c.self.told.0 c.self.view_is in
    let octets = expansion_octets k.octets k.round_keys k.inverse_keys v k.rounds c.self.invariant c.self.told.0 c.self.view_is in
    let long : length c.args.block ≡ 16 = search rules in
    c.last_round.ensures w _ octets (has 10 (omega arith)) (c.nine_rounds-ninth.ensures w octets (λ n h. has n (omega arith)) (long, c.are_octets.ensures))
    ∙ ap (λ (m : ℕ). cipher w m c.args.block) (sym ten)
    ∙ sym (cipher_is k.octets k.round_keys k.inverse_keys v k.rounds c.self.invariant c.self.told.0 c.self.view_is c.args.block)

pub returns-else-self-eq10 : goal.returns-else-self-eq10
unfolding rounds
returns-else-self-eq10 c =
    let k = c.self.inside in
    let v = c.args.self.now in
    let w = key_expansion v in
    let fourteen : k.rounds ≡ 14 = elim c.self.invariant.size [ inl four ↦ omega arith | inr eight ↦ omega arith ] in
    let has = keys_are k.octets k.round_keys k.inverse_keys v k.rounds c.self.invariant c.self.told.0 c.self.view_is in
    let octets = expansion_octets k.octets k.round_keys k.inverse_keys v k.rounds c.self.invariant c.self.told.0 c.self.view_is in
    let long : length c.args.block ≡ 16 = search rules in
    c.last_round-else-self-eq10.ensures w _ octets (has 14 (omega arith))
    (c.four_rounds.ensures w _ octets (λ i h. has (10 + i) (omega arith))
    (c.nine_rounds-ninth.ensures w octets (λ n h. has n (omega arith)) (long, c.are_octets.ensures)))
    ∙ ap (λ (m : ℕ). cipher w m c.args.block) (sym fourteen)
    ∙ sym (cipher_is k.octets k.round_keys k.inverse_keys v k.rounds c.self.invariant c.self.told.0 c.self.view_is c.args.block)
