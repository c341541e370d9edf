use Rattle.std.proofs.Common.{◌≡◌, ℕ, List, length, map, refl, ◌∙◌, arith, rules}
use Rattle.std.proofs.lemmas.List.{length-map}
use Rattle.krb_crypto_block.specs.Des.{key_bits}
use Rattle.krb_crypto_block.proofs.DesRounds.{rounds_start, rounds_more, rounds_end, key_at}
use Rattle.krb_crypto_block.proofs.des.rounds.rounds.Goals as goal

pub rounds-init : goal.rounds-init
rounds-init c = rounds_start (map key_bits c.args.keys.now) c.args.block

pub rounds-preserved : goal.rounds-preserved
rounds-preserved c =
    let keys : List ℕ = c.args.keys.now in
    let long : length c.args.keys.now ≡ 16 = search rules in
    let all : length (map key_bits c.args.keys.now) ≡ 16 = length-map keys key_bits ∙ long in
    rounds_more (map key_bits keys) c.rounds.n c.rounds.left c.rounds.right c.round_value.result _ _ _ (omega (arith, all)) (key_at keys c.rounds.n (omega (arith, long))) c.round_value.ensures refl c.rounds.invariant

pub returns : goal.returns
returns c =
    let keys : List ℕ = c.args.keys.now in
    let long : length c.args.keys.now ≡ 16 = search rules in
    let all : length (map key_bits c.args.keys.now) ≡ 16 = length-map keys key_bits ∙ long in
    rounds_end (map key_bits keys) c.rounds.n c.rounds.left c.rounds.right _ (omega arith) (omega (arith, all)) c.rounds.invariant
