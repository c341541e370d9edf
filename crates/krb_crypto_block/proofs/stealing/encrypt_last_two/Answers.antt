use Rattle.std.proofs.Common.{◌≡◌, ℕ, ◌-◌, List, ◌++◌, length, take, drop, ap, ◌∙◌, rules}
use Rattle.std.proofs.lemmas.List.{take_rest}
use Rattle.krb_crypto_hash.specs.Xor.{xor_lists}
use Rattle.krb_crypto_block.specs.Modes.{padded}
use Rattle.krb_crypto_hash.proofs.XorLists.{padded_whole}
use Rattle.krb_crypto_block.proofs.StealingSteps.{both_written}
use Rattle.krb_crypto_block.proofs.stealing.encrypt_last_two.Goals as goal

pub returns : goal.returns
returns g c =
    let E : List ℕ → List ℕ = g.C.BlockEncrypt.encrypts c.args.cipher.now in
    let rest : List ℕ = c.args.rest.now in
    let stolen : List ℕ = E (xor_lists (take 16 rest) c.args.before.now) in
    let whole : length (take 16 rest) ≡ 16 = search rules in
    let first : c.encrypt_block-stolen.result ≡ stolen = c.encrypt_block-stolen.ensures ∙ ap E (c.xored_with.ensures ∙ ap (λ (k : List ℕ). xor_lists k c.args.before.now) (padded_whole 16 (take 16 rest) whole)) in
    let second : c.encrypt_block-last.result ≡ E (xor_lists (padded (drop 16 rest)) stolen) = c.encrypt_block-last.ensures ∙ ap E (c.xored_with-2.ensures ∙ ap (λ (k : List ℕ). xor_lists (padded k) c.encrypt_block-stolen.result) (take_rest rest 16) ∙ ap (λ (k : List ℕ). xor_lists (padded (drop 16 rest)) k) first) in
    let long : length c.copy_from_slice.new.self ≡ 16 = search rules in
    both_written 16 c.copy_from_slice.new.self (drop 16 rest) c.copy_from_slice-2.new.self long
    ∙ ap (λ (k : List ℕ). k ++ c.copy_from_slice-2.new.self) (c.copy_from_slice.ensures.after ∙ second)
    ∙ ap (λ (k : List ℕ). E (xor_lists (padded (drop 16 rest)) stolen) ++ k) (c.copy_from_slice-2.ensures.after ∙ ap (take (length rest - 16)) first)
