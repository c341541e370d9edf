use Rattle.std.proofs.Common.{◌≡◌, ℕ, ◌-◌, List, ◌++◌, length, take, drop, ap, ◌∙◌, rules}
use Rattle.std.proofs.lemmas.List.{take_rest}
use Rattle.krb_crypto_hash.specs.Xor.{xor_lists}
use Rattle.krb_crypto_hash.proofs.XorLists.{padded_whole}
use Rattle.krb_crypto_block.proofs.StealingSteps.{both_written}
use Rattle.krb_crypto_block.proofs.stealing.decrypt_last_two.Goals as goal

pub returns : goal.returns
returns g c =
    let D : List ℕ → List ℕ = g.C.BlockDecrypt.decrypts c.args.cipher.now in
    let rest : List ℕ = c.args.rest.now in
    let n : ℕ = length rest - 16 in
    let last : List ℕ = D (take 16 rest) in
    let stolen : List ℕ = drop 16 rest ++ drop n last in
    let last_is : c.decrypt_block-last.result ≡ last = c.decrypt_block-last.ensures ∙ ap D c.copy_from_slice.ensures.after in
    let part : c.copy_from_slice-2.new.self ≡ drop 16 rest = c.copy_from_slice-2.ensures.after ∙ take_rest rest 16 in
    let stolen_is = ap (λ (k : List ℕ). k ++ drop n c.decrypt_block-last.result) part ∙ ap (λ (k : List ℕ). drop 16 rest ++ drop n k) last_is in
    let plain : length c.decrypt_block.result ≡ 16 = search rules in
    let wide : length c.decrypt_block-last.result ≡ 16 = search rules in
    let first : c.xored_with-first.result ≡ xor_lists (D stolen) c.args.before.now =
    c.xored_with-first.ensures ∙ ap (λ (k : List ℕ). xor_lists k c.args.before.now) (padded_whole 16 c.decrypt_block.result plain ∙ c.decrypt_block.ensures ∙ ap D stolen_is) in
    let second : c.xored_with-second.result ≡ xor_lists last stolen =
    c.xored_with-second.ensures ∙ ap (λ (k : List ℕ). xor_lists k (c.copy_from_slice-2.new.self ++ drop n c.decrypt_block-last.result)) (padded_whole 16 c.decrypt_block-last.result wide ∙ last_is) ∙ ap (xor_lists last) stolen_is in
    let long : length c.copy_from_slice-3.new.self ≡ 16 = search rules in
    both_written 16 c.copy_from_slice-3.new.self (drop 16 rest) c.copy_from_slice-4.new.self long
    ∙ ap (λ (k : List ℕ). k ++ c.copy_from_slice-4.new.self) (c.copy_from_slice-3.ensures.after ∙ first)
    ∙ ap (λ (k : List ℕ). xor_lists (D stolen) c.args.before.now ++ k) (c.copy_from_slice-4.ensures.after ∙ ap (take n) second)
