use Rattle.std.proofs.Common.{rules, ◌≡◌, List, ℕ, take, ap, ◌∙◌}
use Rattle.krb_crypto_block.specs.Fold.{fold}
use Rattle.krb_crypto_message.specs.RandomToKey.{random_to_key}
use Rattle.krb_crypto_message.proofs.Deriving.{des3_derived}
use Rattle.krb_crypto_message.proofs.des.key_derivation.derived_key.Goals as goal

pub returns : goal.returns
returns c =
    let input : c.n_fold_into.new.out ≡ fold c.args.well_known.now 64 = search rules in
    c.key_of_seed.ensures ∙ ap (λ (k : List ℕ). random_to_key (take 21 k)) c.concatenated-blocks.ensures
    ∙ des3_derived c.args.cipher.now c.args.well_known.now c.n_fold_into.new.out c.encrypt_block-first.result c.encrypt_block-second.result c.encrypt_block-third.result
    input c.encrypt_block-first.ensures c.encrypt_block-second.ensures c.encrypt_block-third.ensures
