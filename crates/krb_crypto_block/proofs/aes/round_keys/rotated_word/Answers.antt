use Rattle.std.proofs.Common.{List, ℕ, [], ◌∷◌, map, bit_xor, replicate, slice_index, ap, ◌∙◌}
use lib.Lanes.{zip2}
use Rattle.krb_crypto_block.specs.AesNextKey.{in_each_column}
use Rattle.krb_crypto_block.specs.declared.aes.tables.TheConstants.{ROUND_CONSTANTS}
use Rattle.krb_crypto_block.proofs.AesRoundLanes.{picked}
use Rattle.krb_crypto_block.proofs.AesNextKeys.{rotated_places, looked_up_last, constants_entry, rotated_word_is}
use Rattle.krb_crypto_block.proofs.aes.round_keys.rotated_word.Goals as goal

pub returns : goal.returns
returns c = λ st is e.
    let p = slice_index ROUND_CONSTANTS c.args.n in
    ap (λ (v : List ℕ). zip2 bit_xor (zip2 bit_xor v (replicate 16 0x63)) (in_each_column (p ∷ 0 ∷ 0 ∷ 0 ∷ [])))
    (c.substituted.ensures ∙ ap (λ (v : List ℕ). map looked_up_last (picked v rotated_places)) e)
    ∙ rotated_word_is st is p c.args.n (constants_entry c.args.n c.requires)
