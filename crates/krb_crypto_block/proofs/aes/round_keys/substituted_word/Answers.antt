use Rattle.std.proofs.Common.{List, ℕ, map, bit_xor, replicate, ap, ◌∙◌}
use lib.Lanes.{zip2}
use Rattle.krb_crypto_block.proofs.AesRoundLanes.{picked}
use Rattle.krb_crypto_block.proofs.AesNextKeys.{last_places, looked_up_last, substituted_word_is}
use Rattle.krb_crypto_block.proofs.aes.round_keys.substituted_word.Goals as goal

pub returns : goal.returns
returns c = λ st is e.
    ap (λ (v : List ℕ). zip2 bit_xor v (replicate 16 0x63)) (c.substituted.ensures ∙ ap (λ (v : List ℕ). map looked_up_last (picked v last_places)) e)
    ∙ substituted_word_is st is
