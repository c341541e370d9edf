use Rattle.std.proofs.Common.{ℕ, List, map, ap, ◌∙◌}
use Rattle.krb_crypto_block.specs.AesLanes.{linear_of}
use Rattle.krb_crypto_block.specs.declared.aes.tables.TheConstants.{E9_LOW, E9_HIGH, EB_LOW, EB_HIGH, ED_LOW, ED_HIGH, EE_LOW, EE_HIGH}
use Rattle.krb_crypto_block.proofs.AesInverseLanes.{vector_unmixed, unmixed_is}
use Rattle.krb_crypto_block.proofs.aes.inverse_rounds.unmixed.Goals as goal

pub returns : goal.returns
returns c = λ st is e.
    let b = ap (map (linear_of EB_LOW EB_HIGH)) e in
    let d = ap (map (linear_of ED_LOW ED_HIGH)) e in
    let n = ap (map (linear_of E9_LOW E9_HIGH)) e in
    let o = ap (map (linear_of EE_LOW EE_HIGH)) e in
    ap (λ (v : List ℕ). vector_unmixed v c.linear.result c.linear-2.result c.linear-3.result) (c.linear-4.ensures ∙ o)
    ∙ ap (λ (v : List ℕ). vector_unmixed (map (linear_of EE_LOW EE_HIGH) st) v c.linear-2.result c.linear-3.result) (c.linear.ensures ∙ b)
    ∙ ap (λ (v : List ℕ). vector_unmixed (map (linear_of EE_LOW EE_HIGH) st) (map (linear_of EB_LOW EB_HIGH) st) v c.linear-3.result) (c.linear-2.ensures ∙ d)
    ∙ ap (vector_unmixed (map (linear_of EE_LOW EE_HIGH) st) (map (linear_of EB_LOW EB_HIGH) st) (map (linear_of ED_LOW ED_HIGH) st)) (c.linear-3.ensures ∙ n)
    ∙ unmixed_is st is
