-- CBC as a function of the plain blocks.
use Rattle.std.proofs.Common.{◌≡◌, ℕ, zero, suc, ◌<◌, List, [], ◌∷◌, length, get_or, refl, sym, ap, ◌∙◌, arith}
use Rattle.krb_crypto_hash.specs.Xor.{xor_lists}
use Rattle.krb_crypto_block.specs.Modes.{before, CbcFrom}

unfoldable pub chained : (List ℕ → List ℕ) → List ℕ → List (List ℕ) → List (List ℕ)
chained E v [] = []
chained E v (p ∷ ps) = E (xor_lists p v) ∷ chained E (E (xor_lists p v)) ps

before-cons : (v c : List ℕ) (cs : List (List ℕ)) (i : ℕ) → before v (c ∷ cs) (suc i) ≡ before c cs i
before-cons v c cs zero = refl
before-cons v c cs (suc i) = refl

pub chained_from : (E : List ℕ → List ℕ) (v : List ℕ) (ps cs : List (List ℕ)) → CbcFrom E v ps cs → cs ≡ chained E v ps
unfolding chained
chained_from E v [] [] h = refl
chained_from E v [] (c ∷ cs) h = absurd (omega (arith, h.0))
chained_from E v (p ∷ ps) [] h = absurd (omega (arith, h.0))
chained_from E v (p ∷ ps) (c ∷ cs) h =
    let first : c ≡ E (xor_lists p v) = h.1 0 (omega arith) in
    let len : length cs ≡ length ps = omega (arith, h.0) in
    let rest : CbcFrom E c ps cs = (len, λ i lt. h.1 (suc i) (omega arith) ∙ ap (λ (k : List ℕ). E (xor_lists (get_or ps i []) k)) (before-cons v c cs i)) in
    let tail : cs ≡ chained E c ps = chained_from E c ps cs rest in
    rw (← first) (ap (λ (k : List (List ℕ)). c ∷ k) tail)

at : (E : List ℕ → List ℕ) (v p : List ℕ) (ps : List (List ℕ))
    → ((i : ℕ) → i < length ps → get_or (chained E (E (xor_lists p v)) ps) i [] ≡ E (xor_lists (get_or ps i []) (before (E (xor_lists p v)) (chained E (E (xor_lists p v)) ps) i)))
    → (i : ℕ) → i < length (p ∷ ps) → get_or (chained E v (p ∷ ps)) i [] ≡ E (xor_lists (get_or (p ∷ ps) i []) (before v (chained E v (p ∷ ps)) i))
unfolding chained
at E v p ps h zero lt = refl
at E v p ps h (suc i) lt =
    let c : List ℕ = E (xor_lists p v) in
    h i (omega arith) ∙ ap (λ (k : List ℕ). E (xor_lists (get_or ps i []) k)) (sym (before-cons v c (chained E c ps) i))

pub CbcFrom-chained : (E : List ℕ → List ℕ) (v : List ℕ) (ps : List (List ℕ)) → CbcFrom E v ps (chained E v ps)
unfolding chained
CbcFrom-chained E v [] = (refl, λ i lt. absurd (omega arith))
CbcFrom-chained E v (p ∷ ps) =
    let c : List ℕ = E (xor_lists p v) in
    let rest : CbcFrom E c ps (chained E c ps) = CbcFrom-chained E c ps in
    (ap suc rest.0, λ i lt. at E v p ps rest.1 i lt)
