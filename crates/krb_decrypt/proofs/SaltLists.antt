-- The first sixteen of a list that grows.
use Rattle.std.proofs.Common.{ap, arith, sym, ◌∙◌, ◌≡◌, ◌≤◌, ◌<◌, ℕ, List, [], ◌∷◌, ◌++◌, take, length, Option, Some, None}
use Rattle.std.proofs.Math.Seq.{take-append_seam}
use Rattle.std.proofs.lemmas.List.{append-nil, append_assoc, length-append, take_all}
use Rattle.krb_show.specs.Tokens.{Token}
use Rattle.krb_decrypt.specs.Salts.{in_list, salt_at, salts_in}

-- sixteen are there: what stands behind them does not matter
pub enough : {A : Type 0} (xs ys rs : List A) → take 16 (xs ++ ys) ≡ rs → length xs ≡ 16 → xs ≡ rs
enough xs ys rs t n = sym (take-append_seam xs ys) ∙ ap (λ k. take k (xs ++ ys)) n ∙ t

-- nothing is left
pub all_taken : (xs rs : List (List ℕ)) (rest : List Token) → length rest ≡ 0 → take 16 (xs ++ salts_in rest) ≡ rs → length xs ≤ 16 → xs ≡ rs
all_taken xs rs [] e t n = sym (take_all 16 xs n) ∙ sym (ap (take 16) (append-nil xs)) ∙ t
all_taken xs rs (r ∷ rest) e t n = absurd (omega (arith, e))

-- one token more
pub one_more : (xs ys rs : List (List ℕ)) (rest behind : List Token) (t : Token) → rest ≡ t ∷ behind → ys ≡ xs ++ in_list (salt_at rest)
    → take 16 (xs ++ salts_in rest) ≡ rs → take 16 (ys ++ salts_in behind) ≡ rs
one_more xs ys rs rest behind t e p h =
    let same : ys ++ salts_in behind ≡ xs ++ salts_in rest =
    ap (λ zs. zs ++ salts_in behind) p ∙ append_assoc xs (in_list (salt_at rest)) (salts_in behind)
    ∙ ap (λ ts. xs ++ (in_list (salt_at ts) ++ salts_in behind)) e ∙ ap (λ ts. xs ++ salts_in ts) (sym e) in
    ap (take 16) same ∙ h

short : (o : Option (List ℕ)) → length (in_list o) ≤ 1
short None = omega arith
short (Some salt) = omega arith

pub one_longer : (xs ys : List (List ℕ)) (o : Option (List ℕ)) → ys ≡ xs ++ in_list o → length xs < 16 → length ys ≤ 16
one_longer xs ys o p n = omega (arith, ap length p, length-append xs (in_list o), short o, n)
