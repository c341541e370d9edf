-- A list of octets is the octets of its number.
use Rattle.std.proofs.Common.{◌≡◌, ℕ, zero, suc, ◌+◌, ◌-◌, ◌*◌, ◌/◌, ◌%◌, List, [], ◌∷◌, ◌++◌, length, get_or, refl, sym, ap, ◌∙◌, arith, append_assoc, length-append}
use Rattle.std.specs.Int.{byte_at, bytes_high_first}
use Rattle.std.proofs.lemmas.List.{get_or-append_right}
use Rattle.krb_crypto_block.specs.Modes.{IsOctets}
use Rattle.krb_crypto_block.specs.Fold.{number, folded_number, fold}
use Rattle.krb_crypto_block.proofs.FoldWorth.{worth, octet_of}

byte_at_is : (e n : ℕ) → byte_at e n ≡ n / worth e % 256
unfolding worth
byte_at_is zero n = omega arith
byte_at_is (suc e) n = refl

high_first : (ys xs : List ℕ) → IsOctets (ys ++ xs) → bytes_high_first (length xs) (number (ys ++ xs)) ≡ xs
high_first ys [] h = refl
high_first ys (x ∷ xs) h =
    let place : length ys + suc (length xs) ≡ length (ys ++ x ∷ xs) = sym (length-append ys (x ∷ xs)) in
    let none : length ys - length ys ≡ 0 = omega arith in
    let top : byte_at (length xs) (number (ys ++ x ∷ xs)) ≡ x =
    byte_at_is (length xs) (number (ys ++ x ∷ xs)) ∙ octet_of (ys ++ x ∷ xs) (length ys) (length xs) h place
    ∙ get_or-append_right ys (x ∷ xs) (length ys) (length ys) 0 refl (omega arith) ∙ ap (λ (i : ℕ). get_or (x ∷ xs) i 0) none in
    let moved : ys ++ x ∷ xs ≡ (ys ++ x ∷ []) ++ xs = sym (append_assoc ys (x ∷ []) xs) in
    let octets : IsOctets ((ys ++ x ∷ []) ++ xs) = rw (← moved) h in
    let rest : bytes_high_first (length xs) (number (ys ++ x ∷ xs)) ≡ xs = ap (λ (t : List ℕ). bytes_high_first (length xs) (number t)) moved ∙ high_first (ys ++ x ∷ []) xs octets in
    ap (λ (b : ℕ). b ∷ bytes_high_first (length xs) (number (ys ++ x ∷ xs))) top ∙ ap (λ (t : List ℕ). x ∷ t) rest

-- the octets of its number
pub octets_of_number : (xs : List ℕ) → IsOctets xs → bytes_high_first (length xs) (number xs) ≡ xs
octets_of_number xs h = high_first [] xs h

pub folded_is : (out xs : List ℕ) (n m : ℕ) → IsOctets out → length out ≡ n / 8 → m ≡ n → number out ≡ folded_number (number xs) (8 * length xs) m → out ≡ fold xs n
unfolding fold
folded_is out xs n m h len e value =
    sym (octets_of_number out h) ∙ ap (λ (k : ℕ). bytes_high_first k (number out)) len
    ∙ ap (λ (v : ℕ). bytes_high_first (n / 8) v) (value ∙ ap (λ (k : ℕ). folded_number (number xs) (8 * length xs) k) e)
