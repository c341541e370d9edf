-- Lists of encryption types, walked from their front.
use Rattle.std.proofs.Common.{◌≡◌, ◌∙◌, ◌+◌, ◌<◌, ℕ, ℤ, pos, List, [], ◌∷◌, ◌++◌, length, map, take, suc, Any, ap, sym, arith, get_or}
use Rattle.std.proofs.lemmas.List.{get_or_default, map-append}
use Rattle.std.proofs.Math.Seq.{take-suc}
use Rattle.krb_crypto.specs.Suites.{NoSuite}
use Rattle.krb_crypto.specs.declared.cipher_suite.CipherSuite.{CipherSuite}
use Rattle.krb_c_calls.specs.Numbers.{etype_number}

-- one more of them
pub taken : {A : Type 0} (xs : List A) (i : ℕ) (d : A) → i < length xs → take (i + 1) xs ≡ take i xs ++ (get_or xs i d ∷ [])
taken {A} xs i d within = let next : i + 1 ≡ suc i = omega (arith) in ap (λ (n : ℕ). take n xs) next ∙ take-suc xs i d within

pub one_more : (etypes : List ℤ) (i : ℕ) (before after : List CipherSuite) (suite : CipherSuite) → i < length etypes
    → map etype_number before ≡ take i etypes → after ≡ before ++ suite ∷ [] → etype_number suite ≡ get_or etypes i (pos 0)
    → map etype_number after ≡ take (i + 1) etypes
one_more etypes i before after suite within so_far is this =
    ap (λ (x : List CipherSuite). map etype_number x) is ∙ map-append etype_number before (suite ∷ []) ∙ ap (λ (x : List ℤ). x ++ etype_number suite ∷ []) so_far
    ∙ ap (λ (x : ℤ). take i etypes ++ x ∷ []) this ∙ sym (taken etypes i (pos 0) within)

pub none_at : (etypes : List ℤ) (i : ℕ) → i < length etypes → NoSuite etype_number (get_or etypes i (pos 0)) → Any (NoSuite etype_number) etypes
none_at etypes i within none = (i, get_or etypes i (pos 0), within, get_or_default etypes i (get_or etypes i (pos 0)) (pos 0) within, none)
