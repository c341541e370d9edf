use Rattle.std.proofs.Common.{arith, ap, sym, ◌∙◌, refl, ℕ, ◌≡◌, ◌-◌, ◌+◌, ◌≤◌, Bool, true, false, if◌then◌else◌, List, [], ◌∷◌, ◌++◌, take, length}
use Rattle.std.proofs.Math.Seq.{take-append_seam}
use Rattle.std.proofs.lemmas.List.{length-append}
use Rattle.krb_input.specs.Pem.{before_rule, from_rule, is_rule}

parts_of : (is_at : Bool) (octet : ℕ) (octets before after : List ℕ) → before ++ after ≡ octets
    → (if is_at then [] else octet ∷ before) ++ (if is_at then octet ∷ octets else after) ≡ octet ∷ octets
parts_of true octet octets before after is = refl
parts_of false octet octets before after is = ap (λ rest. octet ∷ rest) is

-- the two parts in a row
parts : (octets : List ℕ) → before_rule octets ++ from_rule octets ≡ octets
parts [] = refl
parts (octet ∷ octets) = parts_of (is_rule (octet ∷ octets)) octet octets (before_rule octets) (from_rule octets) (parts octets)

count : (octets : List ℕ) → length octets ≡ length (before_rule octets) + length (from_rule octets)
count octets = sym (ap length (parts octets)) ∙ length-append (before_rule octets) (from_rule octets)

pub from_is_no_longer : (octets : List ℕ) → length (from_rule octets) ≤ length octets
from_is_no_longer octets = omega (arith, count octets)

pub before_by_length : (octets : List ℕ) → take (length octets - length (from_rule octets)) octets ≡ before_rule octets
before_by_length octets =
    let size : length octets - length (from_rule octets) ≡ length (before_rule octets) = omega (arith, count octets) in
    ap (λ n. take n octets) size ∙ ap (take (length (before_rule octets))) (sym (parts octets)) ∙ take-append_seam (before_rule octets) (from_rule octets)
