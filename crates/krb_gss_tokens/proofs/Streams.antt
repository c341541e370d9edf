-- Several reads or writes, one after another.
use Rattle.std.proofs.Common.{◌≡◌, ℕ, List, [], ◌∷◌, ◌++◌, length, slice_index_or, take, Option, None, Some, IfSome, refl, sym, ap, ◌∙◌, append_assoc, arith}
use Rattle.std.proofs.Math.Seq.{take-append_seam}
use Rattle.std.specs.Io.KnownBytes.{Appends, Consumes}
use Rattle.krb_gss_tokens.specs.PerMessageRejected.{Begins}

pub appends_then : (a b c : Option (List ℕ)) (xs ys : List ℕ) → Appends a b xs → Appends b c ys → Appends a c (xs ++ ys)
appends_then None b c xs ys p q = tt
appends_then (Some l) None c xs ys p q = absurd p
appends_then (Some l) (Some m) None xs ys p q = q
appends_then (Some l) (Some m) (Some n) xs ys p q = q ∙ ap (λ z. z ++ ys) p ∙ append_assoc l xs ys

-- a header and what follows it, each given by an equation
pub appends_parts : (a b c : Option (List ℕ)) (header prefix rest octets : List ℕ) → header ≡ prefix → rest ≡ octets → Appends a b header → Appends b c rest → Appends a c (prefix ++ octets)
appends_parts a b c header prefix rest octets e f p q =
    rw (← e, ← f) (appends_then a b c header rest p q)

pub joined_parts : (header prefix rest octets : List ℕ) → header ≡ prefix → rest ≡ octets → header ++ rest ≡ prefix ++ octets
joined_parts header prefix rest octets e f = cc

pub consumes_then : (a b c : Option (List ℕ)) (xs ys : List ℕ) → Consumes a b xs → Consumes b c ys → Consumes a c (xs ++ ys)
consumes_then None b c xs ys p q = tt
consumes_then (Some l) None c xs ys p q = absurd p
consumes_then (Some l) (Some m) None xs ys p q = q
consumes_then (Some l) (Some m) (Some n) xs ys p q = p ∙ ap (λ z. xs ++ z) q ∙ sym (append_assoc xs ys n)

-- what was read is at the start of what was there
pub begun : (a b : Option (List ℕ)) (prefix : List ℕ) → Consumes a b prefix → IfSome a (λ octets. Begins octets prefix)
begun None b prefix p = tt
begun (Some l) None prefix p = absurd p
begun (Some l) (Some m) prefix p = (m, p)

-- what was read and what was left are all that was there
pub all_read : (a b : Option (List ℕ)) (prefix rest : List ℕ) → Consumes a b prefix → IfSome b (λ left. rest ≡ left) → IfSome a (λ octets. octets ≡ prefix ++ rest)
all_read None b prefix rest p q = tt
all_read (Some l) None prefix rest p q = absurd p
all_read (Some l) (Some m) prefix rest p q = p ∙ ap (λ z. prefix ++ z) (sym q)

-- the only octet of a list of one
pub one_octet : (xs : List ℕ) → length xs ≡ 1 → xs ≡ slice_index_or xs 0 0 ∷ []
one_octet [] e = absurd (omega arith)
one_octet (x ∷ []) e = refl
one_octet (x ∷ y ∷ xs) e = absurd (omega arith)

-- the two octets of a list of two
pub two_octets : (xs : List ℕ) → length xs ≡ 2 → xs ≡ slice_index_or xs 0 0 ∷ slice_index_or xs 1 0 ∷ []
two_octets [] e = absurd (omega arith)
two_octets (x ∷ []) e = absurd (omega arith)
two_octets (x ∷ y ∷ []) e = refl
two_octets (x ∷ y ∷ z ∷ xs) e = absurd (omega arith)

-- so many octets at the start are the prefix itself
pub prefix_taken : (prefix rest : List ℕ) (n : ℕ) → length prefix ≡ n → take n (prefix ++ rest) ≡ prefix
prefix_taken prefix rest n e = rw (← e) (take-append_seam prefix rest)
