-- Readers, one call after another.
use Rattle.std.proofs.Common.{◌≡◌, ℕ, ◌-◌, ◌≤◌, ◌<◌, List, [], ◌++◌, length, take, drop, Option, None, Some, sym, ap, ◌∙◌, subst, arith, length-append, append-nil, drop_at, take_all, inl, inr, IfSome, IfOk, Ok, Err, Result, Vec, Global, ◌^◌}
use Rattle.std.proofs.Math.Seq.{take-append_seam}
use Rattle.std.proofs.Math.ListN.{drop_of_length-le}
use Rattle.std.proofs.Math.Nat.{eq-or-lt_of_le}
use Rattle.std.proofs.lemmas.List.{length-take, length-take-le}
use Rattle.std.specs.Io.KnownBytes.{Consumes, IsAtEnd, Keeps}
use Rattle.std.proofs.KnownBytes.{Consumes-kept, Consumes-trans}
use Rattle.krb_io.specs.declared.error.ReadError.{ReadError}
use Rattle.krb_io.specs.declared.error.ReadError.TheVariants as errors
use Rattle.krb_io.specs.Transfer.{IsPrefixRead, IsReadOnto, IsReadRejected, IsShortRead}

-- octets came, and then none
pub short_then_kept : (done count : ℕ) (xs : List ℕ) (a b c : Option (List ℕ)) → done < count → done ≤ length xs → Consumes a b (take done xs)
    → Keeps b c → IsShortRead count a c
short_then_kept done count xs a b c less within first kept =
    let long = length-take-le done xs within in
    record { octets = take done xs; fewer = omega arith; read = Consumes-kept a b c (take done xs) first kept }

pub short_then_none : (done count n : ℕ) (xs ys : List ℕ) (a b c : Option (List ℕ)) → done < count → done ≤ length xs → n ≡ 0
    → Consumes a b (take done xs) → Consumes b c (take n ys) → IsShortRead count a c
short_then_none done count n xs ys a b c less within none first second =
    let long = length-take-le done xs within in
    let same : take done xs ++ take n ys ≡ take done xs = ap (λ (k : ℕ). take done xs ++ take k ys) none ∙ append-nil (take done xs) in
    record { octets = take done xs; fewer = omega arith; read = subst (Consumes a c) same (Consumes-trans a b c (take done xs) (take n ys) first second) }

-- octets came, and then the reader failed before it gave the rest
pub rejected_after : (done count : ℕ) (old mid : List ℕ) (a b c : Option (List ℕ)) (e : ReadError) → IsReadOnto done old mid a b → done < count
    → IsReadRejected (count - done) b c e → IsReadRejected count a c e
rejected_after done count old mid a b c (errors.Io x) first less why =
    let short = why.1 in
    let long = length-append first.0 short.octets in
    let fewer = short.fewer in
    (why.0, record { octets = first.0 ++ short.octets; fewer = omega (arith, first.1); read = Consumes-trans a b c first.0 short.octets first.3 short.read })
rejected_after done count old mid a b c errors.OutOfMemory first less why = tt

-- what was read is the prefix that there was
pub prefix_read : (n count : ℕ) (octets : List ℕ) (a b : Option (List ℕ)) → IsReadOnto n [] octets a b → n ≤ count → (n < count → IsAtEnd b)
    → IsPrefixRead count octets a b
prefix_read n count octets None b r within end = tt
prefix_read n count octets (Some xs) None r within end = absurd r.3
prefix_read n count octets (Some xs) (Some ys) r within end =
    let long : length octets ≡ n = ap length r.2 ∙ r.1 in
    let whole : xs ≡ octets ++ ys = r.3 ∙ ap (λ (l : List ℕ). l ++ ys) (sym r.2) in
    elim (eq-or-lt_of_le within) [
      | inl e ↦
          (let first : take count (octets ++ ys) ≡ octets = ap (λ (k : ℕ). take k (octets ++ ys)) (sym (long ∙ e)) ∙ take-append_seam octets ys in
          let rest : drop count (octets ++ ys) ≡ ys = drop_at octets ys count (long ∙ e) in
          rw whole (sym first, ap Some (sym rest)))
      | inr less ↦
          (let none : ys ≡ [] = end less in
          let all : xs ≡ octets = whole ∙ ap (λ (l : List ℕ). octets ++ l) none ∙ append-nil octets in
          let short : length octets ≤ count = omega arith in
          rw (all, none) (sym (take_all count octets short), ap Some (sym (drop_of_length-le octets short))))
    ]

-- fewer octets than were asked for are all that there were
pub all_read : (count : ℕ) (octets : List ℕ) (a b : Option (List ℕ)) → length octets < count → IsPrefixRead count octets a b → IfSome a (λ all. octets ≡ all)
all_read count octets None b less r = tt
all_read count octets (Some xs) b less r =
    let short : length xs ≤ count = omega (arith, ap length r.0, length-take count xs) in
    r.0 ∙ take_all count xs short

-- a vector has fewer octets than these, so it holds all that there were
pub vector_read : (count : ℕ) (r : Result (Vec ℕ Global) ReadError) (a b : Option (List ℕ)) → 2 ^ 63 ≤ count
    → IfOk r (λ v. IsPrefixRead count v.items a b) → IfOk r (λ v. IfSome a (λ all. v.items ≡ all))
vector_read count (Ok v) a b much read = let held = v.ok in let small = v.small in all_read count v.items a b (omega arith) read
vector_read count (Err e) a b much read = tt
