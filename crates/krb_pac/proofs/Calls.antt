-- Readers and writers, one call after the other.
use Rattle.std.proofs.Common.{ℕ, ◌+◌, ◌≤◌, List, [], ◌++◌, length, take, drop, Option, None, Some, refl, sym, ap, ◌∙◌, arith, length-drop, length-append, take-append-drop}
use Rattle.std.proofs.lemmas.List.{length-take-le, drop-drop}
use Rattle.std.specs.Io.KnownBytes.{Consumes}
use Rattle.std.proofs.KnownBytes.{Consumes-trans}
use Rattle.byteorder.specs.Endian.{little_number, ReadsNumber}
use Rattle.krb_io.specs.Transfer.{IsNotInterrupted, IsShortRead}
use Rattle.krb_pac.specs.Devices.{EntryRejected, IsIo}
use Rattle.krb_pac.specs.declared.error.PacError.{PacError}
use Rattle.krb_pac.specs.declared.error.PacError.TheVariants as errors

-- a number came, and then fewer octets
pub fewer_trailing : (n k x : ℕ) (a b c : Option (List ℕ)) → ReadsNumber little_number n a b x → IsShortRead k b c → IsShortRead (n + k) a c
fewer_trailing n k x None b c r h = record { octets = h.octets; fewer = let f = h.fewer in omega arith; read = tt }
fewer_trailing n k x (Some xs) None c r h = absurd r
fewer_trailing n k x (Some xs) (Some ys) c r h =
    let prefix = length-take-le n xs r.0 in
    let long = length-append (take n xs) h.octets in
    let first : Consumes (Some xs) (Some ys) (take n xs) = sym (take-append-drop n xs) ∙ ap (λ (z : List ℕ). take n xs ++ z) (sym r.2) in
    let f = h.fewer in
    record { octets = take n xs ++ h.octets; fewer = omega arith; read = Consumes-trans (Some xs) (Some ys) c (take n xs) h.octets first h.read }

-- a number of an entry came, and then fewer octets than its next number has
pub rejected_trailing : (n k x : ℕ) (a b c : Option (List ℕ)) (e : PacError) → n + k ≤ 16 → ReadsNumber little_number n a b x
    → IsIo (λ f. IsNotInterrupted f × IsShortRead k b c) e → EntryRejected a c e
rejected_trailing n k x a b c (errors.IoError f) h r y =
    let all = fewer_trailing n k x a b c r y.1 in
    let fewer = all.fewer in
    (y.0, record { octets = all.octets; fewer = omega arith; read = all.read })
rejected_trailing n k x a b c errors.OutOfMemory h r y = absurd y
rejected_trailing n k x a b c errors.InvalidRange h r y = absurd y
rejected_trailing n k x a b c (errors.PacBufferType m) h r y = absurd y
rejected_trailing n k x a b c (errors.Version m) h r y = absurd y
rejected_trailing n k x a b c (errors.InvalidVersion m) h r y = absurd y

abbrev prefix_of : Option (List ℕ) → List ℕ
prefix_of None = []
prefix_of (Some xs) = xs

-- two numbers came, one after the other
pub both_came : (n m x y : ℕ) (a b c : Option (List ℕ)) → ReadsNumber little_number n a b x → ReadsNumber little_number m b c y
    → ReadsNumber little_number (n + m) a c (little_number (n + m) (prefix_of a))
both_came n m x y None b c r s = tt
both_came n m x y (Some xs) None c r s = absurd r
both_came n m x y (Some xs) (Some ys) None r s = absurd s
both_came n m x y (Some xs) (Some ys) (Some zs) r s =
    let long = length-drop n xs in
    let left = ap length r.2 in
    (omega (arith, r.0, s.0), refl, s.2 ∙ ap (drop m) r.2 ∙ drop-drop m n xs ∙ ap (λ (k : ℕ). drop k xs) (omega arith))
