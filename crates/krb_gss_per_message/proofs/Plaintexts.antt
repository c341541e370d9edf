-- Where a plaintext ends in filler and a header, and a message in its checksum.
use Rattle.std.proofs.Common.{◌≡◌, ◌≢◌, ℕ, ◌-◌, ◌<◌, ◌≤◌, List, ◌++◌, length, take, drop, refl, sym, ap, ◌∙◌, arith}
use Rattle.std.proofs.lemmas.List.{length-append, length-drop, take-append-drop, take-append-le}
use Rattle.std.proofs.Math.Seq.{drop-append_seam, take-append_seam}
use Rattle.krb_gss_per_message.specs.Keys.{Key}
use Rattle.krb_gss_per_message.specs.Unwrap.{IsPlaintextOf, IsClearDataOf}
use Rattle.krb_gss_per_message.specs.Wrap.{clear_sum}

-- parts of equal lengths are equal
fronts : (a b c d : List ℕ) → length b ≡ length d → a ++ b ≡ c ++ d → length a ≡ length c
fronts a b c d size e = omega (arith, length-append a b, length-append c d, ap length e)

pub back_once : (a b c d : List ℕ) → length b ≡ length d → a ++ b ≡ c ++ d → b ≡ d
back_once a b c d size e =
    sym (drop-append_seam a b) ∙ ap (drop (length a)) e ∙ ap (λ (n : ℕ). drop n (c ++ d)) (fronts a b c d size e) ∙ drop-append_seam c d

pub front_once : (a b c d : List ℕ) → length b ≡ length d → a ++ b ≡ c ++ d → a ≡ c
front_once a b c d size e =
    sym (take-append_seam a b) ∙ ap (take (length a)) e ∙ ap (λ (n : ℕ). take n (c ++ d)) (fronts a b c d size e) ∙ take-append_seam c d

-- ---- plaintexts

parts : (extra : ℕ) (header plaintext message : List ℕ) → (is : IsPlaintextOf extra header plaintext message) → plaintext ≡ (message ++ is.0) ++ header
parts extra header plaintext message is = is.2

pub other_header : (extra : ℕ) (header plaintext front back : List ℕ) → plaintext ≡ front ++ back → length back ≡ length header → back ≢ header
    → (message : List ℕ) → ¬ IsPlaintextOf extra header plaintext message
other_header extra header plaintext front back e size differ message is =
    differ (back_once front back (message ++ is.0) header size (sym e ∙ parts extra header plaintext message is))

pub filler_short : (extra : ℕ) (header plaintext front back : List ℕ) → plaintext ≡ front ++ back → length back ≡ length header → length front < extra
    → (message : List ℕ) → ¬ IsPlaintextOf extra header plaintext message
filler_short extra header plaintext front back e size short message is =
    let same = ap length (front_once front back (message ++ is.0) header size (sym e ∙ parts extra header plaintext message is)) in
    let filler = is.1 in
    omega (arith, length-append message is.0)

pub message_found : (extra : ℕ) (header plaintext front back : List ℕ) → plaintext ≡ front ++ back → back ≡ header → extra ≤ length front
    → (length front - extra ≤ length plaintext) × IsPlaintextOf extra header plaintext (take (length front - extra) plaintext)
message_found extra header plaintext front back e same long =
    let n : ℕ = length front - extra in
    let within : n ≤ length front = omega arith in
    let start : take n plaintext ≡ take n front = ap (take n) e ∙ take-append-le n front back within in
    let whole : front ≡ take n plaintext ++ drop n front = sym (take-append-drop n front) ∙ ap (λ (xs : List ℕ). xs ++ drop n front) (sym start) in (
      omega (arith, ap length e, length-append front back),
      (drop n front, length-drop n front ∙ omega arith, e ∙ ap (λ (xs : List ℕ). front ++ xs) same ∙ ap (λ (xs : List ℕ). xs ++ header) whole),
    )

-- one plaintext holds one message
pub message_once : (extra : ℕ) (header plaintext a b : List ℕ) → IsPlaintextOf extra header plaintext a → IsPlaintextOf extra header plaintext b → a ≡ b
message_once extra header plaintext a b is other =
    let fronts : a ++ is.0 ≡ b ++ other.0 = front_once (a ++ is.0) header (b ++ other.0) header refl (sym is.2 ∙ other.2) in
    front_once a is.0 b other.0 (is.1 ∙ sym other.1) fronts

-- ---- messages in the clear

pub clear_found : (key : Key) (extra : ℕ) (header octets front back : List ℕ) → octets ≡ front ++ back → length back ≡ extra → back ≡ clear_sum key header front
    → IsClearDataOf key extra header octets front
clear_found key extra header octets front back e size sum = (e ∙ ap (λ (xs : List ℕ). front ++ xs) sum, sym size ∙ ap length sum)

pub clear_once : (key : Key) (extra : ℕ) (header octets front back message : List ℕ) → octets ≡ front ++ back → length back ≡ extra → IsClearDataOf key extra header octets message → message ≡ front
clear_once key extra header octets front back message e size is =
    front_once message (clear_sum key header message) front back (sym is.1 ∙ sym size) (sym is.0 ∙ e)

pub clear_other : (key : Key) (extra : ℕ) (header octets front back : List ℕ) → octets ≡ front ++ back → length back ≡ extra → back ≢ clear_sum key header front
    → (message : List ℕ) → ¬ IsClearDataOf key extra header octets message
clear_other key extra header octets front back e size differ message is =
    let same = clear_once key extra header octets front back message e size is in
    let sum = back_once front back message (clear_sum key header message) (size ∙ is.1) (sym e ∙ is.0) in
    differ (sum ∙ ap (clear_sum key header) same)

pub clear_short : (key : Key) (extra : ℕ) (header octets : List ℕ) → length octets < extra → (message : List ℕ) → ¬ IsClearDataOf key extra header octets message
clear_short key extra header octets short message is =
    let sum = is.1 in
    omega (arith, ap length is.0, length-append message (clear_sum key header message))
