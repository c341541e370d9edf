-- The shortest octets of a number that is not negative.
use Rattle.std.proofs.Common.{◌≡◌, ℕ, ◌<◌, ◌≤◌, List, [], ◌∷◌, get_or, pos, refl, sym, ap, arith}
use Rattle.std.proofs.lemmas.Bool.{le-ltb, lt-ltb}
use Rattle.std.specs.Int.Digits.{digits_of}
use Rattle.std.proofs.lemmas.Int.Digits.{first_digits_of}
use Rattle.krb_der_core.specs.Tlv.{tlv}
use Rattle.krb_der_core.specs.TlvLaws.{tlv_same}
use Rattle.krb_der_core.specs.Encoding.{OneValue}
use Rattle.krb_der_core.specs.Integer.{signed_prefix, unsigned, shortest}
use Rattle.krb_der_core.specs.IntegerLaws.{integer_one_content}

same_pos : (m n : ℕ) → pos m ≡ pos n → m ≡ n
same_pos m n e = cc

pub unsigned_one_value : (P : ℕ → Type 0) → OneValue P (λ v. tlv 2 (shortest (pos v)))
unsigned_one_value P v w hv hw e = same_pos v w (integer_one_content (pos v) (pos w) tt tt (tlv_same 2 2 (shortest (pos v)) (shortest (pos w)) e))

prefix_plain : (ds : List ℕ) → 0 < get_or ds 0 0 → get_or ds 0 0 < 128 → ds ≡ signed_prefix ds
prefix_plain [] some lt = absurd (omega (arith, some))
prefix_plain (d ∷ ds) some lt = sym (rw (lt-ltb d 128 lt) refl)

prefix_padded : (ds : List ℕ) → 128 ≤ get_or ds 0 0 → 0 ∷ ds ≡ signed_prefix ds
prefix_padded [] le = absurd (omega (arith, le))
prefix_padded (d ∷ ds) le = sym (rw (le-ltb d 128 le) refl)

pub unsigned_zero : (n : ℕ) → n ≡ 0 → 0 ∷ [] ≡ unsigned n
unfolding unsigned
unsigned_zero n e = sym (ap unsigned e)

pub unsigned_plain : (n : ℕ) → 0 < n → get_or (digits_of 256 n) 0 0 < 128 → digits_of 256 n ≡ unsigned n
unfolding unsigned
unsigned_plain n some lt = prefix_plain (digits_of 256 n) (first_digits_of 256 n (omega arith) some) lt

pub unsigned_padded : (n : ℕ) → 128 ≤ get_or (digits_of 256 n) 0 0 → 0 ∷ digits_of 256 n ≡ unsigned n
unfolding unsigned
unsigned_padded n le = prefix_padded (digits_of 256 n) le
