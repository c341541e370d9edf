-- What is printed is printable.
use Rattle.std.proofs.Common.{◌≡◌, ◌<◌, ◌/◌, ◌%◌, ◌&&◌, Bool, true, false, ℕ, suc, nat_le, refl, List, [], ◌∷◌, ◌++◌, arith, codes, if◌then◌else◌}
use Rattle.std.proofs.lemmas.Grind.{common_steps}
use Rattle.krb_der_core.specs.Encoding.{IsOctets}
use Rattle.krb_accept_report.specs.Texts.{ArePrintable, IsPrintable, digit, printed, printed_octet}

append : (xs ys : List ℕ) → ArePrintable xs → ArePrintable ys → ArePrintable (xs ++ ys)
append [] ys p q = q
append (x ∷ xs) ys p q = (p.0, append xs ys p.1 q)

choice : (b : Bool) (xs ys : List ℕ) → (b ≡ true → ArePrintable xs) → (b ≡ false → ArePrintable ys) → ArePrintable (if b then xs else ys)
choice true xs ys p q = p refl
choice false xs ys p q = q refl

printable_digit : (n : ℕ) → n < 16 → IsPrintable (digit n)
printable_digit n small = grind (arith, common_steps)

digits : ℕ → List ℕ
digits octet = digit (octet / 16) ∷ digit (octet % 16) ∷ []

printable_hex : (octet : ℕ) → octet < 256 → ArePrintable (codes "\\x" ++ digits octet)
unfolding digits
printable_hex octet small =
    append (codes "\\x") (digits octet) (grind arith) (printable_digit (octet / 16) (omega (arith, small)), (printable_digit (octet % 16) (omega (arith, small)), tt))

within : (octet : ℕ) → nat_le 32 octet && nat_le octet 126 ≡ true → IsPrintable octet
within octet e = grind (arith, common_steps)

printable_octet : (octet : ℕ) → octet < 256 → ArePrintable (printed_octet octet)
unfolding digits
printable_octet octet small =
    choice (nat_le 32 octet && nat_le octet 126) (octet ∷ []) (codes "\\x" ++ digits octet) (λ e. (within octet e, tt)) (λ _. printable_hex octet small)

pub printable_text : (text : List ℕ) → IsOctets text → ArePrintable (printed text)
printable_text [] h = tt
printable_text (x ∷ xs) h = append (printed_octet x) (printed xs) (printable_octet x (h 0)) (printable_text xs (λ i. h (suc i)))
