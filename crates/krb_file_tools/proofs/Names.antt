-- Principals are printable.
use Rattle.std.proofs.Common.{◌≡◌, ◌∙◌, ◌<◌, ap, ◌==◌, ◌||◌, ◌&&◌, Bool, true, false, Option, None, Some, ℕ, suc, nat_le, refl, sym, subst, List, [], ◌∷◌, ◌++◌, arith, codes, if◌then◌else◌}
use Rattle.std.proofs.lemmas.Grind.{common_steps, flat_map-append}
use Rattle.std.proofs.lemmas.List.{append-nil}
use Rattle.krb_der_core.specs.Encoding.{IsOctets}
use Rattle.krb_file_tools.specs.Principals.{after_slashes, name_octet, name_text, plain_octet, quoted_or}
use Rattle.krb_show.specs.Leaves.{hex_octet}
use Rattle.krb_show_text.specs.Text.{ArePrintable, IsPrintable}
use Rattle.krb_show_text.proofs.Printable.{printable_append, printable_choice, printable_hex_octet}

printable_hex : (octet : ℕ) → octet < 256 → ArePrintable (codes "\\x" ++ hex_octet octet)
printable_hex octet small =
    printable_append (codes "\\x") (hex_octet octet) (grind arith) (printable_hex_octet octet small)

no_blank : (octet : ℕ) → nat_le 33 octet && nat_le octet 126 ≡ true → IsPrintable octet
no_blank octet e = grind (arith, common_steps)

printable_plain : (octet : ℕ) → octet < 256 → ArePrintable (plain_octet octet)
printable_plain octet small =
    printable_choice (nat_le 33 octet && nat_le octet 126) (octet ∷ []) (codes "\\x" ++ hex_octet octet) (λ e. (no_blank octet e, tt)) (λ _. printable_hex octet small)

quoted_choice : (octet : ℕ) (b : Bool) (x y : Option ℕ) → (b ≡ true → ArePrintable (quoted_or octet x)) → (b ≡ false → ArePrintable (quoted_or octet y))
    → ArePrintable (quoted_or octet (if b then x else y))
quoted_choice octet true x y p q = p refl
quoted_choice octet false x y p q = q refl

special : (octet : ℕ) → (octet == 47) || (octet == 64) || (octet == 92) ≡ true → IsPrintable octet
special octet e = grind (arith, common_steps)

printable_octet : (octet : ℕ) → octet < 256 → ArePrintable (name_octet octet)
printable_octet octet small =
    let nul : ArePrintable (quoted_or octet (if octet == 0 then Some 48 else None)) =
    quoted_choice octet (octet == 0) (Some 48) None (λ _. grind arith) (λ _. printable_plain octet small) in
    let backspace : ArePrintable (quoted_or octet (if octet == 8 then Some 98 else if octet == 0 then Some 48 else None)) =
    quoted_choice octet (octet == 8) (Some 98) (if octet == 0 then Some 48 else None) (λ _. grind arith) (λ _. nul) in
    let tabulator : ArePrintable (quoted_or octet (if octet == 9 then Some 116 else if octet == 8 then Some 98 else if octet == 0 then Some 48 else None)) =
    quoted_choice octet (octet == 9) (Some 116) (if octet == 8 then Some 98 else if octet == 0 then Some 48 else None) (λ _. grind arith) (λ _. backspace) in
    let feed : ArePrintable (quoted_or octet (if octet == 10 then Some 110 else if octet == 9 then Some 116 else if octet == 8 then Some 98 else if octet == 0 then Some 48 else None)) =
    quoted_choice octet (octet == 10) (Some 110) (if octet == 9 then Some 116 else if octet == 8 then Some 98 else if octet == 0 then Some 48 else None) (λ _. grind arith) (λ _. tabulator) in
    quoted_choice octet ((octet == 47) || (octet == 64) || (octet == 92)) (Some octet)
    (if octet == 10 then Some 110 else if octet == 9 then Some 116 else if octet == 8 then Some 98 else if octet == 0 then Some 48 else None)
    (λ e. (grind arith, (special octet e, tt))) (λ _. feed)

pub printable_name : (octets : List ℕ) → IsOctets octets → ArePrintable (name_text octets)
printable_name [] h = tt
printable_name (x ∷ xs) h = printable_append (name_octet x) (name_text xs) (printable_octet x (h 0)) (printable_name xs (λ i. h (suc i)))

-- components and one more
pub slashes_more : (components : List (List ℕ)) (c : List ℕ) → after_slashes (components ++ c ∷ []) ≡ after_slashes components ++ 47 ∷ name_text c
slashes_more components c =
    flat_map-append (λ (c : List ℕ). 47 ∷ name_text c) components (c ∷ []) ∙ ap (λ (r : List ℕ). after_slashes components ++ r) (append-nil (47 ∷ name_text c))

pub printable_slashes : (components : List (List ℕ)) (c : List ℕ) → ArePrintable (after_slashes components) → ArePrintable (name_text c)
    → ArePrintable (after_slashes (components ++ c ∷ []))
printable_slashes components c p q =
    subst ArePrintable (sym (slashes_more components c)) (printable_append (after_slashes components) (47 ∷ name_text c) p (grind arith, q))
