-- An application tag is one octet.
use Rattle.std.proofs.Common.{ℕ, ◌+◌, ◌≤◌, ◌&&◌, nat_le, eqb, List, refl, rules, tests}
use Rattle.krb_der_core.specs.Tlv.{tlv}
use Rattle.krb_der_core.specs.Encoding.{IsElement}

pub application_element : (n : ℕ) (c : List ℕ) → n ≤ 30 → IsElement (λ t. nat_le n 30 && eqb t (96 + n)) (tlv (96 + n) c)
application_element n c h = record { tag = 96 + n; content = c; whole = refl; begins = search (rules, tests) }
