-- Each simple primitive type has one content a value.
use Rattle.std.proofs.Common.{ℕ, Bool, true, false, List, [], refl, arith}
use Rattle.krb_der_core.specs.TlvLaws.{same_heads}
use Rattle.krb_der_core.specs.Primitive.{bool_content}
use Rattle.krb_der_core.specs.Encoding.{OneValue}

pub bool_one_content : OneValue (λ (v : Bool). Unit {0}) bool_content
bool_one_content true true h k e = refl
bool_one_content false false h k e = refl
bool_one_content true false h k e = absurd (omega (arith, (same_heads 255 0 [] [] e).0))
bool_one_content false true h k e = absurd (omega (arith, (same_heads 0 255 [] [] e).0))

-- a content that is the value itself
pub same_one_content : (P : List ℕ → Type 0) → OneValue P (λ v. v)
same_one_content P v w hv hw e = e
