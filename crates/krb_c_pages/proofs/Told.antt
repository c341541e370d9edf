-- What keys make of a ciphertext, where the keys and what stands before it are those of a value.
use Rattle.std.proofs.Common.{◌≡◌, ℕ, List, sym, subst}
use Rattle.krb_c_pages.specs.Decoding.{Decoding, IsTold, IsToldCipher}
use Rattle.krb_decrypt.specs.Keys.{NamedKey}
use Rattle.krb_decrypt.specs.Outcomes.{IsOutcome}
use Rattle.krb_decrypt.specs.declared.outcome.Outcome.{Outcome}
use Rattle.krb_decrypt.specs.declared.preceding.Preceding.{Preceding}

pub told_cipher : (most index : ℕ) (cipher : List ℕ) (d next : Decoding) (p : Preceding) (keys : List NamedKey) (o : Outcome) → d.preceding ≡ p → d.keys ≡ keys
    → IsOutcome p.role p.etype cipher keys o → IsTold most index o d next → IsToldCipher most index cipher d next
told_cipher most index cipher d next p keys o e f is told =
    let P : Preceding → Type 0 = λ q. IsOutcome q.role q.etype cipher keys o in
    let Q : List NamedKey → Type 0 = λ k. IsOutcome d.preceding.role d.preceding.etype cipher k o in
    record { o = o; outcome = subst Q (sym f) (subst P (sym e) is); told = told }
