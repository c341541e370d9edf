use Rattle.std.proofs.Common.{List, ℕ, ◌+◌, ◌∷◌, [], ◌/◌, ◌%◌, ◌∙◌, ap, append_assoc, arith, refl}
use Rattle.std.specs.Int.Digits.{digits_of}
use Rattle.std.proofs.lemmas.Int.Digits.{digits_of_step}
use Rattle.krb_der_x509.specs.ObjectIdentifier.{continued}
use Rattle.krb_der_x509.proofs.ObjectIdentifiers.{continued-append}
use Rattle.krb_der_x509.proofs.object_identifier.+push_continued.Goals as goal

pub returns-clause-ok : goal.returns-clause-ok
returns-clause-ok t c =
    let n = c.args.n in
    let e = ap continued (digits_of_step 128 n (omega arith) (omega arith)) ∙ continued-append (digits_of 128 (n / 128)) (n % 128 ∷ []) in
    rw (c.in_ok-push.ensures.items, c.in_ok-push_continued.ensures.ok, e, append_assoc c.args.out.now.items (continued (digits_of 128 (n / 128))) ((128 + n % 128) ∷ [])) (refl {A = List ℕ})
