use Rattle.std.proofs.Common.{List, ℕ, ◌∷◌, [], ◌/◌, ◌%◌, append_assoc, refl}
use Rattle.std.specs.Int.Digits.{digits_of}
use Rattle.krb_der_x509.specs.ObjectIdentifier.{continued, sub_identifier}
use Rattle.krb_der_x509.proofs.object_identifier.push_sub_identifier.Goals as goal

pub returns-clause-ok : goal.returns-clause-ok
unfolding sub_identifier
returns-clause-ok c =
    let n = c.args.n in
    rw (c.in_ok-push.ensures.items, c.in_ok-push_continued.ensures.ok, append_assoc c.args.out.now.items (continued (digits_of 128 (n / 128))) (n % 128 ∷ [])) (refl {A = List ℕ})
