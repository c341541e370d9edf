use Rattle.std.proofs.Common.{List, ℕ, ◌∷◌, [], ◌/◌, ◌%◌, append_assoc, arith, refl}
use Rattle.std.specs.Int.Digits.{digits_of}
use Rattle.std.proofs.lemmas.Int.Digits.{digits_of_step}
use Rattle.krb_build.proofs.integers.+push_digits.Goals as goal

pub returns : goal.returns
returns t c =
    let e = digits_of_step 256 c.args.n (omega arith) (omega arith) in
    rw (c.in_ok-push.ensures.items, c.in_ok-push_digits.ensures, e, append_assoc c.args.out.now.items (digits_of 256 (c.args.n / 256)) (c.args.n % 256 ∷ [])) (refl {A = List ℕ})
