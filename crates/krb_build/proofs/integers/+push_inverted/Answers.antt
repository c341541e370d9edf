use Rattle.std.proofs.Common.{List, ℕ, ◌-◌, ◌∷◌, [], ◌/◌, ◌%◌, ◌∙◌, ap, append_assoc, arith, refl}
use Rattle.std.specs.Int.Digits.{digits_of}
use Rattle.std.proofs.lemmas.Int.Digits.{digits_of_step}
use Rattle.krb_der_core.specs.Integer.{inverted}
use Rattle.krb_build.proofs.Numbers.{inverted-append}
use Rattle.krb_build.proofs.integers.+push_inverted.Goals as goal

pub returns : goal.returns
returns t c =
    let n = c.args.n in
    let e = ap inverted (digits_of_step 256 n (omega arith) (omega arith)) ∙ inverted-append (digits_of 256 (n / 256)) (n % 256 ∷ []) in
    rw (c.in_ok-push.ensures.items, c.in_ok-push_inverted.ensures, e, append_assoc c.args.out.now.items (inverted (digits_of 256 (n / 256))) ((255 - n % 256) ∷ [])) (refl {A = List ℕ})
