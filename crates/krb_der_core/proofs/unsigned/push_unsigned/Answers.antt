use Rattle.std.proofs.Common.{List, ℕ, [], ◌∷◌, ◌++◌, ◌∙◌, ap, append_assoc, arith}
use Rattle.std.specs.Int.Digits.{digits_of}
use Rattle.std.proofs.lemmas.Result.{on_ok_weaker}
use Rattle.krb_der_core.specs.UnsignedLaws.{unsigned_zero, unsigned_plain, unsigned_padded}
use Rattle.krb_der_core.proofs.unsigned.push_unsigned.Goals as goal

pub returns-then-n-eq0-clause-ok : goal.returns-then-n-eq0-clause-ok
returns-then-n-eq0-clause-ok c = c.in_ok-push.ensures.items ∙ ap (λ (l : List ℕ). c.args.out.now.items ++ l) (unsigned_zero c.args.n c.if-n-eq0.true)

pub returns-then-first_digit-lt128-clause-ok : goal.returns-then-first_digit-lt128-clause-ok
returns-then-first_digit-lt128-clause-ok c =
    on_ok_weaker c.push_digits.result (λ k. k ∙ ap (λ (l : List ℕ). c.args.out.now.items ++ l) (unsigned_plain c.args.n (omega (arith, c.if-n-eq0.false)) (rw c.first_digit.ensures at c.if-first_digit-lt128.true))) c.push_digits.ensures.ok

pub returns-clause-ok : goal.returns-clause-ok
returns-clause-ok c =
    let out = c.args.out.now.items in
    let digits = digits_of 256 c.args.n in
    on_ok_weaker c.push_digits-2.result (λ k. k ∙ ap (λ (l : List ℕ). l ++ digits) c.in_ok-push-2.ensures.items ∙ append_assoc out (0 ∷ []) digits ∙ ap (λ (l : List ℕ). out ++ l) (unsigned_padded c.args.n (omega (arith, rw c.first_digit.ensures at c.if-first_digit-lt128.false)))) c.push_digits-2.ensures.ok
