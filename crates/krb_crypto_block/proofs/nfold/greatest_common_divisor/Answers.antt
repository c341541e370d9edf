use Rattle.std.proofs.lemmas.Nat.Gcd.{IsGcd-from_zero, IsGcd-from_mod, same_from_IsGcd}
use Rattle.krb_crypto_block.specs.Fold.{gcd}
use Rattle.krb_crypto_block.proofs.FoldDivisors.{IsGcd-gcd}
use Rattle.krb_crypto_block.proofs.nfold.greatest_common_divisor.Goals as goal

pub loop-b-init : goal.loop-b-init
loop-b-init c = λ g h. h

pub loop-b-preserved : goal.loop-b-preserved
loop-b-preserved c = λ g h. c.loop-b.invariant g (IsGcd-from_mod c.loop-b.a c.loop-b.b g h)

pub returns : goal.returns
returns c =
    same_from_IsGcd c.args.a c.args.b c.loop-b.a (gcd c.args.a c.args.b) (c.loop-b.invariant c.loop-b.a (IsGcd-from_zero c.loop-b.a c.loop-b.b c.loop-b-test.false)) (IsGcd-gcd c.args.a c.args.b c.requires)
