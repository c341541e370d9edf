use Rattle.std.proofs.Common.{arith}
use Rattle.std.proofs.lemmas.List.{length-map}
use Rattle.krb_decrypt.specs.Salts.{salt_at}
use Rattle.krb_decrypt.proofs.SaltLists.{all_taken, enough, one_longer, one_more}
use Rattle.krb_decrypt.proofs.salts.salts_of.Goals as goal

pub returns-in_default : goal.returns-in_default
returns-in_default c =
    all_taken _ _ c.tokens.rest.now c.in_default.ensures.cases c.tokens.invariant.0
    (let size = length-map c.tokens.salts.items (λ s. s.items) in omega (arith, size, c.tokens.invariant.1))

pub tokens-preserved : goal.tokens-preserved
tokens-preserved c = (
  one_more _ _ _ c.tokens.rest.now c.in-Some.behind.now _ c.in-Some.ensures.cases.0 c.in_ok-push_salt.ensures c.tokens.invariant.0,
  let before = length-map c.tokens.salts.items (λ s. s.items) in
      let after = length-map c.push_salt.new.salts.items (λ s. s.items) in
      let longer = one_longer _ _ (salt_at c.tokens.rest.now) c.in_ok-push_salt.ensures (omega (arith, before, c.len.ensures, c.tokens-test.true)) in
      omega (arith, after, longer),
)

pub returns : goal.returns
returns c =
    let size = length-map c.tokens.salts.items (λ s. s.items) in
    enough _ _ _ c.tokens.invariant.0 (omega (arith, size, c.tokens.invariant.1, c.len.ensures, c.tokens-test.false))
