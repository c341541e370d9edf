use Rattle.std.proofs.Common.{refl, sym, subst}
use Rattle.krb_crypto.specs.Padded.{IsFewZeros}
use Rattle.krb_crypto.proofs.Parts.{prefix_is, prefix_and_rest}
use Rattle.krb_crypto.proofs.seal.part.read_padded.Goals as goal

pub returns-then-is_few_zeros-clause-found : goal.returns-then-is_few_zeros-clause-found
returns-then-is_few_zeros-clause-found g c =
    (_, prefix_and_rest _ _ _ c.in_ok-value.ensures.found, c.if-is_few_zeros.ensures.0 refl)

pub returns-then-is_few_zeros-clause-only : goal.returns-then-is_few_zeros-clause-only
returns-then-is_few_zeros-clause-only g c = λ v rest hv q few.
    (prefix_is g.T.DerEncode.is_value g.T.DerEncode.enc g.T.DerEncode.first g.T.DerEncode.is_element g.T.DerEncode.one_value _ v _ _ rest c.in_ok-value.ensures.valid hv c.in_ok-value.ensures.found q).0

pub returns-then-is_few_zeros-clause-trailing : goal.returns-then-is_few_zeros-clause-trailing
returns-then-is_few_zeros-clause-trailing g c = λ v rest hv q more.
    let same = prefix_is g.T.DerEncode.is_value g.T.DerEncode.enc g.T.DerEncode.first g.T.DerEncode.is_element g.T.DerEncode.one_value _ v _ _ rest c.in_ok-value.ensures.valid hv c.in_ok-value.ensures.found q in
    more (subst (IsFewZeros c.args.size) same.1 (c.if-is_few_zeros.ensures.0 refl))

pub returns-else-is_few_zeros-clause-only : goal.returns-else-is_few_zeros-clause-only
returns-else-is_few_zeros-clause-only g c = λ v rest hv q few.
    let same = prefix_is g.T.DerEncode.is_value g.T.DerEncode.enc g.T.DerEncode.first g.T.DerEncode.is_element g.T.DerEncode.one_value _ v _ _ rest c.in_ok-value.ensures.valid hv c.in_ok-value.ensures.found q in
    absurd (let reported = c.if-is_few_zeros.ensures.1 (subst (IsFewZeros c.args.size) (sym same.1) few) in cc)
