-- Equality of buffers and of PACs is an equivalence.
use Rattle.std.proofs.Common.{rules}
use Rattle.std.specs.Cmp.{IsEquivalence, IsPartialEquivalence, partial_equiv_from_equiv}
use Rattle.std.specs.Cmp.Lexicographic.{pointwise, lists_equiv}
use Rattle.std.specs.Cmp.Rules.{comparing}
use Rattle.krb_pac.specs.Layout.{same_buffer}

pub same_buffer_equiv : IsEquivalence same_buffer
same_buffer_equiv = search (comparing, rules)

pub same_buffer_per : IsPartialEquivalence same_buffer
same_buffer_per = partial_equiv_from_equiv same_buffer_equiv

pub same_pac_equiv : IsEquivalence (pointwise same_buffer)
same_pac_equiv = lists_equiv same_buffer_equiv

pub same_pac_per : IsPartialEquivalence (pointwise same_buffer)
same_pac_per = partial_equiv_from_equiv same_pac_equiv
