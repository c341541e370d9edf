-- Equality of tokens is an equivalence.
use Rattle.std.proofs.Common.{rules}
use Rattle.std.specs.Prelude.{nat_eq}
use Rattle.std.specs.Cmp.{IsEquivalence, IsPartialEquivalence, partial_equiv_from_equiv}
use Rattle.std.specs.Cmp.Lexicographic.{options_equiv, pointwise}
use Rattle.std.specs.Cmp.Rules.{comparing}
use Rattle.std.specs.Option.{option_eq}
use Rattle.std.specs.Ordering.{on, eq_of_both}
use Rattle.krb_gss_tokens.specs.Mic.{same_mic}
use Rattle.krb_gss_tokens.specs.Wrap.{Wrap, same_wrap}

payload_equiv : IsEquivalence (option_eq (pointwise nat_eq))
payload_equiv = options_equiv (search (comparing, rules))

pub same_mic_equiv : IsEquivalence same_mic
same_mic_equiv = search (payload_equiv, comparing, rules)

pub same_mic_per : IsPartialEquivalence same_mic
same_mic_per = partial_equiv_from_equiv same_mic_equiv

counts_equiv : IsEquivalence (eq_of_both (on (λ (t : Wrap). t.ec) nat_eq) (on (λ (t : Wrap). t.rrc) nat_eq))
counts_equiv = search (comparing, rules)

contents_equiv : IsEquivalence (eq_of_both (on (λ (t : Wrap). t.payload) (option_eq (pointwise nat_eq))) (on (λ (t : Wrap). t.checksum) (pointwise nat_eq)))
contents_equiv = search (payload_equiv, comparing, rules)

pub same_wrap_equiv : IsEquivalence same_wrap
same_wrap_equiv = search (counts_equiv, contents_equiv, comparing, rules)

pub same_wrap_per : IsPartialEquivalence same_wrap
same_wrap_per = partial_equiv_from_equiv same_wrap_equiv
