use Rattle.std.proofs.Common.{drop, sym, ◌∙◌}
use Rattle.std.proofs.lemmas.Result.{err_from_is_err_and}
use Rattle.krb_der_core.specs.TlvLaws.{field_apart}
use Rattle.krb_der.proofs.WholeInput.{err_cut, not_cut}
use Rattle.krb_messages.proofs.messages.proxy.read_prefix.Goals as goal

pub returns-in_err-value-clause-cut : goal.returns-in_err-value-clause-cut
returns-in_err-value-clause-cut g c =
    let p = err_from_is_err_and c.from_residual.result c.from_residual.ensures.1 in
    rw (p.1, p.2) (err_cut g.T.DerEncode.is_value g.T.DerEncode.enc c.args.octets.now c.in_err-value.field-0.0 c.in_err-value.ensures.rejected)

pub returns-clause-reads : goal.returns-clause-reads
returns-clause-reads g c = λ v rest hv q.
    (field_apart g.T.DerEncode.enc g.T.DerEncode.is_value g.T.DerEncode.first g.T.DerEncode.is_element g.T.DerEncode.one_value c.in_ok-value.value v (drop c.in_ok-value.field-0-1 c.args.octets.now) rest c.in_ok-value.ensures.valid hv (sym c.in_ok-value.ensures.found.prefix ∙ q)).0

pub returns-clause-cut : goal.returns-clause-cut
returns-clause-cut g c = λ v rest hv some lt q.
    not_cut g.T.DerEncode.is_value g.T.DerEncode.enc g.T.DerEncode.first g.T.DerEncode.is_element g.T.DerEncode.one_value c.in_ok-value.value v c.in_ok-value.field-0-1 c.args.octets.now rest c.in_ok-value.ensures.valid hv c.in_ok-value.ensures.found some q
