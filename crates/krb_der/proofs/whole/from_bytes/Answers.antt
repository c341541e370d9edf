use Rattle.std.proofs.Common.{◌<◌, ◌^◌, length, arith, refl, inl, sym, ◌∙◌}
use Rattle.std.proofs.lemmas.Result.{err_from_is_err_and}
use Rattle.krb_der.proofs.WholeInput.{err_again, err_cut, err_more, whole_is, not_all, not_cut, no_more, no_device}
use Rattle.krb_der_core.specs.Reading.{Encodings}
use Rattle.krb_der_core.specs.Errors.{PrefixError}
use Rattle.krb_der.proofs.ErrorSteps.{prefix_wrong, too_many}
use Rattle.krb_der.proofs.whole.from_bytes.Goals as goal

pub returns-in_err-value-clause-reads : goal.returns-in_err-value-clause-reads
returns-in_err-value-clause-reads g c =
    let p = err_from_is_err_and c.from_residual.result c.from_residual.ensures.1 in
    let lt : length c.args.input.now < 2 ^ 64 = omega arith in
    rw (p.1, p.2) (err_again g.T.DerEncode.is_value g.T.DerEncode.enc c.args.input.now c.in_err-value.field-0.0 lt c.in_err-value.ensures.rejected)

pub returns-in_err-value-clause-cut : goal.returns-in_err-value-clause-cut
returns-in_err-value-clause-cut g c =
    let p = err_from_is_err_and c.from_residual.result c.from_residual.ensures.1 in
    rw (p.1, p.2) (err_cut g.T.DerEncode.is_value g.T.DerEncode.enc c.args.input.now c.in_err-value.field-0.0 c.in_err-value.ensures.rejected)

pub returns-in_err-value-clause-more : goal.returns-in_err-value-clause-more
returns-in_err-value-clause-more g c =
    let p = err_from_is_err_and c.from_residual.result c.from_residual.ensures.1 in
    let lt : length c.args.input.now < 2 ^ 64 = omega arith in
    rw (p.1, p.2) (err_more g.T.DerEncode.is_value g.T.DerEncode.enc c.args.input.now c.in_err-value.field-0.0 lt c.in_err-value.ensures.rejected)

pub returns-then-taken-input-clause-reads : goal.returns-then-taken-input-clause-reads
returns-then-taken-input-clause-reads g c = λ v hv q. absurd (not_all g.T.DerEncode.is_value g.T.DerEncode.enc g.T.DerEncode.first g.T.DerEncode.is_element g.T.DerEncode.one_value c.in_ok-value.value v c.in_ok-value.taken c.args.input.now c.in_ok-value.ensures.valid hv c.in_ok-value.ensures.found c.if-taken-input.true q)

pub returns-then-taken-input-clause-cut : goal.returns-then-taken-input-clause-cut
returns-then-taken-input-clause-cut g c = λ v rest hv some lt q. absurd (not_cut g.T.DerEncode.is_value g.T.DerEncode.enc g.T.DerEncode.first g.T.DerEncode.is_element g.T.DerEncode.one_value c.in_ok-value.value v c.in_ok-value.taken c.args.input.now rest c.in_ok-value.ensures.valid hv c.in_ok-value.ensures.found some q)

pub returns-then-taken-input-clause-more : goal.returns-then-taken-input-clause-more
returns-then-taken-input-clause-more g c = λ v rest hv some q. inl refl

pub returns-clause-found : goal.returns-clause-found
returns-clause-found g c = whole_is g.T.DerEncode.is_value g.T.DerEncode.enc c.in_ok-value.value c.in_ok-value.taken c.args.input.now c.in_ok-value.ensures.found c.if-taken-input.false

pub returns-clause-reads : goal.returns-clause-reads
returns-clause-reads g c = λ v hv q. g.T.DerEncode.one_value c.in_ok-value.value v c.in_ok-value.ensures.valid hv (sym (whole_is g.T.DerEncode.is_value g.T.DerEncode.enc c.in_ok-value.value c.in_ok-value.taken c.args.input.now c.in_ok-value.ensures.found c.if-taken-input.false) ∙ q)

pub returns-clause-cut : goal.returns-clause-cut
returns-clause-cut g c = λ v rest hv some lt q. not_cut g.T.DerEncode.is_value g.T.DerEncode.enc g.T.DerEncode.first g.T.DerEncode.is_element g.T.DerEncode.one_value c.in_ok-value.value v c.in_ok-value.taken c.args.input.now rest c.in_ok-value.ensures.valid hv c.in_ok-value.ensures.found some q

pub returns-clause-more : goal.returns-clause-more
returns-clause-more g c = λ v rest hv some q. no_more g.T.DerEncode.is_value g.T.DerEncode.enc g.T.DerEncode.first g.T.DerEncode.is_element g.T.DerEncode.one_value c.in_ok-value.value v c.args.input.now rest c.in_ok-value.ensures.valid hv (whole_is g.T.DerEncode.is_value g.T.DerEncode.enc c.in_ok-value.value c.in_ok-value.taken c.args.input.now c.in_ok-value.ensures.found c.if-taken-input.false) some q

pub returns-in_err-value-clause-no_device : goal.returns-in_err-value-clause-no_device
returns-in_err-value-clause-no_device g c =
    let p = err_from_is_err_and c.from_residual.result c.from_residual.ensures.1 in
    rw (p.1, p.2) (no_device (Encodings g.T.DerEncode.is_value g.T.DerEncode.enc) c.args.input.now c.in_err-value.field-0.0 c.in_err-value.ensures.rejected)

pub returns-in_err-value-clause-first_error : goal.returns-in_err-value-clause-first_error
returns-in_err-value-clause-first_error g c =
    let p = err_from_is_err_and c.from_residual.result c.from_residual.ensures.1 in
    rw (p.1, p.2) (prefix_wrong g.T.DerEncode.is_value g.T.DerEncode.enc (λ v rest. Unit {0}) (PrefixError g.T.DerEncode.first g.T.DerEncode.error) c.args.input.now c.in_err-value.field-0.0 c.in_err-value.ensures.first_error)

pub returns-then-taken-input-clause-first_error : goal.returns-then-taken-input-clause-first_error
returns-then-taken-input-clause-first_error g c = too_many g.T.DerEncode.is_value g.T.DerEncode.enc (λ v rest. Unit {0}) (PrefixError g.T.DerEncode.first g.T.DerEncode.error) c.in_ok-value.value c.in_ok-value.taken c.args.input.now c.in_ok-value.ensures.valid c.in_ok-value.ensures.found tt c.if-taken-input.true
