use Rattle.std.proofs.Common.{◌<◌, ◌^◌, List, ℕ, ◌++◌, ◌∙◌, ap, length, arith, inr}
use Rattle.std.proofs.lemmas.Result.{err_from_is_err_and}
use Rattle.krb_gss_tokens.proofs.Sequences.{fields_wrong, header_wrong, octets_left, reads_all, reads_here, rejected_again, rejected_cut, taken_cut, taken_more, taken_whole}
use Rattle.krb_gss_tokens.proofs.iakerb_header.messages.header.IAKerbHeader.from_bytes.Goals as goal

pub returns-in_err-content-clause-reads : goal.returns-in_err-content-clause-reads
returns-in_err-content-clause-reads c = λ h hv r.
    let p = err_from_is_err_and c.from_residual.result c.from_residual.ensures.1 in
    let lt : length c.args.octets.now < 2 ^ 64 = omega arith in
    rw (p.1, p.2) (rejected_again c.args.octets.now r.0 c.in_err-content.field-0.0 lt c.in_err-content.ensures.rejected r.1)

pub returns-in_err-content-clause-cut : goal.returns-in_err-content-clause-cut
returns-in_err-content-clause-cut c = λ content rest some lt q.
    let p = err_from_is_err_and c.from_residual.result c.from_residual.ensures.1 in
    rw (p.1, p.2) (rejected_cut c.args.octets.now content rest c.in_err-content.field-0.0 c.in_err-content.ensures.rejected some lt q)

pub returns-in_err-content-clause-first_error : goal.returns-in_err-content-clause-first_error
returns-in_err-content-clause-first_error c =
    let p = err_from_is_err_and c.from_residual.result c.from_residual.ensures.1 in
    rw (p.1, p.2) (header_wrong _ _ c.args.octets.now c.in_err-content.field-0.0 c.in_err-content.ensures.first_error)

pub returns-in_err-header-clause-reads : goal.returns-in_err-header-clause-reads
returns-in_err-header-clause-reads c = λ h hv r.
    let p = err_from_is_err_and c.from_residual-in_err-header.result c.from_residual-in_err-header.ensures.1 in
    rw (p.1, p.2) (c.in_err-header.ensures.reads h hv (reads_all c.in_ok-content.content.now c.args.octets.now c.in_ok-content.taken h c.in_ok-content.ensures.found r))

pub returns-in_err-header-clause-cut : goal.returns-in_err-header-clause-cut
returns-in_err-header-clause-cut c = λ content rest some lt q. absurd (taken_cut c.in_ok-content.content.now content c.args.octets.now rest c.in_ok-content.taken c.in_ok-content.ensures.found some q)

pub returns-in_err-header-clause-more : goal.returns-in_err-header-clause-more
returns-in_err-header-clause-more c = λ h b rest hv r some q.
    let p = err_from_is_err_and c.from_residual-in_err-header.result c.from_residual-in_err-header.ensures.1 in
    rw (p.1, p.2) (inr (c.in_err-header.ensures.reads h hv (reads_here c.in_ok-content.content.now c.args.octets.now b rest c.in_ok-content.taken h c.in_ok-content.ensures.found r q)))

pub returns-in_err-header-clause-first_error : goal.returns-in_err-header-clause-first_error
returns-in_err-header-clause-first_error c =
    let p = err_from_is_err_and c.from_residual-in_err-header.result c.from_residual-in_err-header.ensures.1 in
    let lt : length c.args.octets.now < 2 ^ 64 = omega arith in
    rw (p.1, p.2) (fields_wrong _ _ c.in_ok-content.content.now c.args.octets.now c.in_ok-content.taken c.in_err-header.field-0.0 lt c.in_ok-content.ensures.found c.in_err-header.ensures.first_error)

pub returns-then-taken-octets-clause-reads : goal.returns-then-taken-octets-clause-reads
returns-then-taken-octets-clause-reads c = λ h hv r. absurd (taken_whole c.in_ok-content.content.now r.0 c.args.octets.now c.in_ok-content.taken c.in_ok-content.ensures.found c.if-taken-octets.true r.1)

pub returns-then-taken-octets-clause-cut : goal.returns-then-taken-octets-clause-cut
returns-then-taken-octets-clause-cut c = λ content rest some lt q. absurd (taken_cut c.in_ok-content.content.now content c.args.octets.now rest c.in_ok-content.taken c.in_ok-content.ensures.found some q)

pub returns-then-taken-octets-clause-first_error : goal.returns-then-taken-octets-clause-first_error
returns-then-taken-octets-clause-first_error c = octets_left _ _ c.in_ok-content.content.now c.args.octets.now c.in_ok-content.taken c.in_ok-header.header c.in_ok-header.ensures.valid c.in_ok-header.ensures.found c.in_ok-content.ensures.found c.if-taken-octets.true

pub returns-clause-reads : goal.returns-clause-reads
returns-clause-reads c = λ h hv r. c.in_ok-header.ensures.reads h hv (reads_all c.in_ok-content.content.now c.args.octets.now c.in_ok-content.taken h c.in_ok-content.ensures.found r)

pub returns-clause-cut : goal.returns-clause-cut
returns-clause-cut c = λ content rest some lt q. absurd (taken_cut c.in_ok-content.content.now content c.args.octets.now rest c.in_ok-content.taken c.in_ok-content.ensures.found some q)

pub returns-clause-more : goal.returns-clause-more
returns-clause-more c = λ h b rest hv r some q. absurd (taken_more c.in_ok-content.content.now r.0 c.args.octets.now rest c.in_ok-content.taken c.in_ok-content.ensures.found c.if-taken-octets.false some (q ∙ ap (λ (l : List ℕ). l ++ rest) r.1))
