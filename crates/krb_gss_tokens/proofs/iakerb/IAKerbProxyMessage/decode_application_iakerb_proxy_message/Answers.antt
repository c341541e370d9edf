use Rattle.std.proofs.Common.{◌<◌, ◌^◌, length, inl, inr, arith}
use Rattle.std.proofs.lemmas.Result.{err_from_is_err_and}
use Rattle.krb_gss_tokens.specs.contracts.iakerb_header.messages.header.IAKerbHeaderDerEncode.TheImpl.{ghosts}
use Rattle.krb_gss_tokens.proofs.Proxies.{IsHeader, no_rejection, one_header, one_proxy, proxy_found}
use Rattle.krb_gss_tokens.proofs.iakerb.IAKerbProxyMessage.decode_application_iakerb_proxy_message.Goals as goal

pub returns-in_err-content-clause-reads : goal.returns-in_err-content-clause-reads
returns-in_err-content-clause-reads g c = λ m content rest hh hv q r.
    let p = err_from_is_err_and c.from_residual.result c.from_residual.ensures.1 in
    let lt : length c.args.input.now < 2 ^ 64 = omega arith in
    let d = g.T.DerEncode in
    rw (p.1, p.2) (no_rejection ghosts d m.header hh m.krb_msg hv c.in_err-content.field-0.0 c.args.input.now content rest lt q r (inl c.in_err-content.ensures.rejected))

pub returns-in_err-trailing-clause-reads : goal.returns-in_err-trailing-clause-reads
returns-in_err-trailing-clause-reads g c = λ m content rest hh hv q r.
    let p = err_from_is_err_and c.from_residual-in_err-trailing.result c.from_residual-in_err-trailing.ensures.1 in
    let f = c.in_ok-content.ensures.found in
    let lt : length c.args.input.now < 2 ^ 64 = omega arith in
    let d = g.T.DerEncode in
    rw (p.1, p.2) (no_rejection ghosts d m.header hh m.krb_msg hv c.in_err-trailing.field-0.0 c.args.input.now content rest lt q r (inr (c.in_ok-content.content.now, f.0, f.1, inl c.in_err-trailing.ensures.rejected)))

pub returns-in_err-trailing-clause-first_error : goal.returns-in_err-trailing-clause-first_error
returns-in_err-trailing-clause-first_error g c =
    let p = err_from_is_err_and c.from_residual-in_err-trailing.result c.from_residual-in_err-trailing.ensures.1 in
    let f = c.in_ok-content.ensures.found in
    rw (p.1, p.2) (inr (c.in_ok-content.content.now, f.0, f.1, inl c.in_err-trailing.ensures.rejected))

pub returns-in_err-rest-clause-reads : goal.returns-in_err-rest-clause-reads
returns-in_err-rest-clause-reads g c = λ m content rest hh hv q r.
    let p = err_from_is_err_and c.from_residual-in_err-rest.result c.from_residual-in_err-rest.ensures.1 in
    let f = c.in_ok-content.ensures.found in
    let lt : length c.args.input.now < 2 ^ 64 = omega arith in
    let d = g.T.DerEncode in
    rw (p.1, p.2) (no_rejection ghosts d m.header hh m.krb_msg hv c.in_err-rest.field-0.0 c.args.input.now content rest lt q r (inr (c.in_ok-content.content.now, f.0, f.1, inr (c.in_ok-trailing.trailing.now, c.in_ok-trailing.ensures.found, inl c.in_err-rest.ensures.rejected))))

pub returns-in_err-rest-clause-first_error : goal.returns-in_err-rest-clause-first_error
returns-in_err-rest-clause-first_error g c =
    let p = err_from_is_err_and c.from_residual-in_err-rest.result c.from_residual-in_err-rest.ensures.1 in
    let f = c.in_ok-content.ensures.found in
    rw (p.1, p.2) (inr (c.in_ok-content.content.now, f.0, f.1, inr (c.in_ok-trailing.trailing.now, c.in_ok-trailing.ensures.found, inl c.in_err-rest.ensures.rejected)))

pub returns-in_err-header-clause-reads : goal.returns-in_err-header-clause-reads
returns-in_err-header-clause-reads g c = λ m content rest hh hv q r.
    let p = err_from_is_err_and c.from_residual-in_err-header.result c.from_residual-in_err-header.ensures.1 in
    let f = c.in_ok-content.ensures.found in
    let lt : length c.args.input.now < 2 ^ 64 = omega arith in
    let d = g.T.DerEncode in
    rw (p.1, p.2) (no_rejection ghosts d m.header hh m.krb_msg hv c.in_err-header.field-0.0 c.args.input.now content rest lt q r (inr (c.in_ok-content.content.now, f.0, f.1, inr (c.in_ok-trailing.trailing.now, c.in_ok-trailing.ensures.found, inr (c.in_ok-rest.rest.now, c.in_ok-rest.ensures.found, inl c.in_err-header.ensures.rejected)))))

pub returns-in_err-header-clause-first_error : goal.returns-in_err-header-clause-first_error
returns-in_err-header-clause-first_error g c =
    let p = err_from_is_err_and c.from_residual-in_err-header.result c.from_residual-in_err-header.ensures.1 in
    let f = c.in_ok-content.ensures.found in
    rw (p.1, p.2) (inr (c.in_ok-content.content.now, f.0, f.1, inr (c.in_ok-trailing.trailing.now, c.in_ok-trailing.ensures.found, inr (c.in_ok-rest.rest.now, c.in_ok-rest.ensures.found, inl c.in_err-header.ensures.rejected))))

pub returns-in_err-krb_msg-clause-reads : goal.returns-in_err-krb_msg-clause-reads
returns-in_err-krb_msg-clause-reads g c = λ m content rest hh hv q r.
    let p = err_from_is_err_and c.from_residual-in_err-krb_msg.result c.from_residual-in_err-krb_msg.ensures.1 in
    let f = c.in_ok-content.ensures.found in
    let h = c.in_ok-header.ensures.found in
    let lt : length c.args.input.now < 2 ^ 64 = omega arith in
    let d = g.T.DerEncode in
    rw (p.1, p.2) (no_rejection ghosts d m.header hh m.krb_msg hv c.in_err-krb_msg.field-0.0 c.args.input.now content rest lt q r (inr (c.in_ok-content.content.now, f.0, f.1, inr (c.in_ok-trailing.trailing.now, c.in_ok-trailing.ensures.found, inr (c.in_ok-rest.rest.now, c.in_ok-rest.ensures.found, inr (c.in_ok-header.header, h.0, c.in_ok-header.message.now, c.in_ok-header.ensures.valid, h.1, h.2, c.in_err-krb_msg.ensures.rejected))))))

pub returns-in_err-krb_msg-clause-first_error : goal.returns-in_err-krb_msg-clause-first_error
returns-in_err-krb_msg-clause-first_error g c =
    let p = err_from_is_err_and c.from_residual-in_err-krb_msg.result c.from_residual-in_err-krb_msg.ensures.1 in
    let f = c.in_ok-content.ensures.found in
    let h = c.in_ok-header.ensures.found in
    rw (p.1, p.2) (inr (c.in_ok-content.content.now, f.0, f.1, inr (c.in_ok-trailing.trailing.now, c.in_ok-trailing.ensures.found, inr (c.in_ok-rest.rest.now, c.in_ok-rest.ensures.found, inr (c.in_ok-header.header, h.0, c.in_ok-header.message.now, c.in_ok-header.ensures.valid, h.1, h.2, c.in_err-krb_msg.ensures.rejected)))))

pub returns-clause-found : goal.returns-clause-found
returns-clause-found g c =
    let f = c.in_ok-content.ensures.found in
    let h = c.in_ok-header.ensures.found in
    (c.in_ok-content.content.now, f.0, f.1, proxy_found g.T.DerEncode.enc c.in_ok-content.content.now c.in_ok-trailing.trailing.now c.in_ok-rest.rest.now h.0 c.in_ok-header.message.now c.in_ok-header.header c.in_ok-krb_msg.krb_msg c.in_ok-trailing.ensures.found c.in_ok-rest.ensures.found h.1 h.2 c.in_ok-krb_msg.ensures.found)

pub returns-clause-reads : goal.returns-clause-reads
returns-clause-reads g c = λ m content rest hh hv q r.
    let d = g.T.DerEncode in
    let f = returns-clause-found g c in
    one_proxy IsHeader d.is_value d.enc d.one_value one_header c.args.input.now f.0 content f.1 rest c.in_ok-header.header m.header c.in_ok-krb_msg.krb_msg m.krb_msg c.in_ok-header.ensures.valid hh c.in_ok-krb_msg.ensures.valid hv f.2 q f.3 r
