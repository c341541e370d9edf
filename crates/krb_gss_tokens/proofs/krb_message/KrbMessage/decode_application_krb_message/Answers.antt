use Rattle.std.proofs.Common.{◌<◌, ◌^◌, length, inl, inr, arith}
use Rattle.std.proofs.lemmas.Result.{err_from_is_err_and}
use Rattle.krb_gss_tokens.proofs.KrbTokens.{no_rejection_of, one_reading, parts_found, same_message}
use Rattle.krb_gss_tokens.proofs.krb_message.KrbMessage.decode_application_krb_message.Goals as goal

pub returns-in_err-content-clause-reads : goal.returns-in_err-content-clause-reads
returns-in_err-content-clause-reads g c = λ m rest hm q.
    let p = err_from_is_err_and c.from_residual.result c.from_residual.ensures.1 in
    let lt : length c.args.input.now < 2 ^ 64 = omega arith in
    let d = g.T.DerEncode in
    rw (p.1, p.2) (no_rejection_of d m.krb5_oid m.krb5_token_id m.krb_msg c.args.input.now rest c.in_err-content.field-0.0 lt hm q (inl c.in_err-content.ensures.rejected))

pub returns-in_err-krb5_oid-clause-reads : goal.returns-in_err-krb5_oid-clause-reads
returns-in_err-krb5_oid-clause-reads g c = λ m rest hm q.
    let p = err_from_is_err_and c.from_residual-in_err-krb5_oid.result c.from_residual-in_err-krb5_oid.ensures.1 in
    let lt : length c.args.input.now < 2 ^ 64 = omega arith in
    let d = g.T.DerEncode in
    let f = c.in_ok-content.ensures.found in
    rw (p.1, p.2) (no_rejection_of d m.krb5_oid m.krb5_token_id m.krb_msg c.args.input.now rest c.in_err-krb5_oid.field-0.0 lt hm q (inr (c.in_ok-content.content.now, f.0, f.1, inl c.in_err-krb5_oid.ensures.rejected)))

pub returns-in_err-krb5_token_id-clause-reads : goal.returns-in_err-krb5_token_id-clause-reads
returns-in_err-krb5_token_id-clause-reads g c = λ m rest hm q.
    let p = err_from_is_err_and c.from_residual-in_err-krb5_token_id.result c.from_residual-in_err-krb5_token_id.ensures.1 in
    let lt : length c.args.input.now < 2 ^ 64 = omega arith in
    let d = g.T.DerEncode in
    let f = c.in_ok-content.ensures.found in
    let o = c.in_ok-krb5_oid.ensures.found in
    rw (p.1, p.2) (no_rejection_of d m.krb5_oid m.krb5_token_id m.krb_msg c.args.input.now rest c.in_err-krb5_token_id.field-0.0 lt hm q
    (inr (c.in_ok-content.content.now, f.0, f.1, inr (c.in_ok-krb5_oid.krb5_oid, c.in_ok-krb5_oid.trailing.now, o.0, o.1, inl c.in_err-krb5_token_id.ensures.rejected))))

pub returns-in_err-krb5_token_id-clause-first_error : goal.returns-in_err-krb5_token_id-clause-first_error
returns-in_err-krb5_token_id-clause-first_error g c =
    let p = err_from_is_err_and c.from_residual-in_err-krb5_token_id.result c.from_residual-in_err-krb5_token_id.ensures.1 in
    let f = c.in_ok-content.ensures.found in
    let o = c.in_ok-krb5_oid.ensures.found in
    rw (p.1, p.2) (inr (c.in_ok-content.content.now, f.0, f.1, inr (c.in_ok-krb5_oid.krb5_oid, c.in_ok-krb5_oid.trailing.now, o.0, o.1, inl c.in_err-krb5_token_id.ensures.rejected)))

pub returns-in_err-krb_msg-clause-reads : goal.returns-in_err-krb_msg-clause-reads
returns-in_err-krb_msg-clause-reads g c = λ m rest hm q.
    let p = err_from_is_err_and c.from_residual-in_err-krb_msg.result c.from_residual-in_err-krb_msg.ensures.1 in
    let lt : length c.args.input.now < 2 ^ 64 = omega arith in
    let d = g.T.DerEncode in
    let f = c.in_ok-content.ensures.found in
    let o = c.in_ok-krb5_oid.ensures.found in
    let i = c.in_ok-krb5_token_id.ensures.found in
    rw (p.1, p.2) (no_rejection_of d m.krb5_oid m.krb5_token_id m.krb_msg c.args.input.now rest c.in_err-krb_msg.field-0.0 lt hm q
    (inr (c.in_ok-content.content.now, f.0, f.1, inr (c.in_ok-krb5_oid.krb5_oid, c.in_ok-krb5_oid.trailing.now, o.0, o.1, inr (c.in_ok-krb5_token_id.krb5_token_id, c.in_ok-krb5_token_id.rest.now, i.0, i.1, c.in_err-krb_msg.ensures.rejected)))))

pub returns-in_err-krb_msg-clause-first_error : goal.returns-in_err-krb_msg-clause-first_error
returns-in_err-krb_msg-clause-first_error g c =
    let p = err_from_is_err_and c.from_residual-in_err-krb_msg.result c.from_residual-in_err-krb_msg.ensures.1 in
    let f = c.in_ok-content.ensures.found in
    let o = c.in_ok-krb5_oid.ensures.found in
    let i = c.in_ok-krb5_token_id.ensures.found in
    rw (p.1, p.2) (inr (c.in_ok-content.content.now, f.0, f.1, inr (c.in_ok-krb5_oid.krb5_oid, c.in_ok-krb5_oid.trailing.now, o.0, o.1, inr (c.in_ok-krb5_token_id.krb5_token_id, c.in_ok-krb5_token_id.rest.now, i.0, i.1, c.in_err-krb_msg.ensures.rejected))))

pub returns-clause-found : goal.returns-clause-found
returns-clause-found g c =
    let f = c.in_ok-content.ensures.found in
    (f.0, parts_found c.in_ok-krb5_oid.krb5_oid c.in_ok-krb5_token_id.krb5_token_id (g.T.DerEncode.enc c.in_ok-krb_msg.krb_msg) c.in_ok-content.content.now c.in_ok-krb5_oid.trailing.now c.in_ok-krb5_token_id.rest.now c.args.input.now f.0 f.1 c.in_ok-krb5_oid.ensures.found.1 c.in_ok-krb5_token_id.ensures.found.1 c.in_ok-krb_msg.ensures.found)

pub returns-clause-reads : goal.returns-clause-reads
returns-clause-reads g c = λ m rest hm q.
    let d = g.T.DerEncode in
    let f = returns-clause-found g c in
    same_message c.in_ok-krb5_oid.krb5_oid m.krb5_oid c.in_ok-krb5_token_id.krb5_token_id m.krb5_token_id c.in_ok-krb_msg.krb_msg m.krb_msg
    (one_reading d c.in_ok-krb5_oid.krb5_oid c.in_ok-krb5_token_id.krb5_token_id c.in_ok-krb_msg.krb_msg m.krb5_oid m.krb5_token_id m.krb_msg c.args.input.now f.0 rest
    (c.in_ok-krb5_oid.ensures.found.0, c.in_ok-krb5_token_id.ensures.found.0, c.in_ok-krb_msg.ensures.valid) hm f.1 q)
