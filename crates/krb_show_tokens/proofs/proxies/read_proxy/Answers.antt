use Rattle.std.proofs.Common.{[], ◌∙◌, inl, inr, refl, sym}
use Rattle.std.proofs.lemmas.Result.{err_from_is_err_and}
use Rattle.krb_show.specs.Opened.{IsNone}
use Rattle.krb_show_tokens.proofs.OneMessage.{differing, in_token_is, proxy_content, proxy_written}
use Rattle.krb_show_tokens.proofs.proxies.read_proxy.Goals as goal

pub returns-in_err-token-clause-reads : goal.returns-in_err-token-clause-reads
returns-in_err-token-clause-reads g c = λ v h.
    let p = err_from_is_err_and c.from_residual.result c.from_residual.ensures.1 in
    rw (p.1, p.2) (c.in_err-token.ensures.reads v (proxy_content g.T.DerEncode.enc v.header v.krb_msg) [] h.0.0.0 h.0.0.1 (h.1 ∙ in_token_is _)
    (proxy_written g.T.DerEncode.enc v.header v.krb_msg))

pub returns-in_err-token-clause-first_error : goal.returns-in_err-token-clause-first_error
returns-in_err-token-clause-first_error g c =
    let p = err_from_is_err_and c.from_residual.result c.from_residual.ensures.1 in
    rw (p.1, p.2) (inl c.in_err-token.ensures.first_error)

pub returns-then-ne-clause-reads : goal.returns-then-ne-clause-reads
returns-then-ne-clause-reads g c = λ v h.
    let e = c.in_ok-token.ensures.reads v (proxy_content g.T.DerEncode.enc v.header v.krb_msg) [] h.0.0.0 h.0.0.1 (h.1 ∙ in_token_is _)
    (proxy_written g.T.DerEncode.enc v.header v.krb_msg) in
    absurd (differing c.as_slice.result.now c.args.octets.now c.if-ne.ensures (c.as_slice.ensures.value ∙ rw e at c.in_ok-written.ensures.ok ∙ sym h.1))

pub returns-then-ne-clause-first_error : goal.returns-then-ne-clause-first_error
returns-then-ne-clause-first_error g c =
    let none : IsNone _ _ c.args.octets.now = λ v k q.
    (let e = c.in_ok-token.ensures.reads v (proxy_content g.T.DerEncode.enc v.header v.krb_msg) [] k.0.0 k.0.1 (q ∙ in_token_is _)
    (proxy_written g.T.DerEncode.enc v.header v.krb_msg) in
    differing c.as_slice.result.now c.args.octets.now c.if-ne.ensures (c.as_slice.ensures.value ∙ rw e at c.in_ok-written.ensures.ok ∙ sym q)) in
    inr (inl (refl, ((c.in_ok-token.token, (c.in_ok-token.ensures.valid.0, c.in_ok-token.ensures.valid.1, c.in_ok-token.ensures.found)), none)))

pub returns-clause-reads : goal.returns-clause-reads
returns-clause-reads g c = λ v h. c.in_ok-token.ensures.reads v (proxy_content g.T.DerEncode.enc v.header v.krb_msg) [] h.0.0.0 h.0.0.1 (h.1 ∙ in_token_is _)
    (proxy_written g.T.DerEncode.enc v.header v.krb_msg)
