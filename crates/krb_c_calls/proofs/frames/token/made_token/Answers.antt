use Rattle.std.proofs.Common.{ap, ◌∙◌, ◌++◌, List, ℕ}
use Rattle.std.proofs.lemmas.Result.{err_from_is_err_and}
use Rattle.krb_der_core.specs.Tlv.{tlv}
use Rattle.krb_c_calls.proofs.FramedTokens.{made_error, made_is}
use Rattle.krb_c_calls.proofs.frames.token.made_token.Goals as goal

pub returns-in_err-_mechanism : goal.returns-in_err-_mechanism
returns-in_err-_mechanism c =
    let p = err_from_is_err_and c.from_residual.result c.from_residual.ensures.1 in
    let r = c.in_err-_mechanism.ensures in
    rw (p.1, p.2) (made_error c.args.mechanism.now c.in_err-_mechanism.field-0.0 r.rejected r.first_error)

pub returns : goal.returns
returns c =
    let first = c.in_ok-write_tlv.ensures.ok ∙ ap (λ (l : List ℕ). l ++ tlv 6 c.args.mechanism.now) c.new-token.ensures.items in
    made_is c.args.mechanism.now c.args.inner.now c.in_ok-_mechanism._mechanism c.write_tlv.new.out.items c.extend_from_slice.new.self.items c.close_tlv.new.out.items c.in_ok-_mechanism.ensures.valid
    c.in_ok-_mechanism.ensures.found first c.in_ok-extend_from_slice.ensures.items c.in_ok-close_tlv.ensures.ok
