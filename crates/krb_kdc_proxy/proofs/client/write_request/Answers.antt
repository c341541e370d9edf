use Rattle.std.proofs.Common.{refl, inl, inr, arith}
use Rattle.std.proofs.lemmas.Result.{err_from_is_err_and}
use Rattle.krb_der_core.specs.Encoding.{optional}
use Rattle.krb_der.specs.Asn1.{explicit, general_string, integer}
use Rattle.krb_kdc_proxy.proofs.OneRequest.{not_taken, taken}
use Rattle.krb_kdc_proxy.proofs.Sizes.{message_fits}
use Rattle.krb_kdc_proxy.proofs.client.write_request.Goals as goal

pub returns-then-message-gt-MAXIMUM_REQUEST-clause-rejected : goal.returns-then-message-gt-MAXIMUM_REQUEST-clause-rejected
returns-then-message-gt-MAXIMUM_REQUEST-clause-rejected c =
    let fits = message_fits c.args.message.now (explicit 1 (general_string c.args.target_domain)) (optional (λ x. explicit 2 (integer x)) c.args.hint) in
    inr (inl (refl, omega (arith, fits, c.if-message-gt-MAXIMUM_REQUEST.true)))

pub returns-in_err-is_taken-clause-rejected : goal.returns-in_err-is_taken-clause-rejected
returns-in_err-is_taken-clause-rejected c =
    let p = err_from_is_err_and c.from_residual-in_err-is_taken.result c.from_residual-in_err-is_taken.ensures.1 in
    rw (p.1, p.2) (not_taken _ (record { as_req = λ t. refl; tgs_req = λ t. refl }) _ c.in_ok-octets.octets.items c.deref.result.now c.args.message.now c.args.target_domain c.args.hint _
    c.deref.ensures.value (omega (arith, c.if-message-gt-MAXIMUM_REQUEST.false)) c.in_ok-octets.ensures.found c.in_err-is_taken.ensures.rejected)

pub returns-clause-found : goal.returns-clause-found
returns-clause-found c =
    taken _ (record { as_req = λ t. refl; tgs_req = λ t. refl }) _ c.in_ok-octets.octets.items c.deref.result.now c.args.message.now c.args.target_domain c.args.hint
    c.deref.ensures.value (omega (arith, c.if-message-gt-MAXIMUM_REQUEST.false)) c.in_ok-octets.ensures.found c.in_ok-is_taken.ensures.found
