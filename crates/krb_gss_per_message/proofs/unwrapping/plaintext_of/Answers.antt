use Rattle.std.proofs.lemmas.Result.{err_from_is_err_and}
use Rattle.krb_gss_per_message.specs.Keys.{seal_usage_of}
use Rattle.krb_gss_per_message.proofs.Making.{opened_is, opened_once, opens_as, refused_from}
use Rattle.krb_gss_per_message.proofs.unwrapping.plaintext_of.Goals as goal

pub returns-clause-opened : goal.returns-clause-opened
returns-clause-opened c =
    let key = c.args.key.now in
    let opens = opens_as key c.opening_key.result.suite c.args.octets.now c.in_ok-decrypt.field-0.items c.opening_key.ensures.suite c.opening_key.ensures.confounder c.opening_key.ensures.padding
    (c.in_ok-decrypt.ensures.opened key.octets (seal_usage_of key.sender) c.opening_key.ensures.prepared) in
    opened_is key c.args.octets.now c.in_ok-decrypt.field-0.items opens

pub returns-clause-only : goal.returns-clause-only
returns-clause-only c =
    let key = c.args.key.now in
    let opens = opens_as key c.opening_key.result.suite c.args.octets.now c.in_ok-decrypt.field-0.items c.opening_key.ensures.suite c.opening_key.ensures.confounder c.opening_key.ensures.padding
    (c.in_ok-decrypt.ensures.opened key.octets (seal_usage_of key.sender) c.opening_key.ensures.prepared) in
    λ other is. opened_once key c.args.octets.now c.in_ok-decrypt.field-0.items other opens is

pub returns-in_err-decrypt-clause-refused : goal.returns-in_err-decrypt-clause-refused
returns-in_err-decrypt-clause-refused c =
    let key = c.args.key.now in
    let p = err_from_is_err_and c.from_residual.result c.from_residual.ensures.1 in
    rw (p.1, p.2) (refused_from key c.opening_key.result.suite c.args.octets.now _ c.opening_key.ensures.suite c.opening_key.ensures.confounder
    (c.in_err-decrypt.ensures.rejected key.octets (seal_usage_of key.sender) c.opening_key.ensures.prepared)
    (c.in_err-decrypt.ensures.exact key.octets (seal_usage_of key.sender) c.opening_key.ensures.prepared))
