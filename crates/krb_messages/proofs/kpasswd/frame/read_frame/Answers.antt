use Rattle.std.proofs.Common.{ℕ, ap}
use Rattle.std.proofs.lemmas.Result.{err_from_is_err_and}
use Rattle.krb_messages.specs.declared.messages.private.KrbPrivInner.{KrbPrivInner}
use Rattle.krb_messages.specs.declared.messages.ap_message.ApMessage.{ApMessage}
use Rattle.krb_messages.specs.declared.kpasswd.frame.KrbPrivMessage.{KrbPrivMessage}
use Rattle.krb_messages.proofs.kpasswd.frame.read_frame.Goals as goal

pub returns-in_err-ap_message-clause-reads : goal.returns-in_err-ap_message-clause-reads
returns-in_err-ap_message-clause-reads c = λ m x rest i f q.
    let p = err_from_is_err_and c.from_residual.result c.from_residual.ensures.1 in
    rw (p.1, p.2) (c.in_err-ap_message.ensures.reads m.ap_message m.krb_priv x rest i.0 i.1 f q)

pub returns-clause-reads : goal.returns-clause-reads
returns-clause-reads c = λ m x rest i f q.
    let read = c.in_ok-ap_message.ensures.reads m.ap_message m.krb_priv x rest i.0 i.1 f q in
    let made : (ApMessage × KrbPrivInner) × ℕ → KrbPrivMessage × ℕ = λ p. (record { ap_message = p.0.0; krb_priv = p.0.1 }, p.1) in
    ap made read
