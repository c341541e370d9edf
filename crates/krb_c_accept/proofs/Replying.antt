-- What is sent to a client that waits for an AP-REP.
use Rattle.std.proofs.Common.{◌≡◌, ℕ, Bool, MatchBool, List, Result, Ok, Err, IfOk, pos}
use Rattle.krb_accept.specs.Wanted.{WantsReply}
use Rattle.krb_accept.specs.declared.token.Context.{Context}
use Rattle.krb_crypto.specs.Suites.{etype}
use Rattle.krb_crypto.specs.declared.cipher_suite.CipherSuite.{CipherSuite}
use Rattle.krb_der_core.specs.declared.der.DerEncode.{Ghosts as EncodingOf}
use Rattle.krb_enc_parts.specs.declared.data_types.authenticators.EncApRepPartInner.{EncApRepPartInner}
use Rattle.krb_messages.specs.declared.messages.application.ApRepInner.{ApRepInner}
use Rattle.krb_c_calls.specs.declared.call_error.CallError.{CallError}
use Rattle.krb_c_accept.specs.Replies.{IsAnswerTo, IsInFrame, IsReplyTo, answered}
use Rattle.krb_c_accept.specs.declared.records.AcceptorRecord.{AcceptorRecord}
use Rattle.krb_c_accept.specs.declared.reply.Reply.{Reply}

pub replied : (part : EncodingOf EncApRepPartInner) (ap_rep : EncodingOf ApRepInner) (acceptor : AcceptorRecord) (random token : List ℕ) (c : Context) (suite : CipherSuite)
    (framed : Bool) (r : Result Reply CallError) → WantsReply c.accepted c.flags → c.accepted.ticket.key.key_type ≡ pos (etype suite)
    → MatchBool framed (IsInFrame token c.flags) (IsInFrame token c.flags → ⊥) → IfOk r (IsAnswerTo part ap_rep acceptor random suite framed c.accepted)
    → IfOk r (IsReplyTo part ap_rep acceptor random token c)
replied part ap_rep acceptor random token c suite framed (Ok r) wants of_suite is_framed is = answered wants suite of_suite framed is_framed is
replied part ap_rep acceptor random token c suite framed (Err e) wants of_suite is_framed is = is
