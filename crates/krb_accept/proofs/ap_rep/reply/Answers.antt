use Rattle.std.proofs.Common.{◌≡◌, pos, rules}
use Rattle.krb_crypto.specs.Suites.{etype}
use Rattle.krb_accept.proofs.Made.{made}
use Rattle.krb_accept.proofs.ap_rep.reply.Goals as goal

pub returns-clause-made : goal.returns-clause-made
returns-clause-made c =
    let of_suite : c.args.accepted.now.ticket.key.key_type ≡ pos (etype c.in-Some.suite) = search rules in
    let is_key : c.octets_of-octets.result.now ≡ c.args.accepted.now.ticket.key.key_value = search rules in
    made _ _ c.args.accepted.now c.args.confounder.now c.args.subkey c.args.sequence_number c.in_ok-written.written.items c.in-Some.suite
    c.octets_of-octets.result.now c.in_ok-cipher.cipher.items c.in_ok-part.part c.message_of-message.result
    of_suite is_key c.in_ok-part.ensures c.in_ok-cipher.ensures.sealed c.message_of-message.ensures c.in_ok-written.ensures.octets
