use Rattle.std.proofs.Common.{◌≡◌, pos, ap, ◌∙◌, rules}
use Rattle.krb_crypto.specs.Suites.{etype}
use Rattle.krb_accept.specs.Fields.{ticket_of}
use Rattle.krb_accept.proofs.Found.{ticket_found, ticket_lost}
use Rattle.krb_accept.proofs.kerberos.KerberosOpening.open_ticket.Goals as goal

pub returns-in-Some-2 : goal.returns-in-Some-2
returns-in-Some-2 c =
    let is_key : c.octets_of-octets.result.now ≡ c.args.key.now.octets = search rules in
    let is_cipher : c.octets_of-cipher.result.now ≡ c.args.request.now.ticket.cipher = search rules in
    let of_suite : c.args.request.now.ticket.etype ≡ pos (etype c.in-Some.suite) = search rules in
    ticket_found _ c.args.key.now c.args.request.now c.in-Some.suite c.in-Some-2.part c.octets_of-octets.result.now c.octets_of-cipher.result.now c.ticket_of.result
    is_key is_cipher of_suite (rw c.in-Some-2.is at c.in_ok-part.ensures) (c.ticket_of.ensures ∙ ap ticket_of c.part.view_is)

pub returns-in-None : goal.returns-in-None
returns-in-None c =
    let is_key : c.octets_of-octets.result.now ≡ c.args.key.now.octets = search rules in
    let is_cipher : c.octets_of-cipher.result.now ≡ c.args.request.now.ticket.cipher = search rules in
    let of_suite : c.args.request.now.ticket.etype ≡ pos (etype c.in-Some.suite) = search rules in
    ticket_lost _ c.args.key.now c.args.request.now c.in-Some.suite c.octets_of-octets.result.now c.octets_of-cipher.result.now
    is_key is_cipher of_suite (rw c.in-None.is at c.in_ok-part.ensures)
