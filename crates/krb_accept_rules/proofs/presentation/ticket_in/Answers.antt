use Rattle.krb_accept_rules.proofs.Steps.{no_key_opens}
use Rattle.krb_accept_rules.proofs.presentation.ticket_in.Goals as goal

pub returns-in-Err-clause-rejected : goal.returns-in-Err-clause-rejected
returns-in-Err-clause-rejected g c =
    no_key_opens g.O.Opening c.args.keys.now c.args.session_keys.now c.keys_for-candidates.result.now c.args.terms.now c.args.octets.now c.in_ok-request.request _
    c.in_ok-request.ensures.found c.in_ok-request.ensures.kept c.keys_for-candidates.ensures c.in-Err.ensures.none
