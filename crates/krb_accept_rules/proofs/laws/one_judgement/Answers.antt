use Rattle.krb_accept_rules.specs.AuthenticatorRules.{AuthenticatorRule, value_order}
use Rattle.krb_accept_rules.specs.RequestRules.{RequestRule, request_order}
use Rattle.krb_accept_rules.specs.SessionRules.{SessionRule, session_order}
use Rattle.krb_accept_rules.proofs.FirstFaults.{keeps_all, one_fault}
use Rattle.krb_accept_rules.proofs.laws.one_judgement.Goals as goal

pub returns-clause-request : goal.returns-clause-request
returns-clause-request g c = λ terms keys session_keys r broken. keeps_all (RequestRule g.O.Opening terms keys session_keys r) request_order broken

pub returns-clause-request_rule : goal.returns-clause-request_rule
returns-clause-request_rule g c = λ terms keys session_keys r one other. one_fault (RequestRule g.O.Opening terms keys session_keys r) request_order one other

pub returns-clause-session : goal.returns-clause-session
returns-clause-session g c = λ terms r ticket broken. keeps_all (SessionRule g.O.Opening terms r ticket) session_order broken

pub returns-clause-session_rule : goal.returns-clause-session_rule
returns-clause-session_rule g c = λ terms r ticket one other. one_fault (SessionRule g.O.Opening terms r ticket) session_order one other

pub returns-clause-client : goal.returns-clause-client
returns-clause-client g c = λ terms arrival ticket a broken. keeps_all (AuthenticatorRule g.O.Opening terms arrival ticket a) value_order broken

pub returns-clause-client_rule : goal.returns-clause-client_rule
returns-clause-client_rule g c = λ terms arrival ticket a one other. one_fault (AuthenticatorRule g.O.Opening terms arrival ticket a) value_order one other
