use Rattle.krb_accept_rules.proofs.Once.{not_both, told_once}
use Rattle.krb_accept_rules.proofs.laws.one_answer.Goals as goal

pub returns : goal.returns
returns g c = λ keys session_keys terms arrival octets seen after last a p.
    (λ e n. not_both _ keys session_keys terms arrival octets seen after a e p n, λ b q. told_once _ keys session_keys terms arrival octets seen after last a b p q)
