use Rattle.krb_accept_report.proofs.Said.{kept_out, let_in}
use Rattle.krb_accept_report.proofs.report.said_of.Goals as goal

pub returns-in-Ok-clause-said : goal.returns-in-Ok-clause-said
returns-in-Ok-clause-said c =
    let_in _ _ _ _ _ _ _ _ _ c.in-Ok.found c.in-Ok.ensures.found c.accepted_report-said.result c.accepted_report-said.ensures.accepts c.accepted_report-said.ensures.line

pub returns-in-Err-clause-said : goal.returns-in-Err-clause-said
returns-in-Err-clause-said c =
    kept_out _ _ _ _ _ _ _ _ _ c.in-Err.refusal c.in-Err.ensures.refused c.refused_report.result c.refused_report.ensures.refuses
    c.refused_report.ensures.breach c.refused_report.ensures.line
