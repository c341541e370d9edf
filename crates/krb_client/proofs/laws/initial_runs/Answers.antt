use Rattle.krb_client.proofs.InitialRunning.{at_most_three, begun_run_last, run_key, run_offset, ticket_for}
use Rattle.krb_client.proofs.laws.initial_runs.Goals as goal

pub returns-clause-requests : goal.returns-clause-requests
returns-clause-requests g c = λ terms a m begun request calls after is run. at_most_three g.E.Encodings.initial terms begun calls after run

pub returns-clause-offset : goal.returns-clause-offset
returns-clause-offset g c = λ terms before calls after offset run has. run_offset g.E.Encodings.initial terms before calls after offset run has

pub returns-clause-key : goal.returns-clause-key
returns-clause-key g c = λ terms before calls after key run has. run_key g.E.Encodings.initial terms before calls after key run has

pub returns-clause-last : goal.returns-clause-last
returns-clause-last g c = λ terms a m begun request calls after is run. begun_run_last g.E.Encodings.initial terms a m begun request calls after is run

pub returns-clause-ticket : goal.returns-clause-ticket
returns-clause-ticket g c = λ terms a m begun request calls before s now octets granted after is run step.
    ticket_for g.E.Encodings.initial terms a m begun request calls before s now octets granted after is run step
