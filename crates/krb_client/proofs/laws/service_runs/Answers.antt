use Rattle.krb_client.proofs.ServiceRunning.{at_most_two, begun_run_last, run_offset, ticket_for}
use Rattle.krb_client.proofs.laws.service_runs.Goals as goal

pub returns-clause-requests : goal.returns-clause-requests
returns-clause-requests g c = λ terms by before calls after run. at_most_two g.E.Encodings.service terms by before calls after run

pub returns-clause-offset : goal.returns-clause-offset
returns-clause-offset g c = λ terms by before calls after offset run has. run_offset g.E.Encodings.service terms by before calls after offset run has

pub returns-clause-last : goal.returns-clause-last
returns-clause-last g c = λ terms by a subkey offset m begun request calls after is run.
    begun_run_last g.E.Encodings.service terms by a subkey offset m begun request calls after is run

pub returns-clause-ticket : goal.returns-clause-ticket
returns-clause-ticket g c = λ terms by a subkey offset m begun request calls before now octets granted after is run step.
    ticket_for g.E.Encodings.service terms by a subkey offset m begun request calls before now octets granted after is run step
