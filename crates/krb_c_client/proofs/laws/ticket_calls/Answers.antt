use Rattle.krb_c_client.proofs.FurtherRunning.{at_most_two, has_begun, out_of_turn}
use Rattle.krb_c_client.proofs.laws.ticket_calls.Goals as goal

pub returns-clause-requests : goal.returns-clause-requests
returns-clause-requests c = λ before calls after run. at_most_two _ _ _ before calls after run

pub returns-clause-out_of_turn : goal.returns-clause-out_of_turn
returns-clause-out_of_turn c = λ before call after is out. out_of_turn _ _ _ before call after is out

pub returns-clause-begun : goal.returns-clause-begun
returns-clause-begun c = λ before call after is done. has_begun _ _ _ before call after is done
