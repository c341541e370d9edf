use Rattle.krb_client.proofs.initial.next_request.Goals as goal

pub returns-in-Key-clause-rejected : goal.returns-in-Key-clause-rejected
returns-in-Key-clause-rejected c = rw c.in-Key.is c.initial_request.ensures.rejected

pub returns-in-Key-clause-made : goal.returns-in-Key-clause-made
returns-in-Key-clause-made c = rw c.in-Key.is c.initial_request.ensures.made
