use Rattle.krb_client.proofs.requests.body.as_req_octets.Goals as goal

pub returns-clause-octets : goal.returns-clause-octets
returns-clause-octets c = rw c.request_of.ensures at c.encoded.ensures.octets
