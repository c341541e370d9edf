use Rattle.krb_client.proofs.Later.{or_later}
use Rattle.krb_client.proofs.requests.ticket.tgs_request.Goals as goal

pub returns-in-Ok-pa_tgs_req-clause-made : goal.returns-in-Ok-pa_tgs_req-clause-made
returns-in-Ok-pa_tgs_req-clause-made c = record {
  body = c.in_ok-body.body;
  is_body = c.in_ok-body.ensures.body;
  padata = c.in-Ok-pa_tgs_req.padata;
  is_padata = rw (c.as_slice.ensures.value, c.in-Ok.ensures.octets) at c.in-Ok-pa_tgs_req.ensures.made;
  valid = c.in_ok-octets-in-Ok-pa_tgs_req.ensures.valid;
  encodes = c.in_ok-octets-in-Ok-pa_tgs_req.ensures.octets;
}

pub returns-clause-rejected : goal.returns-clause-rejected
returns-clause-rejected c = or_later (c.in_ok-body.body, c.in_ok-body.ensures.body) c.in-Err-pa_tgs_req.ensures.rejected
