use Rattle.krb_client.proofs.requests.application.ap_message.Goals as goal

pub returns-clause-made : goal.returns-clause-made
returns-clause-made c = record {
  part = c.in_ok-part.part;
  is_sealed = c.in_ok-part.ensures.sealed;
  options = c.in_ok-message.message.ap_options;
  are_options = c.in_ok-message.ensures.0;
  valid = rw c.in_ok-message.ensures.1 at c.in_ok-octets.ensures.valid;
  encodes = rw c.in_ok-message.ensures.1 at c.in_ok-octets.ensures.octets;
}
