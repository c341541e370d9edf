use Rattle.krb_client.proofs.initial_request.initial_request.Goals as goal

pub returns-clause-made : goal.returns-clause-made
returns-clause-made c = record {
  padata = c.in_ok-padata.padata;
  authenticated = c.in_ok-padata.ensures.made;
  is_request = rw (c.want_of-want.ensures, c.in_ok-all.ensures) at c.in_ok-octets.ensures.made;
}
