use Rattle.std.proofs.Common.{ap, ◌∙◌}
use Rattle.krb_kdc_proxy.specs.Asking.{change_asked}
use Rattle.krb_kdc_proxy.proofs.Requests.{second_refused}
use Rattle.krb_kdc_proxy.proofs.change.change.Goals as goal

pub returns-in-Err-clause-rejected : goal.returns-in-Err-clause-rejected
returns-in-Err-clause-rejected c =
    second_refused _ _ c.args.octets.now c.in-Some.first.now c.in-Some.second.now c.in_ok-request.request _ c.in-Some.ensures c.in_ok-request.ensures.found c.in-Err.ensures.rejected

pub returns-in-Ok-clause-found : goal.returns-in-Ok-clause-found
returns-in-Ok-clause-found c = record {
  first = c.in-Some.first.now;
  second = c.in-Some.second.now;
  request = c.in_ok-request.request;
  private = c.in-Ok.private;
  framed = c.in-Some.ensures;
  is_request = c.in_ok-request.ensures.found;
  is_private = c.in-Ok.ensures.found;
  asks = c.change_asked.ensures ∙ ap change_asked c.request.view_is;
}
