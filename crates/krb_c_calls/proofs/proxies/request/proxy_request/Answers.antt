use Rattle.std.proofs.Common.{refl, inl}
use Rattle.krb_c_calls.proofs.proxies.request.proxy_request.Goals as goal

pub returns-in-Ok : goal.returns-in-Ok
returns-in-Ok c =
    let r = c.in-Ok.ensures.found in
    inl (
      refl,
      record {
        request = c.in-Ok.request;
        is_request = r;
        tells = c.told_request.ensures.tells;
        domain = c.told_request.ensures.domain r.message c.in-Ok.request.target_domain r.posted.1.1 r.carried.domain;
      },
    )
