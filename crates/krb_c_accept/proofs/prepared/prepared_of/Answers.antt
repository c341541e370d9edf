use Rattle.std.proofs.Common.{rules}
use Rattle.std.proofs.lemmas.Result.{err_from_is_err_and}
use Rattle.krb_c_accept.specs.Inputs.{inputs_of}
use Rattle.krb_c_accept.proofs.Preparing.{realms_first, servers_first}
use Rattle.krb_c_accept.proofs.prepared.prepared_of.Goals as goal

pub returns-clause-made : goal.returns-clause-made
returns-clause-made c = record {
  random = search rules;
  hash = search rules;
  options = search rules;
  keys = search rules;
  session_keys = search rules;
  terms = c.in_ok-terms.ensures c.args.asked.now.servers.now c.args.asked.now.realms.now c.in_ok-servers.ensures.found c.in_ok-realms.ensures.found;
  arrival = search rules;
  settings = search rules;
}

pub returns-in_err-servers-clause-refused : goal.returns-in_err-servers-clause-refused
returns-in_err-servers-clause-refused c =
    let p = err_from_is_err_and c.from_residual-in_err-servers.result c.from_residual-in_err-servers.ensures.1 in
    rw (p.1, p.2)
    (servers_first (inputs_of c.args.asked.now) c.in_err-servers.field-0.0 (
      (
        (c.in_ok-check_random.ensures.right, c.in_ok-bindings.ensures.right, c.in_ok-check_options.ensures.right),
        (c.in_ok-keys.keys.items, c.in_ok-keys.ensures.found),
      ),
      (c.in_ok-session_keys.session_keys.items, c.in_ok-session_keys.ensures.found),
    )
    c.in_err-servers.ensures.refused)

pub returns-in_err-realms-clause-refused : goal.returns-in_err-realms-clause-refused
returns-in_err-realms-clause-refused c =
    let p = err_from_is_err_and c.from_residual-in_err-realms.result c.from_residual-in_err-realms.ensures.1 in
    rw (p.1, p.2)
    (realms_first (inputs_of c.args.asked.now) c.in_err-realms.field-0.0 (
      (
        (
          (c.in_ok-check_random.ensures.right, c.in_ok-bindings.ensures.right, c.in_ok-check_options.ensures.right),
          (c.in_ok-keys.keys.items, c.in_ok-keys.ensures.found),
        ),
        (c.in_ok-session_keys.session_keys.items, c.in_ok-session_keys.ensures.found),
      ),
      (c.in_ok-servers.servers.items, c.in_ok-servers.ensures.found),
    )
    c.in_err-realms.ensures.refused)
