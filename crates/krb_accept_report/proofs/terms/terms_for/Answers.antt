use Rattle.std.proofs.Common.{refl}
use Rattle.krb_accept_report.proofs.terms.terms_for.Goals as goal

pub returns : goal.returns
returns c = record {
  are_usual = (c.in_ok-usual.usual.servers, c.in_ok-usual.usual.realms, c.in_ok-usual.ensures);
  are_servers = refl;
  are_realms = refl;
}
