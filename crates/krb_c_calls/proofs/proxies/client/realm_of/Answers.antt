use Rattle.std.proofs.Common.{inr, refl}
use Rattle.std.proofs.lemmas.Str.{IsUtf8-from_ascii}
use Rattle.krb_c_calls.proofs.proxies.client.realm_of.Goals as goal

-- octets of ASCII are UTF-8
pub returns-in_default : goal.returns-in_default
returns-in_default c = inr (refl, λ ascii. c.in_default.ensures.cases.0 (IsUtf8-from_ascii c.args.octets.now ascii))
