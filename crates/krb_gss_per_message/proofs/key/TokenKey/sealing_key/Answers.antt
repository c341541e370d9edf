use Rattle.std.proofs.Common.{ap, ◌∙◌}
use Rattle.krb_crypto.specs.BySuite.{confounder_octets_of}
use Rattle.krb_gss_per_message.proofs.Newer.{newer_confounder}
use Rattle.krb_gss_per_message.proofs.key.TokenKey.sealing_key.Goals as goal

pub returns-clause-confounder : goal.returns-clause-confounder
returns-clause-confounder c = ap confounder_octets_of c.in-Ok.ensures.suite ∙ newer_confounder _ c.self.invariant.newer
