use Rattle.std.proofs.Common.{ap, ◌∙◌}
use Rattle.krb_crypto.specs.BySuite.{confounder_octets_of, padding_octets_of}
use Rattle.krb_gss_per_message.proofs.Newer.{newer_confounder, newer_padding}
use Rattle.krb_gss_per_message.proofs.key.TokenKey.opening_key.Goals as goal

pub returns-clause-confounder : goal.returns-clause-confounder
returns-clause-confounder c = ap confounder_octets_of c.in-Ok.ensures.suite ∙ newer_confounder _ c.self.invariant.newer

pub returns-clause-padding : goal.returns-clause-padding
returns-clause-padding c = ap padding_octets_of c.in-Ok.ensures.suite ∙ newer_padding _ c.self.invariant.newer
