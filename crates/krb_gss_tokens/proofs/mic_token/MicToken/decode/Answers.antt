use Rattle.krb_gss_tokens.proofs.Mic.{cut_mic, only_mic}
use Rattle.krb_gss_tokens.proofs.mic_token.MicToken.decode.Goals as goal

pub returns-clause-only : goal.returns-clause-only
returns-clause-only g c = only_mic _ c.read_fields.result c.read_fields.ensures.found c.read_fields.ensures.fits c.read_fields.ensures.rejected

pub returns-clause-cut : goal.returns-clause-cut
returns-clause-cut g c = cut_mic _ c.read_fields.result c.read_fields.ensures.found c.read_fields.ensures.rejected
