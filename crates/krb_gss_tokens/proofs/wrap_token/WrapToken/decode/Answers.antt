use Rattle.krb_gss_tokens.proofs.Wrap.{cut_wrap, only_wrap}
use Rattle.krb_gss_tokens.proofs.wrap_token.WrapToken.decode.Goals as goal

pub returns-clause-only : goal.returns-clause-only
returns-clause-only g c = only_wrap _ c.read_fields.result c.read_fields.ensures.found c.read_fields.ensures.fits c.read_fields.ensures.rejected

pub returns-clause-cut : goal.returns-clause-cut
returns-clause-cut g c = cut_wrap _ c.read_fields.result c.read_fields.ensures.found c.read_fields.ensures.rejected
