use Rattle.krb_gss_tokens.proofs.Mic.{cut_mic_slice, only_mic_slice}
use Rattle.krb_gss_tokens.proofs.mic_token.MicToken.from_slice.Goals as goal

pub returns-clause-only : goal.returns-clause-only
returns-clause-only c = only_mic_slice _ c.token_of.result c.token_of.ensures.found c.token_of.ensures.fits c.token_of.ensures.first_error

pub returns-clause-cut : goal.returns-clause-cut
returns-clause-cut c = cut_mic_slice _ c.token_of.result c.token_of.ensures.found c.token_of.ensures.first_error
