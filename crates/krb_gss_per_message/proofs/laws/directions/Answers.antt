use Rattle.krb_gss_per_message.proofs.Mics.{mic_sender}
use Rattle.krb_gss_per_message.proofs.Wraps.{wrap_sender}
use Rattle.krb_gss_per_message.proofs.laws.directions.Goals as goal

pub returns-clause-mic_tokens : goal.returns-clause-mic_tokens
returns-clause-mic_tokens c = mic_sender

pub returns-clause-wrap_tokens : goal.returns-clause-wrap_tokens
returns-clause-wrap_tokens c = wrap_sender
