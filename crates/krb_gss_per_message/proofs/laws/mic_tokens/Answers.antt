use Rattle.std.proofs.Common.{false}
use Rattle.krb_gss_per_message.specs.Keys.{flags_of}
use Rattle.krb_gss_per_message.proofs.FlagBits.{flags_made}
use Rattle.krb_gss_per_message.proofs.Mics.{mic_kept, number_once}
use Rattle.krb_gss_per_message.proofs.laws.mic_tokens.Goals as goal

pub returns-clause-holds : goal.returns-clause-holds
returns-clause-holds c = λ key number message token fits is. (fits, (flags_of key false, flags_made key false, is))

pub returns-clause-one_number : goal.returns-clause-one_number
returns-clause-one_number c = number_once

pub returns-clause-kept : goal.returns-clause-kept
returns-clause-kept c = mic_kept
