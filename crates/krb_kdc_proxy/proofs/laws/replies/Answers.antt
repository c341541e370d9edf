use Rattle.std.proofs.Common.{refl}
use Rattle.krb_kdc_proxy.proofs.OneReply.{reply_is_read, same_reply}
use Rattle.krb_kdc_proxy.proofs.laws.replies.Goals as goal

pub returns-clause-same : goal.returns-clause-same
returns-clause-same c = same_reply _ (record { as_rep = λ t. refl; tgs_rep = λ t. refl; krb_error = λ t. refl }) _

pub returns-clause-read : goal.returns-clause-read
returns-clause-read c = reply_is_read _ (record { as_rep = λ t. refl; tgs_rep = λ t. refl; krb_error = λ t. refl }) _
