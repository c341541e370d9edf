-- Why nothing follows.
use Rattle.std.specs.Prelude.{ℕ, Option, Some, None}
use Rattle.krb_client.specs.declared.error.ClientError.{ClientError}
use Rattle.krb_client.specs.declared.renamed.RenameError.{RenameError}
use Rattle.krb_client.specs.declared.replies.error.ReplyError.{ReplyError}
use Rattle.krb_client.specs.declared.requests.error.RequestError.{RequestError}
use Rattle.krb_c_calls.specs.declared.call_error.CallError.TheVariants as calls
use Rattle.krb_c_client.specs.Rules.{client_rule, code_of, rename_rule, reply_rule, request_rule}
use Rattle.krb_c_client.specs.declared.refusal.Refusal.{Refusal}
use Rattle.krb_c_client.specs.declared.refusal.Refusal.TheVariants as refusals

-- the rule that is broken; where there is none, an allocation failed
abbrev pub refusal_of : Option ℕ → ℕ → Refusal
refusal_of None code = refusals.Failed calls.Memory
refusal_of (Some rule) code = refusals.Rule rule code

-- the exchange does not wait for such a message (KRB_CLIENT_RULE_OTHER_MESSAGE)
abbrev pub out_of_turn : Refusal
out_of_turn = refusals.Rule 1 0

abbrev pub client_refusal : ClientError → Refusal
client_refusal e = refusal_of (client_rule e) (code_of e)

abbrev pub request_refusal : RequestError → Refusal
request_refusal e = refusal_of (request_rule e) 0

abbrev pub reply_refusal : ReplyError → Refusal
reply_refusal e = refusal_of (reply_rule e) 0

abbrev pub rename_refusal : RenameError → Refusal
rename_refusal e = refusal_of (rename_rule e) 0
