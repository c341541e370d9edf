-- The KRB-ERROR of a key of the keytab.
use Rattle.std.proofs.Common.{◌≡◌, ℕ, List, ◌∷◌, Result, Ok, Err, IfOk, IfErr, MatchResult, Vec, subst, inl, inr}
use Rattle.std.specs.declared.alloc.Global.{Global}
use Rattle.krb_accept_rules.specs.declared.key.ServiceKey.{ServiceKey}
use Rattle.krb_der_core.specs.declared.der.DerEncode.{Ghosts as EncodingOf}
use Rattle.krb_messages.specs.declared.messages.errors.KrbErrorInner.{KrbErrorInner}
use Rattle.krb_c_calls.specs.Statuses.{refusal_status}
use Rattle.krb_c_calls.specs.declared.call_error.CallError.{CallError}
use Rattle.krb_c_accept.specs.ErrorMessages.{HasKey, IsErrorMade, IsErrorMessage, IsNotMade, RefusesErrorMessage, error_parts}
use Rattle.krb_c_accept.specs.Prepared.{AreKeys}
use Rattle.krb_c_accept.specs.declared.error_message.ErrorAsked.{ErrorAsked}

not_made : (a : ErrorAsked) (keytab : List ℕ) (status : ℕ) → HasKey keytab → IsNotMade a.clock a.microseconds status → RefusesErrorMessage a keytab status
not_made a keytab status key (inl memory) = inl memory
not_made a keytab status key (inr time) = inr (inr (inr (key, time.0, time.1)))

pub for_key : (t : EncodingOf KrbErrorInner) (a : ErrorAsked) (keytab : List ℕ) (keys others : List ServiceKey) (key : ServiceKey) (r : Result (Vec ℕ Global) CallError)
    → AreKeys keytab keys → keys ≡ key ∷ others → IfOk r (λ o. IsErrorMade t a.in_frame (error_parts a key) o.items)
    → IfErr r (λ e. IsNotMade a.clock a.microseconds (refusal_status e))
    → MatchResult r (λ o. IsErrorMessage t a keytab o.items) (λ e. RefusesErrorMessage a keytab (refusal_status e))
for_key t a keytab keys others key (Ok o) are is made refused = record { first = key; others = others; keys = subst (AreKeys keytab) is are; made = made }
for_key t a keytab keys others key (Err e) are is made refused =
    not_made a keytab (refusal_status e) (key, others, subst (AreKeys keytab) is are) refused
