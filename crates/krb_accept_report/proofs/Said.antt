-- What is said of a token by what is presented.
use Rattle.std.proofs.Common.{◌≡◌, ◌≢◌, inl, inr, true, false, ℕ, List, [], Result, Ok, Err, IfOk}
use Rattle.std.specs.declared.alloc.AllocError.{AllocError}
use Rattle.krb_accept.specs.TokenRefusals.{memory}
use Rattle.krb_accept.specs.Tokens.{IsTokenNotPresented, IsTokenPresented}
use Rattle.krb_accept.specs.declared.settings.Settings.{Settings}
use Rattle.krb_accept.specs.declared.token.PresentedToken.{PresentedToken}
use Rattle.krb_accept.specs.declared.token_refusal.TokenRefusal.{TokenRefusal}
use Rattle.krb_accept_rules.specs.declared.key.ServiceKey.{ServiceKey}
use Rattle.krb_accept_rules.specs.declared.opening.Opening.{Ghosts as OpeningOf}
use Rattle.krb_accept_rules.specs.declared.terms.Arrival.{Arrival}
use Rattle.krb_accept_rules.specs.declared.terms.Terms.{Terms}
use Rattle.krb_der_core.specs.declared.der.DerEncode.{Ghosts as EncodingOf}
use Rattle.krb_enc_parts.specs.declared.data_types.credentials.EncKrbCredPartInner.{EncKrbCredPartInner}
use Rattle.krb_messages.specs.declared.messages.credentials.KrbCredInner.{KrbCredInner}
use Rattle.krb_types.specs.declared.data_types.authorization_data.AuthorizationDataInner.{AuthorizationDataInner}
use Rattle.krb_accept_report.specs.Reports.{IsReasonLine, IsSaid, accepted_text}
use Rattle.krb_accept_report.specs.Texts.{printed}
use Rattle.krb_accept_report.specs.declared.report.Report.{Report}

module _ (cred : EncodingOf KrbCredInner) (part : EncodingOf EncKrbCredPartInner) (elements : EncodingOf (List AuthorizationDataInner)) {O : Type 0}
    (o : OpeningOf O) (keys : List ServiceKey) (terms : Terms) (arrival : Arrival) (settings : Settings) (token : List ℕ) where
  pub let_in : (p : PresentedToken) → IsTokenPresented cred part elements o keys [] terms arrival settings token p → (r : Result Report AllocError)
      → IfOk r (λ x. x.accepts ≡ true) → IfOk r (λ x. x.line.items ≡ printed (accepted_text p.presented.accepted))
      → IfOk r (λ x. IsSaid cred part elements o keys terms arrival settings token x.accepts x.line.items)
  let_in p is (Ok x) accepts line = inl (accepts, (p, is, line))
  let_in p is (Err e) accepts line = tt

  pub kept_out : (e : TokenRefusal) → IsTokenNotPresented cred part elements o keys [] terms arrival settings token e → (r : Result Report AllocError)
      → IfOk r (λ x. x.accepts ≡ false) → IfOk r (λ x. e ≢ memory) → IfOk r (λ x. IsReasonLine o keys arrival.clock terms.skew token e x.line.items)
      → IfOk r (λ x. IsSaid cred part elements o keys terms arrival settings token x.accepts x.line.items)
  kept_out e is (Ok x) refuses breach line = inr (refuses, (e, breach, is, line))
  kept_out e is (Err x) refuses breach line = tt
