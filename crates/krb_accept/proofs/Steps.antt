-- What a step of the decision about a token says of the whole.
use Rattle.std.proofs.Common.{◌≡◌, ℕ, List, Option, Result, Ok, Err, IfErr, IfOk, inl, inr, refl, sym, subst, ap}
use Rattle.std.specs.Option.{option_map}
use Rattle.krb_accept_rules.specs.FirstFault.{OrMemory}
use Rattle.krb_accept_rules.specs.Presenting.{IsNotPresented, IsPresented}
use Rattle.krb_accept_rules.specs.declared.accepted.Presented.{Presented}
use Rattle.krb_accept_rules.specs.declared.cache.Entry.{Entry}
use Rattle.krb_accept_rules.specs.declared.key.ServiceKey.{ServiceKey}
use Rattle.krb_accept_rules.specs.declared.opening.Opening.{Ghosts as OpeningOf}
use Rattle.krb_accept_rules.specs.declared.refusal.Refusal.{Refusal}
use Rattle.krb_accept_rules.specs.declared.terms.Arrival.{Arrival}
use Rattle.krb_accept_rules.specs.declared.terms.Terms.{Terms}
use Rattle.krb_der_core.specs.declared.der.DerEncode.{Ghosts as EncodingOf}
use Rattle.krb_enc_parts.specs.declared.data_types.credentials.EncKrbCredPartInner.{EncKrbCredPartInner}
use Rattle.krb_messages.specs.declared.messages.credentials.KrbCredInner.{KrbCredInner}
use Rattle.krb_types.specs.declared.data_types.authorization_data.AuthorizationDataInner.{AuthorizationDataInner}
use Rattle.krb_accept.specs.HandedOut.{IsHandedOut}
use Rattle.krb_accept.specs.Pac.{KeepsPac}
use Rattle.krb_accept.specs.TokenRefusals.{memory}
use Rattle.krb_accept.specs.Tokens.{IsRequestIn, IsTokenNotPresented, IsTokenPresented, IsTold, at_request, no_memory}
use Rattle.krb_accept.specs.declared.delegation.Delegated.{Delegated}
use Rattle.krb_accept.specs.declared.settings.Settings.{Settings}
use Rattle.krb_accept.specs.declared.token.PresentedToken.{PresentedToken}
use Rattle.krb_accept.specs.declared.token.Told.{Told}
use Rattle.krb_accept.specs.declared.token_refusal.TokenRefusal.{TokenRefusal}
use Rattle.krb_accept.specs.declared.token_refusal.TokenRefusal.TheVariants as refusal

-- the AP-REQ in the token breaks a rule, or memory was wanting
pub request_refused : (cred : EncodingOf KrbCredInner) (part : EncodingOf EncKrbCredPartInner) (elements : EncodingOf (List AuthorizationDataInner)) {O : Type 0} (o : OpeningOf O)
    (keys session_keys : List ServiceKey) (terms : Terms) (arrival : Arrival) (s : Settings) (token octets : List ℕ) (why : Refusal) → IsRequestIn s token octets
    → OrMemory (IsNotPresented o keys session_keys terms arrival octets) why → IsTokenNotPresented cred part elements o keys session_keys terms arrival s token (refusal.Request why)
request_refused cred part elements o keys session_keys terms arrival s token octets why is (inl m) = no_memory (ap refusal.Request m)
request_refused cred part elements o keys session_keys terms arrival s token octets why is (inr n) = at_request octets is why refl n

-- what is handed out with what the token tells
pub token_found : (cred : EncodingOf KrbCredInner) (part : EncodingOf EncKrbCredPartInner) (elements : EncodingOf (List AuthorizationDataInner)) {O : Type 0} (o : OpeningOf O)
    (keys session_keys : List ServiceKey) (terms : Terms) (arrival : Arrival) (s : Settings) (token octets : List ℕ) (presented : Presented) (told : Told)
    (r : Result PresentedToken TokenRefusal) → IsRequestIn s token octets
    → IsPresented o keys session_keys terms arrival octets presented.key.now presented.entry presented.accepted
    → KeepsPac elements s.pac presented.key.now.octets presented.accepted (option_map (λ v. v.items) told.pac) → IsTold cred part s presented.accepted told.flags told.delegated
    → IfOk r (λ p. p.presented.entry ≡ presented.entry) → IfOk r (λ p. IsHandedOut elements presented.accepted p.presented.accepted)
    → IfOk r (λ p. p.presented.key.now ≡ presented.key.now) → IfOk r (λ p. (p.pac ≡ told.pac) × (p.flags ≡ told.flags) × (p.delegated ≡ told.delegated))
    → IfOk r (IsTokenPresented cred part elements o keys session_keys terms arrival s token)
token_found cred part elements o keys session_keys terms arrival s token octets presented told (Ok p) is shows pac says entry handed key same = record {
  octets = octets;
  found = presented.accepted;
  is_request = is;
  presented = subst (λ (k : ServiceKey). IsPresented o keys session_keys terms arrival octets k p.presented.entry presented.accepted) (sym key)
      (subst (λ (e : Entry). IsPresented o keys session_keys terms arrival octets presented.key.now e presented.accepted) (sym entry) shows);
  pac = subst (λ (k : ServiceKey). KeepsPac elements s.pac k.octets presented.accepted (option_map (λ v. v.items) p.pac)) (sym key)
      (subst (λ x. KeepsPac elements s.pac presented.key.now.octets presented.accepted (option_map (λ v. v.items) x)) (sym same.0) pac);
  told = subst (λ (n : ℕ). IsTold cred part s presented.accepted n p.delegated) (sym same.1)
      (subst (λ (d : Option Delegated). IsTold cred part s presented.accepted told.flags d) (sym same.2) says);
  handed_out = handed;
}
token_found cred part elements o keys session_keys terms arrival s token octets presented told (Err e) is shows pac says entry handed key same = tt

pub token_refused : (cred : EncodingOf KrbCredInner) (part : EncodingOf EncKrbCredPartInner) (elements : EncodingOf (List AuthorizationDataInner)) {O : Type 0} (o : OpeningOf O)
    (keys session_keys : List ServiceKey) (terms : Terms) (arrival : Arrival) (s : Settings) (token : List ℕ)
    (r : Result PresentedToken TokenRefusal) → IfErr r (λ e. e ≡ memory) → IfErr r (IsTokenNotPresented cred part elements o keys session_keys terms arrival s token)
token_refused cred part elements o keys session_keys terms arrival s token (Ok p) h = tt
token_refused cred part elements o keys session_keys terms arrival s token (Err e) h = no_memory h
