-- The token of a first message.
use Rattle.std.proofs.Common.{◌≡◌, ◌∙◌, ap, refl, subst, sym, inl, inr, ℕ, List, Option, None, Some, MatchOption, unwrap_or}
use Rattle.std.proofs.lemmas.Option.{none-some}
use Rattle.krb_accept_rules.specs.Values.{HasNone, IsTheValue}
use Rattle.krb_gss_tokens.specs.declared.spnego.GssApiNegInit.{GssApiNegInit}
use Rattle.krb_accept_report.specs.Negotiation.{IsMechToken, IsTokenIn, OffersKerberos}

module _ (is_message : GssApiNegInit → Type 0) where
  -- it is that of the one message that the octets are
  pub of_message : (v : GssApiNegInit) → IsTheValue is_message v → OffersKerberos v → (found : Option (List ℕ)) → found ≡ v.neg_token_init.mech_token.0
      → MatchOption found ((token : List ℕ) → IsMechToken is_message token → ⊥) (λ token. IsMechToken is_message token)
  of_message v is offers (Some token) found = (v, is.holds, offers, sym found)
  of_message v is offers None found = λ token (w, message, offered, has).
      let none : None ≡ Some token = found ∙ ap (λ x. x.neg_token_init.mech_token.0) (sym (is.only w message)) ∙ has in
      none-some token none

  -- octets that are no first message hold none
  pub none_of : HasNone is_message → (token : List ℕ) → IsMechToken is_message token → ⊥
  none_of none token (v, message, offers, has) = none v message

  -- nor does one that does not offer Kerberos first
  pub not_offered : (v : GssApiNegInit) → IsTheValue is_message v → (OffersKerberos v → ⊥) → (token : List ℕ) → IsMechToken is_message token → ⊥
  not_offered v is none token (w, message, offers, has) = none (subst OffersKerberos (is.only w message) offers)

  -- the token that octets hold
  pub token_in : (octets : List ℕ) (found : Option (List ℕ))
      → MatchOption found ((token : List ℕ) → IsMechToken is_message token → ⊥) (λ token. IsMechToken is_message token)
      → IsTokenIn is_message octets (unwrap_or found octets)
  token_in octets (Some token) is = inl is
  token_in octets None none = inr (none, refl)
