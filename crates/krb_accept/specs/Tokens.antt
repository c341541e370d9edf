-- Whether the client of a token is let in (RFC 4121, 4.1 and 4.1.1).
use Rattle.std.specs.Prelude.{◌≡◌, ◌⊎◌, ℕ, true, false, List, Option}
use Rattle.std.specs.Option.{option_map}
use Rattle.krb_accept_rules.specs.Accepting.{IsAdmitted, IsNotAdmitted}
use Rattle.krb_accept_rules.specs.FirstFault.{OrMemory}
use Rattle.krb_accept_rules.specs.Presenting.{IsNotPresented, IsPresented}
use Rattle.krb_accept_rules.specs.declared.accepted.Accepted.{Accepted}
use Rattle.krb_accept_rules.specs.declared.cache.Entry.{Entry}
use Rattle.krb_accept_rules.specs.declared.key.ServiceKey.{ServiceKey}
use Rattle.krb_accept_rules.specs.declared.opening.Opening.{Ghosts as OpeningOf}
use Rattle.krb_accept_rules.specs.declared.refusal.Refusal.{Refusal}
use Rattle.krb_accept_rules.specs.declared.terms.Arrival.{Arrival}
use Rattle.krb_accept_rules.specs.declared.terms.Terms.{Terms}
use Rattle.krb_der_core.specs.declared.der.DerEncode.{Ghosts as EncodingOf}
use Rattle.krb_enc_parts.specs.declared.data_types.credentials.EncKrbCredPartInner.{EncKrbCredPartInner}
use Rattle.krb_messages.specs.declared.messages.credentials.KrbCredInner.{KrbCredInner}
use Rattle.krb_types.specs.declared.data_types.authorization_data.AuthorizationDataInner.{AuthorizationDataInner}
use Rattle.krb_accept.specs.Delegation.{MatchDelegated, RefusesDelegated}
use Rattle.krb_accept.specs.Frame.{in_frame}
use Rattle.krb_accept.specs.HandedOut.{IsHandedOut}
use Rattle.krb_accept.specs.Pac.{BreaksPac, KeepsPac}
use Rattle.krb_accept.specs.Said.{IsNotSaid, IsSaid}
use Rattle.krb_accept.specs.TokenRefusals.{memory}
use Rattle.krb_accept.specs.declared.delegation.Delegated.{Delegated}
use Rattle.krb_accept.specs.declared.frame.InnerToken.TheVariants as inner
use Rattle.krb_accept.specs.declared.settings.Settings.{Settings}
use Rattle.krb_accept.specs.declared.token.Context.{Context}
use Rattle.krb_accept.specs.declared.token.PresentedToken.{PresentedToken}
use Rattle.krb_accept.specs.declared.token_refusal.TokenRefusal.{TokenRefusal}
use Rattle.krb_accept.specs.declared.token_refusal.TokenRefusal.TheVariants as refusal

-- ---- the request in a token

-- the token is in no frame of an AP-REQ
abbrev pub IsUnframed : List ℕ → Type 0
IsUnframed token = (octets : List ℕ) → token ≡ in_frame inner.ApReq octets → ⊥

-- the token is a frame around these octets; or it is in none, and the service takes such
abbrev pub IsRequestIn : Settings → List ℕ → List ℕ → Type 0
IsRequestIn s token octets =
    (token ≡ in_frame inner.ApReq octets) ⊎ (IsUnframed token × (s.bare_request ≡ true) × (octets ≡ token))

abbrev pub IsNoRequestIn : Settings → List ℕ → TokenRefusal → Type 0
IsNoRequestIn s token e = (e ≡ refusal.Frame) × IsUnframed token × (s.bare_request ≡ false)

-- ---- what is told

-- the context of what was presented
pub record IsContextOf (p : PresentedToken) (c : Context) : Type 0 where
  pub accepted : c.accepted ≡ p.presented.accepted
  pub pac : c.pac ≡ p.pac
  pub flags : c.flags ≡ p.flags
  pub delegated : c.delegated ≡ p.delegated

-- memory is wanting, or the cache has it, or may have had it
abbrev pub IsTokenNotAdmitted : Terms → Entry → List Entry → TokenRefusal → Type 0
IsTokenNotAdmitted terms entry seen e = (why : Refusal) × (e ≡ refusal.Request why) × OrMemory (IsNotAdmitted terms entry seen) why

module _ (cred : EncodingOf KrbCredInner) (part : EncodingOf EncKrbCredPartInner) where
  -- ---- what it says of the context beside the request

  -- these flags and these credentials
  abbrev pub IsTold : Settings → Accepted → ℕ → Option Delegated → Type 0
  IsTold s a flags delegated = (octets : List ℕ) × IsSaid s a.checksum flags octets × MatchDelegated cred part a flags octets delegated

  -- none, by the first rule that is broken
  abbrev pub IsNotTold : Settings → Accepted → TokenRefusal → Type 0
  IsNotTold s a e =
      IsNotSaid s a.checksum e
      ⊎ ((flags : ℕ) × (octets : List ℕ) × IsSaid s a.checksum flags octets × RefusesDelegated cred part a flags octets e)

module _ (cred : EncodingOf KrbCredInner) (part : EncodingOf EncKrbCredPartInner) (elements : EncodingOf (List AuthorizationDataInner)) where
  -- the ticket's PAC breaks a rule; or it keeps them, and the authenticator says nothing
  abbrev pub IsNoContext : Settings → ServiceKey → Accepted → TokenRefusal → Type 0
  IsNoContext s key a e =
      BreaksPac elements s.pac key.octets a e
      ⊎ ((pac : Option (List ℕ)) × KeepsPac elements s.pac key.octets a pac × IsNotTold cred part s a e)

  module _ {O : Type 0} (o : OpeningOf O) (keys session_keys : List ServiceKey) (terms : Terms) (arrival : Arrival) (s : Settings) (token : List ℕ) where
    -- ---- all of it but the cache

    -- The AP-REQ in the token keeps the rules of an AP-REQ, and its authenticator says this of the context. The ticket's PAC keeps its rules and is this; all
    -- else that was found is handed out but for elements in which a PAC stands.
    pub record IsTokenPresented (p : PresentedToken) : Type 0 where
      pub octets : List ℕ
      pub found : Accepted
      pub is_request : IsRequestIn s token octets
      pub presented : IsPresented o keys session_keys terms arrival octets p.presented.key.now p.presented.entry found
      pub pac : KeepsPac elements s.pac p.presented.key.now.octets found (option_map (λ v. v.items) p.pac)
      pub told : IsTold cred part s found p.flags p.delegated
      pub handed_out : IsHandedOut elements found p.presented.accepted

    -- Why not, by the first rule that is broken: there is no AP-REQ in the token; or it breaks a rule of an AP-REQ; or its PAC breaks one, or its authenticator says
    -- nothing of a context.
    pub data IsTokenNotPresented (e : TokenRefusal) : Type 0 where
      no_memory : e ≡ memory → IsTokenNotPresented e
      no_request : IsNoRequestIn s token e → IsTokenNotPresented e
      at_request : (octets : List ℕ) → IsRequestIn s token octets → (why : Refusal) → e ≡ refusal.Request why
          → IsNotPresented o keys session_keys terms arrival octets why → IsTokenNotPresented e
      at_context : (octets : List ℕ) → IsRequestIn s token octets → (key : ServiceKey) (entry : Entry) (a : Accepted)
          → IsPresented o keys session_keys terms arrival octets key entry a → IsNoContext s key a e → IsTokenNotPresented e

    -- ---- all of it

    -- what is presented is new to the cache, which has it from now on; and this is told of it
    pub record IsTokenAccepted (seen after : List Entry) (c : Context) : Type 0 where
      pub presented : PresentedToken
      pub is_presented : IsTokenPresented presented
      pub admitted : IsAdmitted terms presented.presented.entry seen after
      pub told : IsContextOf presented c

    -- nothing is presented, or what is presented is not new
    abbrev pub IsTokenRefused : List Entry → TokenRefusal → Type 0
    IsTokenRefused seen e =
        IsTokenNotPresented e
        ⊎ ((p : PresentedToken) × IsTokenPresented p × IsTokenNotAdmitted terms p.presented.entry seen e)
