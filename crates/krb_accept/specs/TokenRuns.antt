-- A service over time: tokens come (RFC 4121, 4.1), and old entries are forgotten (RFC 4120, 3.2.3).
use Rattle.std.specs.Prelude.{◌≡◌, ℕ, ℤ, ◌≤ℤ◌, List, [], ◌∷◌, Result, Ok, Err}
use Rattle.krb_accept_rules.specs.Remembering.{IsWithout}
use Rattle.krb_accept_rules.specs.declared.cache.Entry.{Entry}
use Rattle.krb_accept_rules.specs.declared.key.ServiceKey.{ServiceKey}
use Rattle.krb_accept_rules.specs.declared.opening.Opening.{Ghosts as OpeningOf}
use Rattle.krb_accept_rules.specs.declared.terms.Arrival.{Arrival}
use Rattle.krb_accept_rules.specs.declared.terms.Terms.{Terms}
use Rattle.krb_der_core.specs.declared.der.DerEncode.{Ghosts as EncodingOf}
use Rattle.krb_enc_parts.specs.declared.data_types.credentials.EncKrbCredPartInner.{EncKrbCredPartInner}
use Rattle.krb_messages.specs.declared.messages.credentials.KrbCredInner.{KrbCredInner}
use Rattle.krb_types.specs.declared.data_types.authorization_data.AuthorizationDataInner.{AuthorizationDataInner}
use Rattle.krb_accept.specs.Tokens.{IsTokenAccepted, IsTokenRefused}
use Rattle.krb_accept.specs.declared.settings.Settings.{Settings}
use Rattle.krb_accept.specs.declared.token.Context.{Context}
use Rattle.krb_accept.specs.declared.token_refusal.TokenRefusal.{TokenRefusal}

-- a token comes, and this is answered under these settings; or old entries are forgotten at a time of the clock
pub data TokenEvent : Type 0 where
  comes : Arrival → Settings → List ℕ → Result Context TokenRefusal → TokenEvent
  forgets : ℤ → TokenEvent

module _ (cred : EncodingOf KrbCredInner) (part : EncodingOf EncKrbCredPartInner) (elements : EncodingOf (List AuthorizationDataInner)) {O : Type 0} (o : OpeningOf O)
    (keys session_keys : List ServiceKey) (terms : Terms) where
  -- the answer is one that `accept_token` may give, and this is the cache afterwards: a refusal leaves it as it was
  abbrev pub IsTokenAnswered : Arrival → Settings → List ℕ → List Entry → List Entry → Result Context TokenRefusal → Type 0
  IsTokenAnswered arrival s token seen after (Ok c) = IsTokenAccepted cred part elements o keys session_keys terms arrival s token seen after c
  IsTokenAnswered arrival s token seen after (Err e) =
      IsTokenRefused cred part elements o keys session_keys terms arrival s token seen e × (after ≡ seen)

  -- one event after the other; nothing is forgotten at a clock later than this
  abbrev pub IsTokenRun : ℤ → List TokenEvent → List Entry → List Entry → Type 0
  IsTokenRun later [] seen after = after ≡ seen
  IsTokenRun later (comes arrival s token answer ∷ events) seen after =
      (next : List Entry) × IsTokenAnswered arrival s token seen next answer × IsTokenRun later events next after
  IsTokenRun later (forgets clock ∷ events) seen after =
      (next : List Entry) × (clock ≤ℤ later) × IsWithout clock terms.skew seen next × IsTokenRun later events next after
