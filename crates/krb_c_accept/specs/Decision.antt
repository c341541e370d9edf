-- Whether a client is let in, with a cache that is empty (RFC 4120, 3.2.3; RFC 4121, 4.1).
use Rattle.std.specs.Prelude.{◌≡◌, ℕ, List, []}
use Rattle.krb_accept.specs.Entries.{entry_octets}
use Rattle.krb_accept.specs.Tokens.{IsContextOf, IsTokenPresented, IsTokenRefused}
use Rattle.krb_accept.specs.declared.token.PresentedToken.{PresentedToken}
use Rattle.krb_accept.specs.declared.token_refusal.TokenRefusal.{TokenRefusal}
use Rattle.krb_accept_rules.specs.Times.{IsOfWhole}
use Rattle.krb_accept_rules.specs.declared.opening.Opening.{Ghosts as OpeningOf}
use Rattle.krb_der_core.specs.declared.der.DerEncode.{Ghosts as EncodingOf}
use Rattle.krb_enc_parts.specs.declared.data_types.credentials.EncKrbCredPartInner.{EncKrbCredPartInner}
use Rattle.krb_messages.specs.declared.messages.credentials.KrbCredInner.{KrbCredInner}
use Rattle.krb_types.specs.declared.data_types.authorization_data.AuthorizationDataInner.{AuthorizationDataInner}
use Rattle.krb_c_accept.specs.declared.decision.LetIn.{LetIn}
use Rattle.krb_c_accept.specs.declared.prepared.Prepared.{Prepared}

module _ (cred : EncodingOf KrbCredInner) (part : EncodingOf EncKrbCredPartInner) (elements : EncodingOf (List AuthorizationDataInner)) {O : Type 0}
    (o : OpeningOf O) (p : Prepared) (token : List ℕ) where
  -- The token presents a client, by all rules but those of the cache; a cache that is whole since then would have had the entry, had it been accepted before; these
  -- are the octets of the entry, and this is told of the client.
  pub record IsLetIn (l : LetIn) : Type 0 where
    pub presented : PresentedToken
    pub is_presented : IsTokenPresented cred part elements o p.keys.items p.session_keys.items p.terms p.arrival p.settings token presented
    pub whole : IsOfWhole p.terms.whole_since p.terms.skew presented.presented.entry.seconds
    pub entry_is : l.entry.items ≡ entry_octets presented.presented.entry
    pub told : IsContextOf presented l.context

  -- it breaks a rule, or a cache that has nothing refuses it
  abbrev pub IsTurnedAway : TokenRefusal → Type 0
  IsTurnedAway e = IsTokenRefused cred part elements o p.keys.items p.session_keys.items p.terms p.arrival p.settings token [] e
