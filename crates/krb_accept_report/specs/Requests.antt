-- What a ticket asks for, and what the keytab has.
use Rattle.std.specs.Prelude.{◌≡◌, ◌⊎◌, ℕ, List, [], ◌∷◌, ◌++◌, Some, Option, MatchOption, codes}
use Rattle.krb_accept.specs.Frame.{in_frame}
use Rattle.krb_accept.specs.Tokens.{IsUnframed}
use Rattle.krb_accept.specs.declared.frame.InnerToken.TheVariants as inner
use Rattle.krb_accept_rules.specs.Firsts.{OneIs}
use Rattle.krb_accept_rules.specs.Keys.{IsOfServer, IsOfServerAndType}
use Rattle.krb_accept_rules.specs.Values.{HasNone, IsTheValue}
use Rattle.krb_accept_rules.specs.declared.fields.RequestFields.{RequestFields}
use Rattle.krb_accept_rules.specs.declared.key.ServiceKey.{ServiceKey}
use Rattle.krb_accept_rules.specs.declared.opening.Opening.{Ghosts as OpeningOf}
use Rattle.krb_accept_rules.specs.declared.refusal.Rule.{Rule}
use Rattle.krb_accept_rules.specs.declared.refusal.Rule.TheVariants as Rules
use Rattle.krb_types.specs.Principals.{principal_text}
use Rattle.krb_accept_report.specs.Texts.{IsNumber, IsNumberOrNone, listed}

-- the message in a token; the token itself where it has no frame (RFC 4121, 4.1)
abbrev pub IsMessage : List ℕ → List ℕ → Type 0
IsMessage token octets = (token ≡ in_frame inner.ApReq octets) ⊎ (IsUnframed token × (octets ≡ token))

-- the server that the ticket names (RFC 1964, 2.1.1)
abbrev pub server_text : RequestFields → List ℕ
server_text r = principal_text r.server.name_string (Some r.realm)

-- the kvnos of the keys that are of the server and of the ticket's encryption type, in their order
abbrev pub AreKvnos : RequestFields → List ServiceKey → List ℕ → Type 0
AreKvnos r [] kvnos = kvnos ≡ []
AreKvnos r (k ∷ keys) kvnos =
    (IsOfServerAndType r k × ((rest : List ℕ) × (kvnos ≡ k.kvno ∷ rest) × AreKvnos r keys rest))
    ⊎ ((IsOfServerAndType r k → ⊥) × AreKvnos r keys kvnos)

-- the kvno of one more key, if it is one of these
abbrev pub AddsKvno : RequestFields → ServiceKey → List ℕ → List ℕ → Type 0
AddsKvno r k before after =
    (IsOfServerAndType r k × (after ≡ before ++ k.kvno ∷ [])) ⊎ ((IsOfServerAndType r k → ⊥) × (after ≡ before))

-- `(etype 18, kvno 2)`: what the ticket is encrypted under (RFC 4120, 5.2.9)
pub record IsUnder (r : RequestFields) (text : List ℕ) : Type 0 where
  pub etype : List ℕ
  pub kvno : List ℕ
  pub is_etype : IsNumber r.ticket.etype etype
  pub is_kvno : IsNumberOrNone r.ticket.kvno.0 kvno
  pub is_text : text ≡ codes " (etype " ++ etype ++ codes ", kvno " ++ kvno ++ codes ")"

-- no key is of the server; or one is, and the terms name others (`IsServed` of krb_accept_rules)
abbrev pub IsServerReason : List ServiceKey → RequestFields → List ℕ → Type 0
IsServerReason keys r text =
    ((OneIs (IsOfServer r) keys → ⊥) × (text ≡ codes "no key for the server " ++ server_text r))
    ⊎ (OneIs (IsOfServer r) keys × (text ≡ codes "no client is let in for the server " ++ server_text r))

-- what the ticket asks for, where no key is for it, no client is let in for its server, or no key decrypts it
abbrev pub IsKeyReason : List ServiceKey → RequestFields → Rule → List ℕ → Type 0
IsKeyReason keys r Rules.NotUs text = IsServerReason keys r text
IsKeyReason keys r Rules.NoKey text =
    (under : List ℕ) × IsUnder r under × (text ≡ codes "no key of the ticket's encryption type for the server " ++ server_text r ++ under)
IsKeyReason keys r Rules.KeyVersion text =
    (under : List ℕ) × (kvnos : List ℕ) × IsUnder r under × AreKvnos r keys kvnos
    × (text ≡ codes "no key of the ticket's kvno for the server " ++ server_text r ++ under ++ codes ", kvnos at hand: " ++ listed kvnos)
IsKeyReason keys r other text =
    (under : List ℕ) × IsUnder r under × (text ≡ codes "no key of the server " ++ server_text r ++ codes " decrypts the ticket" ++ under)

-- the one request in a token, or none
abbrev pub IsMessageOf : {O : Type 0} → OpeningOf O → List ℕ → Option RequestFields → Type 0
IsMessageOf o token found = (octets : List ℕ) × IsMessage token octets × MatchOption found (HasNone (o.reads octets)) (IsTheValue (o.reads octets))

-- what the ticket of a token asks for; the rule's own text where the token has no request
abbrev pub IsKeyReasonOf : {O : Type 0} → OpeningOf O → List ServiceKey → List ℕ → Rule → List ℕ → List ℕ → Type 0
IsKeyReasonOf o keys token rule plain text =
    (found : Option RequestFields) × IsMessageOf o token found × MatchOption found (text ≡ plain) (λ r. IsKeyReason keys r rule text)
