-- What Kerberos means as the mechanism of an acceptor (RFC 4121).
use Rattle.std.proofs.Common.{◌≡◌, ◌∙◌, MutBor, refl, ap}
use Rattle.std.specs.Prelude.{◌||◌, ◌&&◌, ◌==◌, ◌+◌, ◌-◌, ◌/◌, ◌%◌, ◌^◌, nat_eq, nat_lt, if◌then◌else◌, drop, pos, ℕ, List, [], ◌∷◌, Bool, true, false, Option, Some, None, Vec, is_some, MatchBool}
use Rattle.std.specs.Cmp.Lexicographic.{pointwise}
use Rattle.std.specs.List.{starts_with}
use Rattle.std.specs.declared.alloc.Global.{Global}
use Rattle.krb_accept_rules.specs.declared.accepted.Accepted.{Accepted}
use Rattle.krb_accept_rules.specs.declared.opening.Opening.{Ghosts as OpeningOf}
use Rattle.krb_der_core.specs.declared.der.DerEncode.{Ghosts as EncodingOf}
use Rattle.krb_enc_parts.specs.declared.data_types.authenticators.EncApRepPartInner.{EncApRepPartInner}
use Rattle.krb_enc_parts.specs.declared.data_types.credentials.EncKrbCredPartInner.{EncKrbCredPartInner}
use Rattle.krb_gss_per_message.specs.Keys.{Key}
use Rattle.krb_gss_per_message.specs.Mic.{IsMic, IsMicOf}
use Rattle.krb_gss_per_message.specs.declared.key.Sender.TheVariants.{Initiator, Acceptor}
use Rattle.krb_messages.specs.declared.messages.application.ApRepInner.{ApRepInner}
use Rattle.krb_messages.specs.declared.messages.credentials.KrbCredInner.{KrbCredInner}
use Rattle.krb_types.specs.declared.data_types.authorization_data.AuthorizationDataInner.{AuthorizationDataInner}
use Rattle.krb_accept.specs.ContextKey.{HasNoTokenKey, IsTokenKeyOf, context_key}
use Rattle.krb_accept.specs.Frame.{mechanism}
use Rattle.krb_accept.specs.Replies.{IsNoReply, IsReplyToken}
use Rattle.krb_accept.specs.TokenRefusals.{memory}
use Rattle.krb_accept.specs.Tokens.{IsTokenNotPresented, IsTokenPresented}
use Rattle.krb_accept.specs.Wanted.{WantsReply}
use Rattle.krb_accept.specs.declared.ap_rep.ReplyError.TheVariants as replies
use Rattle.krb_accept.specs.declared.token.PresentedToken.{PresentedToken}
use Rattle.krb_spnego_rules.specs.Meaning.{IsSteady, Meaning}
use Rattle.krb_spnego_rules.specs.declared.mechanism.MechanismError.{MechanismError}
use Rattle.krb_spnego_rules.specs.declared.mechanism.MechanismError.TheVariants as errors
use Rattle.krb_spnego_rules.specs.declared.mechanism.Turn.{Turn}
use Rattle.krb_spnego_rules.specs.declared.mechanism.Turn.TheVariants.{EndsWithToken, Ends}
use Rattle.krb_spnego.specs.declared.kerberos.Client.{Client}
use Rattle.krb_spnego.specs.declared.kerberos.KerberosAcceptor.{KerberosAcceptor}
use Rattle.krb_spnego.specs.declared.kerberos.Service.{Service}
use Rattle.krb_spnego.specs.declared.refusal.KerberosRefusal.{KerberosRefusal}
use Rattle.krb_spnego.specs.declared.refusal.KerberosRefusal.TheVariants as refusals
use Rattle.krb_spnego.specs.declared.refusal.StepError.{StepError}
use Rattle.krb_spnego.specs.declared.refusal.StepError.TheVariants as steps

-- ---- names

-- 1.2.840.113554.1.2.2 (RFC 4121, 4.1), and 1.2.840.48018.1.2.2, which Windows has beside (MS-SPNG, 1.9)
abbrev pub kerberos_arcs : List ℕ
kerberos_arcs = 1 ∷ 2 ∷ 840 ∷ 113554 ∷ 1 ∷ 2 ∷ 2 ∷ []

abbrev pub arcs_of_windows : List ℕ
arcs_of_windows = 1 ∷ 2 ∷ 840 ∷ 48018 ∷ 1 ∷ 2 ∷ 2 ∷ []

abbrev pub is_kerberos : List ℕ → Bool
is_kerberos arcs = pointwise nat_eq arcs kerberos_arcs || pointwise nat_eq arcs arcs_of_windows

-- ---- a token of its own (RFC 2743, 3.1)

-- what follows the tag and the length
abbrev pub content_in : List ℕ → List ℕ
content_in [] = []
content_in (tag ∷ []) = []
content_in (tag ∷ length ∷ rest) = if nat_lt length 128 then rest else drop (length - 128) rest

abbrev pub is_framed_in : List ℕ → Bool
is_framed_in token = starts_with nat_eq token (96 ∷ []) && starts_with nat_eq (content_in token) mechanism

-- ---- a client

-- the flag of DCE style, whose context is established by a third message (MS-KILE, 3.4.5.1)
abbrev pub is_dce_style : ℕ → Bool
is_dce_style flags = flags / 4096 % 2 == 1

module _ (cred : EncodingOf KrbCredInner) (part : EncodingOf EncKrbCredPartInner) (elements : EncodingOf (List AuthorizationDataInner)) {O : Type 0}
    (o : OpeningOf O) where
  -- a token of this client keeps all rules but those of the replay cache, and it does not want DCE style
  abbrev pub IsClientOf : Service → List ℕ → Client → Type 0
  IsClientOf service token client =
      (p : PresentedToken) × (IsTokenPresented cred part elements o service.keys.items service.session_keys.items service.terms service.arrival
      service.settings token p
      × ((is_dce_style p.flags ≡ false)
      × (client ≡ record { entry = p.presented.entry; accepted = p.presented.accepted; pac = p.pac; flags = p.flags; delegated = p.delegated })))

-- a key of the context makes and verifies MICs
abbrev pub HasTokenKey : Accepted → Type 0
HasTokenKey a = (key : Key) × IsTokenKeyOf (context_key a None) Acceptor false key

-- ---- its turn

-- an AP-REP with this sequence number, under this confounder, where the client waits for one; else nothing
abbrev pub IsTurnBy : Bool → EncodingOf EncApRepPartInner → EncodingOf ApRepInner → Accepted → List ℕ → ℕ → Turn → Type 0
IsTurnBy true reply ap_rep a confounder number turn =
    (token : Vec ℕ Global) × (IsReplyToken reply ap_rep a confounder None (Some (pos number)) token.items × (turn ≡ EndsWithToken token))
IsTurnBy false reply ap_rep a confounder number turn = turn ≡ Ends

-- it does (krb_accept's one rule), or not
abbrev pub IsTurnFor : EncodingOf EncApRepPartInner → EncodingOf ApRepInner → Client → List ℕ → ℕ → Turn → Type 0
IsTurnFor reply ap_rep client confounder number turn =
    (wants : Bool) × (MatchBool wants (WantsReply client.accepted client.flags) (WantsReply client.accepted client.flags → ⊥)
    × IsTurnBy wants reply ap_rep client.accepted confounder number turn)

-- the context has no key for MICs; or it has one, the client waits for an AP-REP, and there is none: the session key is of no suite, or the confounder of another
-- length
abbrev pub IsNoTurnFor : Client → List ℕ → KerberosRefusal → Type 0
IsNoTurnFor client confounder refusals.NoTokenKey = HasNoTokenKey (context_key client.accepted None)
IsNoTurnFor client confounder (refusals.NoReply e) =
    HasTokenKey client.accepted × WantsReply client.accepted client.flags × IsNoReply client.accepted confounder e × (e ≡ replies.OutOfMemory → ⊥)
IsNoTurnFor client confounder other = ⊥

-- ---- refusals

-- an allocation failed; or it is for this reason
abbrev pub NoStep : (KerberosRefusal → Type 0) → StepError → Type 0
NoStep is_why steps.OutOfMemory = Unit {0}
NoStep is_why (steps.Refused why) = is_why why

-- the place that the caller lends says this
abbrev pub told : MutBor (Option KerberosRefusal) → Option KerberosRefusal → MutBor (Option KerberosRefusal)
told place why = record { ref_ptr = place.ref_ptr; ghost_name = place.ghost_name; now = why }

abbrev pub with_refusal : KerberosAcceptor → Option KerberosRefusal → KerberosAcceptor
with_refusal k why = record { service = k.service; confounder = k.confounder; number = k.number; next = k.next; client = k.client; refusal = told k.refusal why }

module _ (cred : EncodingOf KrbCredInner) (part : EncodingOf EncKrbCredPartInner) (elements : EncodingOf (List AuthorizationDataInner)) {O : Type 0}
    (o : OpeningOf O) where
  -- why a token is refused: the first rule that it breaks; or it breaks none, and its client wants DCE style; or it does not, and has no turn
  abbrev pub IsRefusedBy : KerberosAcceptor → List ℕ → KerberosRefusal → Type 0
  IsRefusedBy k token refusals.Established = ⊥
  IsRefusedBy k token refusals.NoToken = ⊥
  IsRefusedBy k token (refusals.Token e) =
      IsTokenNotPresented cred part elements o k.service.keys.items k.service.session_keys.items k.service.terms k.service.arrival k.service.settings token e
      × (e ≡ memory → ⊥)
  IsRefusedBy k token refusals.DceStyle =
      (p : PresentedToken)
      × IsTokenPresented cred part elements o k.service.keys.items k.service.session_keys.items k.service.terms k.service.arrival k.service.settings token p
      × (is_dce_style p.flags ≡ true)
  IsRefusedBy k token refusals.NoTokenKey =
      (client : Client) × IsClientOf cred part elements o k.service token client × IsNoTurnFor client k.confounder.items refusals.NoTokenKey
  IsRefusedBy k token (refusals.NoReply e) =
      (client : Client) × IsClientOf cred part elements o k.service token client × IsNoTurnFor client k.confounder.items (refusals.NoReply e)

  -- why there is no step: the first of these that is so
  abbrev pub KerberosRefusesBy : KerberosAcceptor → Option (List ℕ) → KerberosRefusal → Type 0
  KerberosRefusesBy k token refusals.Established = is_some k.client ≡ true
  KerberosRefusesBy k token refusals.NoToken = (k.client ≡ None) × (token ≡ None)
  KerberosRefusesBy k token why = (k.client ≡ None) × ((octets : List ℕ) × (token ≡ Some octets) × IsRefusedBy k octets why)

  -- there is a client already; no token came; the token breaks a rule; the context has no key for MICs, or no AP-REP
  abbrev pub KerberosRefuses : KerberosAcceptor → Option (List ℕ) → Type 0
  KerberosRefuses k token = (why : KerberosRefusal) × KerberosRefusesBy k token why

  -- the mechanism tells why, and else is as it was
  abbrev pub TellsRefusal : KerberosAcceptor → Option (List ℕ) → KerberosAcceptor → MechanismError → Type 0
  TellsRefusal k token after errors.OutOfMemory = after ≡ with_refusal k None
  TellsRefusal k token after errors.Refused = (why : KerberosRefusal) × KerberosRefusesBy k token why × (after ≡ with_refusal k (Some why))

-- ---- MICs (RFC 4121, 4.2.4)

-- the MIC is the service's of this text, with this sequence number
abbrev pub MadeOf : Accepted → ℕ → List ℕ → List ℕ → Type 0
MadeOf a number text mic = (key : Key) × (IsTokenKeyOf (context_key a None) Acceptor false key × IsMic key number text mic)

-- the MIC is the client's of this text
abbrev pub HoldsOf : Accepted → List ℕ → List ℕ → Type 0
HoldsOf a text mic = (key : Key) × (IsTokenKeyOf (context_key a None) Initiator false key × ((number : ℕ) × IsMicOf key text mic number))

-- ---- the mechanism

abbrev pub with_client : KerberosAcceptor → Client → KerberosAcceptor
with_client k client =
    record { service = k.service; confounder = k.confounder; number = k.number; next = k.next; client = Some client; refusal = told k.refusal None }

abbrev pub with_next : KerberosAcceptor → ℕ → KerberosAcceptor
with_next k next = record { service = k.service; confounder = k.confounder; number = k.number; next = next; client = k.client; refusal = k.refusal }

module _ (cred : EncodingOf KrbCredInner) (part : EncodingOf EncKrbCredPartInner) (elements : EncodingOf (List AuthorizationDataInner)) {O : Type 0}
    (o : OpeningOf O) (reply : EncodingOf EncApRepPartInner) (ap_rep : EncodingOf ApRepInner) where
  -- the token is this client's, and this is sent to it
  abbrev pub IsTaken : KerberosAcceptor → List ℕ → Client → Turn → Type 0
  IsTaken k octets client turn =
      IsClientOf cred part elements o k.service octets client × HasTokenKey client.accepted
      × IsTurnFor reply ap_rep client k.confounder.items k.number turn

  -- of a first token
  abbrev pub IsStep : KerberosAcceptor → Option (List ℕ) → Client → Turn → Type 0
  IsStep k token client turn = (k.client ≡ None) × ((octets : List ℕ) × (token ≡ Some octets) × IsTaken k octets client turn)

  -- the first token is a client's, and the context is established with it
  abbrev pub KerberosSteps : KerberosAcceptor → Option (List ℕ) → KerberosAcceptor → Turn → Type 0
  KerberosSteps k token after turn = (client : Client) × IsStep k token client turn × (after ≡ with_client k client)

  abbrev pub kerberos_meaning : Meaning KerberosAcceptor
  kerberos_meaning = record {
    oid = λ k. kerberos_arcs;
    names = λ k arcs. is_kerberos arcs;
    integrity = λ k. true;
    bare = λ k octets. is_framed_in octets;
    established = λ k. (client : Client) × (k.client ≡ Some client);
    steps = KerberosSteps;
    refuses = KerberosRefuses cred part elements o;
    holds = λ k text mic. (client : Client) × ((k.client ≡ Some client) × HoldsOf client.accepted text mic);
    makes = λ k text mic after.
        (client : Client) × ((k.client ≡ Some client) × (MadeOf client.accepted k.next text mic × (after ≡ with_next k ((k.next + 1) % 2 ^ 64))));
  }

  pub kerberos_steady : IsSteady kerberos_meaning
  kerberos_steady = record {
    oid_by_steps = λ a token b turn s. refl;
    names_by_steps = λ a token b turn s arcs. refl;
    established_by_steps = λ a token b turn s e. (s.0, ap (λ k. k.client) s.2);
    oid_by_makes = λ a text mic b s. refl;
    names_by_makes = λ a text mic b s arcs. refl;
    established_by_makes = λ a text mic b s e. (e.0, ap (λ k. k.client) s.1.1.1 ∙ e.1);
    holds_by_makes = λ a text mic b s other peer h. (h.0, (ap (λ k. k.client) s.1.1.1 ∙ h.1.0, h.1.1));
  }
