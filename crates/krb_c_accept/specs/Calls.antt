-- What becomes of a call of the acceptor, and what it tells.
use Rattle.std.specs.Prelude.{◌≡◌, ◌⊎◌, ℕ, ◌<◌, ◌==◌, Bool, true, false, if◌then◌else◌, List}
use Rattle.krb_accept.specs.TokenRefusals.{is_memory}
use Rattle.krb_accept.specs.declared.token_refusal.TokenRefusal.{TokenRefusal}
use Rattle.krb_accept_rules.specs.declared.opening.Opening.{Ghosts as OpeningOf}
use Rattle.krb_der_core.specs.declared.der.DerEncode.{Ghosts as EncodingOf}
use Rattle.krb_enc_parts.specs.declared.data_types.authenticators.EncApRepPartInner.{EncApRepPartInner}
use Rattle.krb_enc_parts.specs.declared.data_types.credentials.EncKrbCredPartInner.{EncKrbCredPartInner}
use Rattle.krb_messages.specs.declared.messages.application.ApRepInner.{ApRepInner}
use Rattle.krb_messages.specs.declared.messages.credentials.KrbCredInner.{KrbCredInner}
use Rattle.krb_types.specs.declared.data_types.authorization_data.AuthorizationDataInner.{AuthorizationDataInner}
use Rattle.krb_c_calls.specs.Handing.{IsKept, IsPut}
use Rattle.krb_c_calls.specs.Statuses.{refusal_status}
use Rattle.krb_c_calls.specs.declared.call_error.CallError.{CallError}
use Rattle.krb_c_calls.specs.declared.call_error.CallError.TheVariants as refusals
use Rattle.krb_c_accept.specs.Answers.{IsAnswer}
use Rattle.krb_c_accept.specs.Decision.{IsLetIn, IsTurnedAway}
use Rattle.krb_c_accept.specs.Inputs.{Inputs}
use Rattle.krb_c_accept.specs.Prepared.{IsNotPrepared, IsPrepared}
use Rattle.krb_c_accept.specs.Rules.{nothing, refused_record}
use Rattle.krb_c_accept.specs.declared.call.Outcome.{Outcome}
use Rattle.krb_c_accept.specs.declared.call.Outcome.TheVariants as outcomes
use Rattle.krb_c_accept.specs.declared.decision.LetIn.{LetIn}
use Rattle.krb_c_accept.specs.declared.prepared.Prepared.{Prepared}
use Rattle.krb_c_accept.specs.declared.records.AcceptedRecord.{AcceptedRecord}

-- ---- a refused token

abbrev pub refused : TokenRefusal → Outcome
refused e = if is_memory e then outcomes.Failed refusals.Memory else outcomes.Refused e

-- ---- what becomes of a call

-- an answer to the client that is let in; or an allocation failed
abbrev pub IsAnswered : EncodingOf EncApRepPartInner → EncodingOf ApRepInner → EncodingOf (List AuthorizationDataInner) → Inputs → LetIn → Outcome → Type 0
IsAnswered part ap_rep elements i l (outcomes.LetIn a) = IsAnswer part ap_rep elements i.acceptor i.random i.token l a
IsAnswered part ap_rep elements i l (outcomes.Refused e) = ⊥
IsAnswered part ap_rep elements i l (outcomes.Failed e) = e ≡ refusals.Memory

module _ (cred : EncodingOf KrbCredInner) (cred_part : EncodingOf EncKrbCredPartInner) (elements : EncodingOf (List AuthorizationDataInner)) {O : Type 0}
    (o : OpeningOf O) (part : EncodingOf EncApRepPartInner) (ap_rep : EncodingOf ApRepInner) (i : Inputs) where
  -- the client is let in, and this is what it is answered; or it is turned away
  abbrev pub IsOutcome : Prepared → Outcome → Type 0
  IsOutcome p result =
      ((l : LetIn) × IsLetIn cred cred_part elements o p i.token l × IsAnswered part ap_rep elements i l result)
      ⊎ ((e : TokenRefusal) × IsTurnedAway cred cred_part elements o p i.token e × (result ≡ refused e))

  -- with what the service asks; or what it asks is not right
  abbrev pub IsDecision : Outcome → Type 0
  IsDecision result =
      ((p : Prepared) × IsPrepared i p × IsOutcome p result)
      ⊎ ((e : CallError) × IsNotPrepared i e × (result ≡ outcomes.Failed e))

-- ---- what it tells

-- 43 in place of 0: the client is let in unless the caller's replay cache has it
abbrev pub let_in_status : ℕ → ℕ
let_in_status status = if status == 0 then 43 else status

-- The octets of the client are handed out, and it is told (43), or they do not fit (1); or the rule is told that refuses it (41), or nothing.
abbrev pub Tells : Outcome → AcceptedRecord → List ℕ → List ℕ → ℕ → ℕ → Type 0
Tells (outcomes.LetIn a) told before after size status =
    (put : ℕ) × IsPut a.octets.items before after size put × (status ≡ let_in_status put) × (put ≡ 0 → told ≡ a.record) × (put ≡ 1 → told ≡ nothing)
Tells (outcomes.Refused e) told before after size status = (status ≡ 41) × (told ≡ refused_record e) × IsKept before after size
Tells (outcomes.Failed e) told before after size status = (status ≡ refusal_status e) × (1 < status) × (told ≡ nothing) × IsKept before after size

module _ (cred : EncodingOf KrbCredInner) (cred_part : EncodingOf EncKrbCredPartInner) (elements : EncodingOf (List AuthorizationDataInner)) {O : Type 0}
    (o : OpeningOf O) (part : EncodingOf EncApRepPartInner) (ap_rep : EncodingOf ApRepInner) (i : Inputs) where
  -- all of it
  pub record IsCall (told : AcceptedRecord) (before after : List ℕ) (size status : ℕ) : Type 0 where
    pub outcome : Outcome
    pub is_decision : IsDecision cred cred_part elements o part ap_rep i outcome
    pub tells : Tells outcome told before after size status
