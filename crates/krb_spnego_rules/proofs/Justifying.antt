-- A step keeps what justifies a side.
use Rattle.std.proofs.Common.{◌≡◌, ◌⊎◌, ℕ, List, Bool, true, false, not, Option, Some, None, Result, Ok, Err, Vec, refl, sym, ap, subst, ◌∙◌, inl, inr}
use Rattle.std.specs.Prelude.{IfOk, is_some}
use Rattle.std.specs.declared.alloc.Global.{Global}
use Rattle.krb_spnego_rules.specs.Decisions.{acceptor_given, continues, holds as is_held, says_completed}
use Rattle.krb_spnego_rules.specs.Fields.{items_in, reply_in}
use Rattle.krb_spnego_rules.specs.Justified.{Agrees, IsAfter, IsJustified, IsOn, SendsOver}
use Rattle.krb_spnego_rules.specs.Laws.{IsEnd}
use Rattle.krb_spnego_rules.specs.Meaning.{IsSteady, Meaning}
use Rattle.krb_spnego_rules.specs.Messages.{after_later}
use Rattle.krb_spnego_rules.specs.Mics.{IsSeen}
use Rattle.krb_spnego_rules.specs.Steps.{completed, saying, waiting, waiting_state, Does, Finishes, GoesOn, Later, LaterBy, Outcome, Signs, Takes, Waits, decides, with_context}
use Rattle.krb_spnego_rules.specs.Turns.{progress_in, token_in}
use Rattle.krb_spnego_rules.specs.declared.words.Decision.{Decision}
use Rattle.krb_spnego_rules.specs.declared.words.Decision.TheVariants.{Wait, Finish, Rest, Refuse}
use Rattle.krb_spnego_rules.specs.declared.words.Mic.{Mic}
use Rattle.krb_spnego_rules.specs.declared.words.Mic.TheVariants.{Absent, Early, Holds, Wrong}
use Rattle.krb_spnego_rules.specs.declared.words.NegState.{NegState}
use Rattle.krb_spnego_rules.specs.declared.words.NegState.TheVariants.{AcceptCompleted}
use Rattle.krb_spnego_rules.specs.declared.words.Progress.{Progress}
use Rattle.krb_spnego_rules.specs.declared.words.Progress.TheVariants.{Continues, EndsWithToken, Ends}
use Rattle.krb_spnego_rules.specs.declared.words.Role.{Role}
use Rattle.krb_spnego_rules.specs.declared.words.Role.TheVariants.{Initiator, Acceptor}
use Rattle.krb_spnego_rules.specs.declared.words.Rule.{Rule}
use Rattle.krb_spnego_rules.specs.declared.words.Terms.{Terms}
use Rattle.krb_spnego_rules.specs.declared.mechanism.Turn.{Turn}
use Rattle.krb_spnego_rules.specs.declared.message.Message.{Message}
use Rattle.krb_spnego_rules.specs.declared.side.Running.{Running}
use Rattle.krb_spnego_rules.specs.declared.side.After.{After}
use Rattle.krb_spnego_rules.proofs.Ends.{acceptor_end, initiator_end}

-- a property of a mechanism, the name that it was chosen by and whether it is preferred, which the mechanism's steps keep
pub record Keeps {M : Type 0} (meaning : Meaning M) (fits : M → List ℕ → Bool → Type 0) : Type 0 where
  pub by_steps : (a : M) (token : Option (List ℕ)) (b : M) (turn : Turn) → meaning.steps a token b turn
      → (name : List ℕ) (preferred : Bool) → fits a name preferred → fits b name preferred
  pub by_makes : (a : M) (text mic : List ℕ) (b : M) → meaning.makes a text mic b
      → (name : List ℕ) (preferred : Bool) → fits a name preferred → fits b name preferred

-- ---- the mechanism's part

taken : {M : Type 0} (meaning : Meaning M) (fits : M → List ℕ → Bool → Type 0) → IsSteady meaning → Keeps meaning fits
    → (b : Bool) (before context : M) (token : Option (List ℕ)) (turn : Turn) (name : List ℕ) (preferred : Bool) → Takes meaning b before token context turn
    → (b ≡ true → meaning.established before) → fits before name preferred
    → fits context name preferred × (continues (progress_in turn) ≡ false → meaning.established context)
taken meaning fits steady keeps true before context token turn name preferred t e f =
    (subst (λ m. fits m name preferred) (sym t.0) f, λ c. subst meaning.established (sym t.0) (e refl))
taken meaning fits steady keeps false before context token turn name preferred t e f =
    (keeps.by_steps before token context turn t name preferred f, λ c. steady.established_by_steps before token context turn t c)

-- what a side's own MIC leaves as it was
record Unharmed {M : Type 0} (meaning : Meaning M) (fits : M → List ℕ → Bool → Type 0) (list : List ℕ) (before after : M) (own : Option (Vec ℕ Global)) : Type 0 where
  pub fitting : (name : List ℕ) (preferred : Bool) → fits before name preferred → fits after name preferred
  pub established : meaning.established before → meaning.established after
  pub holds : (text mic : List ℕ) → meaning.holds before text mic → meaning.holds after text mic
  pub over : (mic : Vec ℕ Global) → own ≡ Some mic → (a : M) × ((b : M) × meaning.makes a list mic.items b)

none_is_none : (own : Option (Vec ℕ Global)) (mic : Vec ℕ Global) → own ≡ None → own ≡ Some mic → ⊥
none_is_none own mic a b = cc

same_items : (a b : Vec ℕ Global) → Some a ≡ Some b → a ≡ b
same_items a b e = cc

signed : {M : Type 0} (meaning : Meaning M) (fits : M → List ℕ → Bool → Type 0) → IsSteady meaning → Keeps meaning fits
    → (b : Bool) (before after : M) (list : List ℕ) (own : Option (Vec ℕ Global)) → Signs meaning before list b after own
    → Unharmed meaning fits list before after own
signed meaning fits steady keeps false before after list own s = record {
  fitting = λ name preferred f. subst (λ m. fits m name preferred) (sym s.0) f;
  established = λ e. subst meaning.established (sym s.0) e;
  holds = λ text mic h. subst (λ m. meaning.holds m text mic) (sym s.0) h;
  over = λ mic e. absurd (none_is_none own mic s.1 e);
}
signed meaning fits steady keeps true before after list own s = record {
  fitting = λ name preferred f. keeps.by_makes before list s.0.items after s.1.1 name preferred f;
  established = λ e. steady.established_by_makes before list s.0.items after s.1.1 e;
  holds = λ text mic h. steady.holds_by_makes before list s.0.items after s.1.1 text mic h;
  over = λ mic e. (before, (after, subst (λ m. meaning.makes before list m.items after) (same_items s.0 mic (sym s.1.0 ∙ e)) s.1.1));
}

-- ---- the MIC that came

held_of : (holds : List ℕ → Type 0) (found : Option (List ℕ)) (progress : Progress) (mic : Mic) → IsSeen holds found progress mic
    → is_held mic ≡ true → (m : List ℕ) × ((found ≡ Some m) × holds m)
held_of holds found progress Holds h e = h.1
held_of holds found progress Absent h e = cc
held_of holds found progress Early h e = cc
held_of holds found progress Wrong h e = cc

-- ---- what follows a decision

contradicts : (b : Bool) → b ≡ true → b ≡ false → ⊥
contradicts b x y = cc

not_true : (b : Bool) → not b ≡ true → b ≡ false
not_true true e = cc
not_true false e = refl

no_message : (message : Message) → None ≡ Some message → ⊥
no_message message e = cc

mic_is : (own : Option (Vec ℕ Global)) (state : NegState) (named token : Option (Vec ℕ Global)) (message : Message) (mic : Vec ℕ Global)
    → Some (saying state named token own) ≡ Some message → message.mic ≡ Some mic → own ≡ Some mic
mic_is own state named token message mic is there = cc

-- what is sent is made over the list
over : {M : Type 0} (meaning : Meaning M) (fits : M → List ℕ → Bool → Type 0) (list text : List ℕ) (before after : M) (own : Option (Vec ℕ Global))
    (state : NegState) (named token : Option (Vec ℕ Global)) → text ≡ list → Unharmed meaning fits text before after own
    → SendsOver meaning list (Some (saying state named token own))
over meaning fits list text before after own state named token e u =
    subst (λ l. SendsOver meaning l (Some (saying state named token own))) e
    (λ message mic is there. u.over mic (mic_is own state named token message mic is there))

nothing_over : {M : Type 0} (meaning : Meaning M) (list : List ℕ) → SendsOver meaning list None
nothing_over meaning list = λ message mic is. absurd (no_message message is)

-- a side that has its context after the peer's token
record Stepped {M : Type 0} (meaning : Meaning M) (fits : M → List ℕ → Bool → Type 0) (list : List ℕ) (side : Running M) (progress : Progress) : Type 0 where
  list_is : side.list.items ≡ list
  fitting : fits side.mechanism side.name.items side.terms.preferred
  established : continues progress ≡ false → meaning.established side.mechanism
  terms : (side.terms.preferred ≡ true) ⊎ (side.terms.required ≡ true)

-- why it ends: a MIC holds, or none is required and the peer agrees
abbrev Ending : Role → Option NegState → Terms → Progress → Mic → Type 0
Ending role state terms progress mic = (continues progress ≡ false) × ((is_held mic ≡ true) ⊎ ((terms.required ≡ false) × Agrees role state))

reason_of : (role : Role) (state : Option NegState) (terms : Terms) (progress : Progress) (sight : Mic) → Ending role state terms progress sight
    → (terms.preferred ≡ true) ⊎ (terms.required ≡ true)
    → (is_held sight ≡ true) ⊎ ((terms.preferred ≡ true) × ((terms.required ≡ false) × Agrees role state))
reason_of role state terms progress sight why on =
    elim why.1 [
      | inl e ↦ inl e
      | inr w ↦ elim on [
        | inl p ↦ inr (p, (w.0, w.1))
        | inr r ↦ absurd (contradicts terms.required r w.0)
      ]
    ]

ended : {M : Type 0} (meaning : Meaning M) (fits : M → List ℕ → Bool → Type 0) (list : List ℕ) (role : Role) (state : Option NegState)
    (came : Option (List ℕ)) (side : Running M) (progress : Progress) (sight : Mic) → Stepped meaning fits list side progress
    → IsSeen (meaning.holds side.mechanism side.list.items) came progress sight → Ending role state side.terms progress sight
    → IsJustified meaning fits list role state came (completed side side.mechanism sight)
ended meaning fits list role state came side progress sight on seen why = record {
  list_is = on.list_is;
  fitting = on.fitting;
  established = on.established why.0;
  by_mic = λ e. held_of (meaning.holds side.mechanism side.list.items) came progress sight seen e;
  reason = reason_of role state side.terms progress sight why on.terms;
}

held_still : (a b : List ℕ → Type 0) (came : Option (List ℕ)) (progress : Progress) (sight : Mic) → ((mic : List ℕ) → a mic → b mic)
    → IsSeen a came progress sight → is_held sight ≡ true → (m : List ℕ) × ((came ≡ Some m) × b m)
held_still a b came progress sight f seen e =
    let h : (m : List ℕ) × ((came ≡ Some m) × a m) = held_of a came progress sight seen e in
    (h.0, (h.1.0, f h.0 h.1.1))

-- the same, after the side's own MIC was made
ended_signed : {M : Type 0} (meaning : Meaning M) (fits : M → List ℕ → Bool → Type 0) (list : List ℕ) (role : Role) (state : Option NegState)
    (came : Option (List ℕ)) (side : Running M) (after : M) (own : Option (Vec ℕ Global)) (progress : Progress) (sight : Mic)
    → Stepped meaning fits list side progress → Unharmed meaning fits side.list.items side.mechanism after own
    → IsSeen (meaning.holds side.mechanism side.list.items) came progress sight → Ending role state side.terms progress sight
    → IsJustified meaning fits list role state came (completed side after sight)
ended_signed meaning fits list role state came side after own progress sight on unharmed seen why = record {
  list_is = on.list_is;
  fitting = unharmed.fitting side.name.items side.terms.preferred on.fitting;
  established = unharmed.established (on.established why.0);
  by_mic = λ e. held_still (meaning.holds side.mechanism side.list.items) (meaning.holds after side.list.items) came progress sight
      (λ mic h. unharmed.holds side.list.items mic h) seen e;
  reason = reason_of role state side.terms progress sight why on.terms;
}

-- where it waits, it is on
still_on : {M : Type 0} (meaning : Meaning M) (fits : M → List ℕ → Bool → Type 0) (list : List ℕ) (side : Running M) (after : M)
    (own : Option (Vec ℕ Global)) (progress : Progress) (mic : Bool) → Stepped meaning fits list side progress
    → Unharmed meaning fits side.list.items side.mechanism after own → IsOn meaning fits list (waiting side after progress mic)
still_on meaning fits list side after own progress mic on unharmed = record {
  list_is = on.list_is;
  fitting = unharmed.fitting side.name.items side.terms.preferred on.fitting;
  established = λ e. unharmed.established (on.established (not_true (continues progress) e));
  terms = on.terms;
}

-- ---- a step

-- what is shown of an outcome
abbrev pub Shown : {M : Type 0} → Meaning M → (M → List ℕ → Bool → Type 0) → List ℕ → Role → Option NegState → Option (List ℕ) → Outcome M → Type 0
Shown meaning fits list role state came out = IfOk out (λ o. IsAfter meaning fits list role state came o.0 × SendsOver meaning list o.1)

finishes : {M : Type 0} (meaning : Meaning M) (fits : M → List ℕ → Bool → Type 0) → IsSteady meaning → Keeps meaning fits → (list : List ℕ) (role : Role)
    (state : Option NegState) (came : Option (List ℕ)) (side : Running M) (turn : Turn) (sight : Mic) (named : Option (Vec ℕ Global)) (mic : Bool)
    (sent : After M × Option Message) → Stepped meaning fits list side (progress_in turn)
    → IsSeen (meaning.holds side.mechanism side.list.items) came (progress_in turn) sight → Ending role state side.terms (progress_in turn) sight
    → Finishes meaning side turn sight named mic sent → Shown meaning fits list role state came (Ok sent)
finishes meaning fits steady keeps list role state came side turn sight named mic sent on seen why f =
    let u : Unharmed meaning fits side.list.items side.mechanism f.0 f.1.0
    = signed meaning fits steady keeps mic side.mechanism f.0 side.list.items f.1.0 f.1.1.0 in
    subst (λ o. Shown meaning fits list role state came (Ok o)) (sym f.1.1.1) (
      ended_signed meaning fits list role state came side f.0 f.1.0 (progress_in turn) sight on u seen why,
      over meaning fits list side.list.items side.mechanism f.0 f.1.0 AcceptCompleted named (token_in turn) on.list_is u,
    )

waits : {M : Type 0} (meaning : Meaning M) (fits : M → List ℕ → Bool → Type 0) → IsSteady meaning → Keeps meaning fits → (list : List ℕ) (role : Role)
    (state : Option NegState) (came : Option (List ℕ)) (side : Running M) (turn : Turn) (named : Option (Vec ℕ Global)) (mic : Bool)
    (sent : After M × Option Message) → Stepped meaning fits list side (progress_in turn)
    → Waits meaning side turn named mic sent → Shown meaning fits list role state came (Ok sent)
waits meaning fits steady keeps list role state came side turn named mic sent on w =
    let u : Unharmed meaning fits side.list.items side.mechanism w.0 w.1.0
    = signed meaning fits steady keeps mic side.mechanism w.0 side.list.items w.1.0 w.1.1.0 in
    subst (λ o. Shown meaning fits list role state came (Ok o)) (sym w.1.1.1) (
      still_on meaning fits list side w.0 w.1.0 (progress_in turn) mic on u,
      over meaning fits list side.list.items side.mechanism w.0 w.1.0 (waiting_state (is_some named) side.terms.required) named (token_in turn) on.list_is u,
    )

does : {M : Type 0} (meaning : Meaning M) (fits : M → List ℕ → Bool → Type 0) → IsSteady meaning → Keeps meaning fits → (list : List ℕ) (role : Role)
    (state : Option NegState) (came : Option (List ℕ)) (side : Running M) (turn : Turn) (sight : Mic) (named : Option (Vec ℕ Global)) (decision : Decision)
    (out : Outcome M) → Stepped meaning fits list side (progress_in turn)
    → IsSeen (meaning.holds side.mechanism side.list.items) came (progress_in turn) sight
    → (IsEnd decision → Ending role state side.terms (progress_in turn) sight)
    → Does meaning side turn sight named decision out → Shown meaning fits list role state came out
does meaning fits steady keeps list role state came side turn sight named (Refuse rule) out on seen why d =
    subst (λ o. Shown meaning fits list role state came o) (sym d) tt
does meaning fits steady keeps list role state came side turn sight named Rest out on seen why d =
    subst (λ o. Shown meaning fits list role state came o) (sym d)
    (ended meaning fits list role state came side (progress_in turn) sight on seen (why tt), nothing_over meaning list)
does meaning fits steady keeps list role state came side turn sight named (Finish mic) out on seen why d =
    subst (λ o. Shown meaning fits list role state came o) (sym d.1.1)
    (finishes meaning fits steady keeps list role state came side turn sight named mic d.0 on seen (why tt) d.1.0)
does meaning fits steady keeps list role state came side turn sight named (Wait mic) out on seen why d =
    subst (λ o. Shown meaning fits list role state came o) (sym d.1.1)
    (waits meaning fits steady keeps list role state came side turn named mic d.0 on d.1.0)

ends_settled : (progress : Progress) → progress ≡ Ends → continues progress ≡ false
ends_settled progress e = ap continues e

acceptor_settled : (p r s first : Bool) (progress : Progress) (completed : Bool) (mic : Mic)
    → IsEnd (acceptor_given (record { preferred = p; required = r; sent = s }) first progress completed mic) → continues progress ≡ false
acceptor_settled p r s first EndsWithToken completed mic h = refl
acceptor_settled p r s first Ends completed mic h = refl
acceptor_settled p r s first Continues completed Holds h = absurd h
acceptor_settled p r s first Continues completed Early h = absurd h
acceptor_settled p r s first Continues completed Wrong h = absurd h
acceptor_settled p r s first Continues true Absent h = absurd h
acceptor_settled p r s first Continues false Absent h = absurd h

ending_of : (role : Role) (state : Option NegState) (terms : Terms) (first : Bool) (progress : Progress) (mic : Mic)
    → IsEnd (decides role terms first progress state mic) → Ending role state terms progress mic
ending_of Initiator state terms first progress mic h =
    let e : (progress ≡ Ends) × ((mic ≡ Holds) ⊎ ((terms.required ≡ false) × (state ≡ Some AcceptCompleted))) = initiator_end terms progress state mic h in
    (ends_settled progress e.0, elim e.1 [ inl m ↦ inl (ap is_held m) | inr w ↦ inr (w.0, w.1) ])
ending_of Acceptor state terms first progress mic h = (
  acceptor_settled terms.preferred terms.required terms.sent first progress (says_completed state) mic h,
  elim (acceptor_end terms first progress state mic h) [ inl m ↦ inl (ap is_held m) | inr w ↦ inr (w, tt) ],
)

-- A SIDE THAT IS ON IS JUSTIFIED AFTER A MESSAGE, and what it sends as mechListMIC is made over its list
pub went_on : {M : Type 0} (meaning : Meaning M) (fits : M → List ℕ → Bool → Type 0) → IsSteady meaning → Keeps meaning fits → (list : List ℕ) (role : Role)
    (side : Running M) (named : Option (Vec ℕ Global)) (state : Option NegState) (token came : Option (List ℕ)) (out : Outcome M)
    → IsOn meaning fits list side → GoesOn meaning role side named state token came out → Shown meaning fits list role state came out
went_on meaning fits steady keeps list role side named state token came out on goes =
    elim goes [
      | inl memory ↦ subst (λ o. Shown meaning fits list role state came o) (sym memory) tt
      | inr rest ↦ elim rest [
        | inl refused ↦ subst (λ o. Shown meaning fits list role state came o) (sym refused.1.1) tt
        | inr step ↦
            let t : fits step.0 side.name.items side.terms.preferred × (continues (progress_in step.1.0) ≡ false → meaning.established step.0)
            = taken meaning fits steady keeps side.established side.mechanism step.0 token step.1.0 side.name.items side.terms.preferred step.1.1.0
            on.established on.fitting in
            let s : Stepped meaning fits list (with_context side step.0) (progress_in step.1.0)
            = record { list_is = on.list_is; fitting = t.0; established = t.1; terms = on.terms } in
            does meaning fits steady keeps list role state came (with_context side step.0) step.1.0 step.1.1.1.0 named
            (decides role side.terms (is_some named) (progress_in step.1.0) state step.1.1.1.0) out s step.1.1.1.1.0
            (λ h. ending_of role state side.terms (is_some named) (progress_in step.1.0) step.1.1.1.0 h) step.1.1.1.1.1
      ]
    ]

later_by : {M : Type 0} (meaning : Meaning M) (fits : M → List ℕ → Bool → Type 0) → IsSteady meaning → Keeps meaning fits → (list : List ℕ) (role : Role)
    (side : Running M) (message : Message) (verdict : Result (Unit {0}) Rule) (out : Outcome M) → IsOn meaning fits list side
    → LaterBy meaning role side message verdict out → Shown meaning fits list role message.state (items_in message.mic) out
later_by meaning fits steady keeps list role side message (Err rule) out on l =
    subst (λ o. Shown meaning fits list role message.state (items_in message.mic) o) (sym l) tt
later_by meaning fits steady keeps list role side message (Ok u) out on l =
    went_on meaning fits steady keeps list role side None message.state (items_in message.token) (items_in message.mic) out on l

pub went_on_later : {M : Type 0} (meaning : Meaning M) (fits : M → List ℕ → Bool → Type 0) → IsSteady meaning → Keeps meaning fits → (list : List ℕ) (role : Role)
    (side : Running M) (message : Message) (out : Outcome M) → IsOn meaning fits list side
    → Later meaning role side message out → Shown meaning fits list role message.state (items_in message.mic) out
went_on_later meaning fits steady keeps list role side message out on l =
    later_by meaning fits steady keeps list role side message (after_later (reply_in message) side.established) out on l
