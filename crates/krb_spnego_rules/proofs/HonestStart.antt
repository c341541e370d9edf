-- Two honest engines do what the rules count, from the offer on.
use Rattle.std.proofs.Common.{◌≡◌, ◌+◌, ◌||◌, ◌&&◌, ◌==◌, ℕ, zero, suc, List, [], ◌∷◌, Bool, true, false, not, Option, Some, None, Result, Ok, Err, Vec, refl, sym, ap, subst, ◌∙◌, inl, inr}
use Rattle.std.specs.Prelude.{is_some, slice_get, if◌then◌else◌}
use Rattle.std.specs.declared.alloc.Global.{Global}
use Rattle.std.proofs.Math.Numerals.{suc-eq-add-one}
use Rattle.krb_spnego_rules.specs.Decisions.{acceptor_does, continues}
use Rattle.krb_spnego_rules.specs.Fields.{items_in}
use Rattle.krb_spnego_rules.specs.HonestEngines.{AfterOffer, Ends, EndsFromOffer, EndsFromReply, Follows, Goes, IsHonestStart, IsPair, Stands, choice_if, context_of, flipped, list_of, name_of}
use Rattle.krb_spnego_rules.specs.Meaning.{Meaning}
use Rattle.krb_spnego_rules.specs.Messages.{after_first_reply, after_offer, is_preferred, terms_of}
use Rattle.krb_spnego_rules.specs.Runs.{Side, after, begun, counted, first_state, having_offered, having_sent, left_after, messages_of, more, offer_of, progress_of, redirected, replied, sends_token}
use Rattle.krb_spnego_rules.specs.Steps.{Does, GoesOn, Outcome, completed, saying, waiting, waiting_state, with_context}
use Rattle.krb_spnego_rules.specs.Turns.{progress_in, token_in}
use Rattle.krb_spnego_rules.specs.declared.words.Choice.TheVariants as choices
use Rattle.krb_spnego_rules.specs.declared.words.Decision.{Decision}
use Rattle.krb_spnego_rules.specs.declared.words.Decision.TheVariants.{Wait, Finish, Rest, Refuse}
use Rattle.krb_spnego_rules.specs.declared.words.Mic.{Mic}
use Rattle.krb_spnego_rules.specs.declared.words.Mic.TheVariants as mics
use Rattle.krb_spnego_rules.specs.declared.words.NegState.{NegState}
use Rattle.krb_spnego_rules.specs.declared.words.NegState.TheVariants.{AcceptCompleted, AcceptIncomplete, Reject, RequestMic}
use Rattle.krb_spnego_rules.specs.declared.words.Role.TheVariants.{Initiator, Acceptor}
use Rattle.krb_spnego_rules.specs.declared.words.Rule.{Rule}
use Rattle.krb_spnego_rules.specs.declared.words.Terms.{Terms}
use Rattle.krb_spnego_rules.specs.declared.mechanism.Turn.{Turn}
use Rattle.krb_spnego_rules.specs.declared.side.Running.{Running}
use Rattle.krb_spnego_rules.specs.declared.side.After.{After}
use Rattle.krb_spnego_rules.specs.declared.side.After.TheVariants as afters
use Rattle.krb_spnego_rules.specs.AcceptorSteps.{FirstAnswers, IsOffered, OfferedAs, OfferedBy, OfferedFor, TakesUp, choice_in_offer, named_in, offer_in, taken_up}
use Rattle.krb_spnego_rules.specs.declared.initiator.Initiator.TheVariants as initiators
use Rattle.krb_spnego_rules.specs.InitiatorSteps.{Begins, RepliedAs, RepliedBy, chosen, picks}
use Rattle.krb_spnego_rules.specs.declared.words.Choice.{Choice}
use Rattle.krb_spnego_rules.specs.declared.message.Proposal.{Proposal}
use Rattle.krb_spnego_rules.specs.declared.initiator.Offered.{Offered}
use Rattle.krb_spnego_rules.specs.declared.acceptor.Fresh.{Fresh}
use Rattle.krb_spnego_rules.proofs.Agreed.{initiator_agreed}
use Rattle.krb_spnego_rules.proofs.Honest.{Signed, Simulates, counts, false_true, goes_some, none_left, nothing, rest_of, sends, sight_is, signed, simulate, turned, uncounted, waits_some, went}

-- ---- the first reply, at an initiator

first_waits : (state : NegState) (token established : Bool) (terms : Terms)
    → after_first_reply (record { state = Some state; choice = choices.Preferred true; token = token }) established ≡ Ok terms → established ≡ not token
first_waits AcceptCompleted true true terms e = cc
first_waits AcceptCompleted true false terms e = refl
first_waits AcceptCompleted false true terms e = refl
first_waits AcceptCompleted false false terms e = cc
first_waits AcceptIncomplete true true terms e = cc
first_waits AcceptIncomplete true false terms e = refl
first_waits AcceptIncomplete false true terms e = refl
first_waits AcceptIncomplete false false terms e = cc
first_waits RequestMic true true terms e = cc
first_waits RequestMic true false terms e = refl
first_waits RequestMic false true terms e = refl
first_waits RequestMic false false terms e = cc
first_waits Reject token established terms e = cc

both : (a b : Bool) → (a && b) ≡ true → (a ≡ true) × (b ≡ true)
both true true e = (refl, refl)
both true false e = cc
both false b e = cc

true_false : true ≡ false → ⊥
true_false e = cc

left_of : (a b : Bool) → b ≡ true → (a && b) ≡ false → a ≡ false
left_of true b there e = cc
left_of false b there e = refl

-- an established preferred mechanism waits for no token
first_rest : (preferred : Bool) (state : NegState) (token : Option (Vec ℕ Global)) (established : Bool) (left : ℕ) (terms : Terms)
    → after_first_reply (record { state = Some state; choice = choice_if preferred; token = is_some token }) established ≡ Ok terms
    → terms.preferred ≡ is_preferred (choice_if preferred) → (preferred ≡ true → token ≡ None → left ≡ zero)
    → (established && terms.preferred) ≡ true → (items_in token ≡ None) × (left ≡ zero)
first_rest true state token established left terms e agreed last there =
    rest_of established token left (first_waits state (is_some token) established terms e) (last refl) (both established terms.preferred there).0
first_rest false state token established left terms e agreed last there =
    absurd (false_true (sym agreed ∙ (both established terms.preferred there).1))

-- one that is not waits for a token, or has to begin
first_goes_on : (preferred : Bool) (state : NegState) (token : Option (Vec ℕ Global)) (established : Bool) (left : ℕ) (terms : Terms)
    → after_first_reply (record { state = Some state; choice = choice_if preferred; token = is_some token }) established ≡ Ok terms
    → terms.preferred ≡ is_preferred (choice_if preferred) → (preferred ≡ false → Goes left (items_in token))
    → (established && terms.preferred) ≡ false → Goes left (items_in token)
first_goes_on true state token established left terms e agreed goes waits =
    goes_some left token (waits_some established token (first_waits state (is_some token) established terms e) (left_of established terms.preferred agreed waits))
first_goes_on false state token established left terms e agreed goes waits = goes refl

replied_by : (most : ℕ) → Simulates most → (X Y : Type 0) (mine : Meaning X) (theirs : Meaning Y) (at_x at_y : ℕ → Option (List ℕ) → X → Y → Type 0)
    → IsPair mine theirs at_x at_y → (established : Bool) (list : Vec ℕ Global) (x : X) (y : After Y) (left : ℕ) (done : Bool) (side : Side)
    (state : NegState) (name : Vec ℕ Global) (token own : Option (Vec ℕ Global)) (n : ℕ) (preferred : Bool) (verdict : Result Terms Rule) (old : Terms)
    (out : Outcome X)
    → after_first_reply (record { state = Some state; choice = choice_if preferred; token = is_some token }) established ≡ verdict
    → counts most Initiator side old left done (record { state = state; choice = choice_if preferred; token = is_some token; mic = is_some own }) verdict ≡ Some n
    → list_of y ≡ list.items → name_of y ≡ name.items → Stands done y side → at_x left (items_in token) x (context_of y)
    → (preferred ≡ true → token ≡ None → left ≡ zero) → (preferred ≡ false → Goes left (items_in token))
    → ((mic : Vec ℕ Global) → own ≡ Some mic → (before : Y) × theirs.makes before list.items mic.items (context_of y))
    → RepliedBy mine established list (saying state (Some name) token own) (Some x) verdict out
    → Follows (λ peer s sent. Ends most Y X theirs mine Acceptor peer s sent) y out
replied_by most sim X Y mine theirs at_x at_y pair established list x y left done side state name token own n preferred (Err rule) old out is e yl yn st at last goes made r =
    absurd (nothing n e)
replied_by most sim X Y mine theirs at_x at_y pair established list x y left done side state name token own n preferred (Ok terms) old out is e yl yn st at last goes made r =
    elim r [
      | inl memory ↦ subst (λ o. Follows (λ peer s sent. Ends most Y X theirs mine Acceptor peer s sent) y o) (sym memory) refl
      | inr step ↦
          went most sim X Y mine theirs at_x at_y pair Initiator (chosen established list x step.0 terms) y left done side state token own list.items name.items n out
          refl step.1.0 yl yn st at made
          (λ there. first_rest preferred state token established left terms is
          (initiator_agreed (record { state = Some state; choice = choice_if preferred; token = is_some token }) established terms is).preferred last there)
          (λ waits. first_goes_on preferred state token established left terms is
          (initiator_agreed (record { state = Some state; choice = choice_if preferred; token = is_some token }) established terms is).preferred goes waits)
          e step.1.1
    ]

replied_ends : (most : ℕ) (X Y : Type 0) (mine : Meaning X) (theirs : Meaning Y) (at_x at_y : ℕ → Option (List ℕ) → X → Y → Type 0)
    → IsPair mine theirs at_x at_y → (offered : Offered X) (x : X) (y : After Y) (left : ℕ) (done : Bool) (side : Side) (state : NegState)
    (name : Vec ℕ Global) (token own : Option (Vec ℕ Global)) (n : ℕ) (preferred : Bool)
    → more most Initiator (record { terms = terms_of preferred false; first = true; established = offered.established }) side left done
    (record { state = state; choice = choice_if preferred; token = is_some token; mic = is_some own }) ≡ Some n
    → picks mine offered.first offered.others.items (Some name.items) ≡ (choice_if preferred, Some x)
    → list_of y ≡ offered.list.items → name_of y ≡ name.items → Stands done y side → at_x left (items_in token) x (context_of y)
    → (preferred ≡ true → token ≡ None → left ≡ zero) → (preferred ≡ false → Goes left (items_in token))
    → ((mic : Vec ℕ Global) → own ≡ Some mic → (before : Y) × theirs.makes before offered.list.items mic.items (context_of y))
    → EndsFromReply most X Y mine theirs offered y (saying state (Some name) token own)
replied_ends zero X Y mine theirs at_x at_y pair offered x y left done side state name token own n preferred e picked yl yn st at last goes made =
    absurd (nothing n e)
replied_ends (suc most) X Y mine theirs at_x at_y pair offered x y left done side state name token own n preferred e picked yl yn st at last goes made = λ out r.
    replied_by most (simulate most) X Y mine theirs at_x at_y pair offered.established offered.list x y left done side state name token own n preferred
    (after_first_reply (record { state = Some state; choice = choice_if preferred; token = is_some token }) offered.established) (terms_of preferred false) out
    refl e yl yn st at last goes made
    (subst (λ pick. RepliedAs mine offered.established offered.list (saying state (Some name) token own) pick out) picked r)

-- ---- the first reply, at an acceptor

first_state_is : (required : Bool) → waiting_state true required ≡ (if required then RequestMic else AcceptIncomplete)
first_state_is true = refl
first_state_is false = refl

of_reply : (most : ℕ) (offered offered' side : Side) (left : ℕ) (done : Bool) (a b : NegState) (choice : Choice) (token own : Option (Vec ℕ Global)) (t m : Bool)
    (found : Option ℕ) → offered ≡ offered' → a ≡ b → is_some token ≡ t → is_some own ≡ m
    → more most Initiator offered side left done (record { state = a; choice = choice; token = t; mic = m }) ≡ found
    → more most Initiator offered' side left done (record { state = b; choice = choice; token = is_some token; mic = is_some own }) ≡ found
of_reply most offered offered' side left done a b choice token own t m found o s f h is =
    subst (λ x. more most Initiator x side left done (record { state = b; choice = choice; token = is_some token; mic = is_some own }) ≡ found) o
    (subst (λ x. more most Initiator offered side left done (record { state = x; choice = choice; token = is_some token; mic = is_some own }) ≡ found) s
    (subst (λ x. more most Initiator offered side left done (record { state = a; choice = choice; token = x; mic = is_some own }) ≡ found) (sym f)
    (subst (λ x. more most Initiator offered side left done (record { state = a; choice = choice; token = t; mic = x }) ≡ found) (sym h) is)))

-- what the rules count of the first reply that an acceptor sends with a token taken
abbrev first_counts : ℕ → ℕ → Terms → Bool → Bool → Option ℕ
first_counts most tokens terms finished mic =
    more most Initiator (having_offered true tokens) (having_sent terms (left_after tokens) mic) (left_after (left_after tokens)) finished
    (record { state = if finished then AcceptCompleted else first_state terms; choice = choices.Preferred true; token = sends_token (left_after tokens); mic = mic })

abbrev offering_side : Bool → Side
offering_side established = record { terms = terms_of true false; first = true; established = established }

offered_side : (a b : Bool) → a ≡ b → offering_side b ≡ offering_side a
offered_side a b e = ap offering_side (sym e)

answers : (most : ℕ) (X Y : Type 0) (mine : Meaning X) (theirs : Meaning Y) (at_x at_y : ℕ → Option (List ℕ) → X → Y → Type 0)
    → IsPair mine theirs at_x at_y → (tokens : ℕ) (offered : Offered X) (x : X) (y : Running Y) (named : Vec ℕ Global) (context : Y) (turn : Turn)
    (sight : Mic) (decision : Decision) (n : ℕ) (out : Outcome Y)
    → offered.established ≡ not (continues (progress_of tokens))
    → picks mine offered.first offered.others.items (Some named.items) ≡ (choices.Preferred true, Some x)
    → y.list.items ≡ offered.list.items → y.name.items ≡ named.items → progress_in turn ≡ progress_of (left_after tokens)
    → at_x (left_after (left_after tokens)) (items_in (token_in turn)) x context
    → after (first_counts most tokens y.terms) false decision ≡ Some n
    → Does theirs (with_context y context) turn sight (Some named) decision out
    → AfterOffer (λ side sent. EndsFromReply most X Y mine theirs offered side sent) out
answers most X Y mine theirs at_x at_y pair tokens offered x y named context turn sight (Refuse rule) n out est picked yl yn p at e d = absurd (nothing n e)
answers most X Y mine theirs at_x at_y pair tokens offered x y named context turn sight Rest n out est picked yl yn p at e d = absurd (nothing n e)
answers most X Y mine theirs at_x at_y pair tokens offered x y named context turn sight (Finish mic) n out est picked yl yn p at e d =
    let c = d.1.0.0 in
    let own = d.1.0.1.0 in
    let s : Signed theirs (flipped at_x) y.list.items mic context c own
    = signed theirs mine (flipped at_y) (flipped at_x) pair.y_half mic y.list.items context c own d.1.0.1.1.0 in
    let m : (k : ℕ) × (first_counts most tokens y.terms true mic ≡ Some k) = uncounted (first_counts most tokens y.terms true mic) n e in
    subst (AfterOffer (λ side sent. EndsFromReply most X Y mine theirs offered side sent)) (sym (d.1.1 ∙ ap Ok d.1.0.1.1.1))
    (replied_ends most X Y mine theirs at_x at_y pair offered x (afters.Complete (completed (with_context y context) c sight)) (left_after (left_after tokens))
    true (having_sent y.terms (left_after tokens) mic) AcceptCompleted named (token_in turn) own m.0 true
    (of_reply most (having_offered true tokens) (record { terms = terms_of true false; first = true; established = offered.established })
    (having_sent y.terms (left_after tokens) mic) (left_after (left_after tokens)) true AcceptCompleted AcceptCompleted (choices.Preferred true)
    (token_in turn) own (sends_token (left_after tokens)) mic (Some m.0)
    (offered_side offered.established (not (continues (progress_of tokens))) est) refl (sends turn (left_after tokens) p) s.there m.1)
    picked yl yn tt (s.at (left_after (left_after tokens)) (items_in (token_in turn)) x at) (λ u none. none_left turn (left_after tokens) p none)
    (λ other. absurd (true_false other)) (λ k is. ((s.made k is).0, subst (λ l. theirs.makes (s.made k is).0 l k.items c) yl (s.made k is).1)))
answers most X Y mine theirs at_x at_y pair tokens offered x y named context turn sight (Wait mic) n out est picked yl yn p at e d =
    let c = d.1.0.0 in
    let own = d.1.0.1.0 in
    let s : Signed theirs (flipped at_x) y.list.items mic context c own
    = signed theirs mine (flipped at_y) (flipped at_x) pair.y_half mic y.list.items context c own d.1.0.1.1.0 in
    let m : (k : ℕ) × (first_counts most tokens y.terms false mic ≡ Some k) = uncounted (first_counts most tokens y.terms false mic) n e in
    subst (AfterOffer (λ side sent. EndsFromReply most X Y mine theirs offered side sent)) (sym (d.1.1 ∙ ap Ok d.1.0.1.1.1))
    (replied_ends most X Y mine theirs at_x at_y pair offered x (afters.Running (waiting (with_context y context) c (progress_in turn) mic))
    (left_after (left_after tokens)) false (having_sent y.terms (left_after tokens) mic) (waiting_state true y.terms.required) named (token_in turn) own m.0 true
    (of_reply most (having_offered true tokens) (record { terms = terms_of true false; first = true; established = offered.established })
    (having_sent y.terms (left_after tokens) mic) (left_after (left_after tokens)) false (first_state y.terms) (waiting_state true y.terms.required)
    (choices.Preferred true) (token_in turn) own (sends_token (left_after tokens)) mic (Some m.0)
    (offered_side offered.established (not (continues (progress_of tokens))) est) (sym (first_state_is y.terms.required))
    (sends turn (left_after tokens) p) s.there m.1)
    picked yl yn
    (ap (λ q. record {
      terms = record { preferred = y.terms.preferred; required = y.terms.required; sent = y.terms.sent || mic };
      first = false;
      established = not (continues q);
    }) (sym p))
    (s.at (left_after (left_after tokens)) (items_in (token_in turn)) x at) (λ u none. none_left turn (left_after tokens) p none)
    (λ other. absurd (true_false other)) (λ k is. ((s.made k is).0, subst (λ l. theirs.makes (s.made k is).0 l k.items c) yl (s.made k is).1)))

-- ---- the offer

rules_count_preferred : (asks : Bool) → after_offer (offer_of true) asks ≡ Ok (terms_of true asks)
rules_count_preferred true = refl
rules_count_preferred false = refl

rules_count_other : (asks : Bool) → after_offer (offer_of false) asks ≡ Ok (terms_of false asks)
rules_count_other true = refl
rules_count_other false = refl

-- an acceptor that takes the preferred mechanism's first token
first_goes : (most : ℕ) (X Y : Type 0) (mine : Meaning X) (theirs : Meaning Y) (at_x at_y : ℕ → Option (List ℕ) → X → Y → Type 0)
    → IsPair mine theirs at_x at_y → (tokens : ℕ) (offered : Offered X) (x : X) (y : Running Y) (named : Vec ℕ Global) (token : Option (Vec ℕ Global))
    (n : ℕ) (out : Outcome Y)
    → offered.established ≡ not (continues (progress_of tokens))
    → picks mine offered.first offered.others.items (Some named.items) ≡ (choices.Preferred true, Some x)
    → y.list.items ≡ offered.list.items → y.name.items ≡ named.items → y.established ≡ false → is_some token ≡ true
    → at_y (left_after tokens) (items_in token) x y.mechanism
    → replied most tokens y.terms (acceptor_does y.terms true (progress_of (left_after tokens)) None mics.Absent) ≡ Some n
    → GoesOn theirs Acceptor y (Some named) None (items_in token) None out
    → AfterOffer (λ side sent. EndsFromReply most X Y mine theirs offered side sent) out
first_goes most X Y mine theirs at_x at_y pair tokens offered x y named token n out est picked yl yn fresh there at e goes =
    elim goes [
      | inl memory ↦ subst (AfterOffer (λ side sent. EndsFromReply most X Y mine theirs offered side sent)) (sym memory) refl
      | inr rest ↦ elim rest [
        | inl refused ↦ absurd (pair.y_half.takes (left_after tokens) (items_in token) y.mechanism x (goes_some (left_after tokens) token there) at refused.1.0)
        | inr step ↦
            let context = step.0 in
            let turn = step.1.0 in
            let t : (progress_in turn ≡ progress_of (left_after tokens)) × at_x (left_after (left_after tokens)) (items_in (token_in turn)) x context
            = turned theirs mine (flipped at_y) (flipped at_x) pair.y_half y.established (left_after tokens) token y.mechanism context x turn
            (λ done. absurd (false_true (sym fresh ∙ done))) (λ waits. goes_some (left_after tokens) token there) at step.1.1.0 in
            let sight = step.1.1.1.0 in
            let seen : sight ≡ mics.Absent
            = sight_is (theirs.holds context y.list.items) None (progress_in turn) sight step.1.1.1.1.0 (λ mic is ends. absurd (nothing mic is)) in
            answers most X Y mine theirs at_x at_y pair tokens offered x y named context turn sight
            (acceptor_does y.terms true (progress_in turn) None sight) n out est picked yl yn t.0 t.1
            (subst (λ m. after (first_counts most tokens y.terms) false (acceptor_does y.terms true (progress_in turn) None m) ≡ Some n) (sym seen)
            (subst (λ p. after (first_counts most tokens y.terms) false (acceptor_does y.terms true p None mics.Absent) ≡ Some n) (sym t.0) e))
            step.1.1.1.1.1
      ]
    ]

-- an acceptor that takes another mechanism
redirects : (most : ℕ) (X Y : Type 0) (mine : Meaning X) (theirs : Meaning Y) (at_x at_y : ℕ → Option (List ℕ) → X → Y → Type 0)
    → IsPair mine theirs at_x at_y → (tokens : ℕ) (offered : Offered X) (x : X) (y : Running Y) (named : Vec ℕ Global) (n : ℕ) (out : Outcome Y)
    → offered.established ≡ not (continues (progress_of tokens))
    → picks mine offered.first offered.others.items (Some named.items) ≡ (choices.Other true, Some x)
    → y.list.items ≡ offered.list.items → y.name.items ≡ named.items → y.established ≡ false → sends_token tokens ≡ true
    → at_x tokens None x y.mechanism → redirected most tokens y.terms ≡ Some n
    → out ≡ Ok (afters.Running y, Some (saying (waiting_state true y.terms.required) (Some named) None None))
    → AfterOffer (λ side sent. EndsFromReply most X Y mine theirs offered side sent) out
redirects most X Y mine theirs at_x at_y pair tokens offered x y named n out est picked yl yn fresh some at e is =
    let m : (k : ℕ) × (more most Initiator (having_offered false tokens) (record { terms = y.terms; first = false; established = false }) tokens false
    (record { state = first_state y.terms; choice = choices.Other true; token = false; mic = false }) ≡ Some k) = uncounted _ n e in
    subst (AfterOffer (λ side sent. EndsFromReply most X Y mine theirs offered side sent)) (sym is)
    (replied_ends most X Y mine theirs at_x at_y pair offered x (afters.Running y) tokens false (record { terms = y.terms; first = false; established = false })
    (waiting_state true y.terms.required) named None None m.0 false
    (of_reply most (having_offered false tokens) (record { terms = terms_of false false; first = true; established = offered.established })
    (record { terms = y.terms; first = false; established = false }) tokens false (first_state y.terms) (waiting_state true y.terms.required)
    (choices.Other true) None None false false (Some m.0)
    (ap (λ b. record { terms = terms_of false false; first = true; established = b }) (sym est)) (sym (first_state_is y.terms.required)) refl refl m.1)
    picked yl yn (ap (λ b. record { terms = y.terms; first = false; established = b }) (sym fresh)) at (λ h. absurd (false_true h))
    (λ other. some) (λ k u. absurd (nothing k u)))

offer_is : (choice choice' : Choice) (proposal : Proposal) → choice ≡ choice' → is_some proposal.token ≡ true → proposal.mic ≡ None
    → offer_in choice proposal ≡ record { choice = choice'; token = true; mic = false }
offer_is choice choice' proposal c t m =
    ap (λ x. record { choice = x; token = is_some proposal.token; mic = is_some proposal.mic }) c
    ∙ (ap (λ x. record { choice = choice'; token = x; mic = is_some proposal.mic }) t
    ∙ ap (λ x. record { choice = choice'; token = true; mic = x }) (ap is_some m))

choice_is : {Y : Type 0} (theirs : Meaning Y) (names : List (Vec ℕ Global)) (rank : ℕ) (name : Vec ℕ Global) (preferred : Bool) (y : Y)
    → slice_get names rank ≡ Some name → theirs.integrity y ≡ true → choice_in_offer theirs names preferred (Some y) ≡ choice_if preferred
choice_is theirs [] rank name preferred y at i = absurd (nothing name at)
choice_is theirs (first ∷ names) rank name true y at i = ap choices.Preferred i
choice_is theirs (first ∷ names) rank name false y at i = ap choices.Other i

offer_of_is : (preferred : Bool) → offer_of preferred ≡ record { choice = choice_if preferred; token = true; mic = false }
offer_of_is true = refl
offer_of_is false = refl

verdict_is : (preferred asks : Bool) → after_offer (offer_of preferred) asks ≡ Ok (terms_of preferred asks)
verdict_is true asks = rules_count_preferred asks
verdict_is false asks = rules_count_other asks

takes_up : {X Y : Type 0} (mine : Meaning X) (theirs : Meaning Y) (at_x at_y : ℕ → Option (List ℕ) → X → Y → Type 0) (preferred : Bool) (tokens : ℕ)
    (offered : Offered X) (fresh : Fresh Y) (proposal : Proposal) (x : X) (y : Y) (name : Vec ℕ Global) (out : Outcome Y)
    → IsHonestStart mine theirs at_x at_y preferred tokens offered fresh proposal x y name → IsOffered theirs fresh proposal out
    → TakesUp theirs proposal (Some name) y (terms_of preferred fresh.asks) out
takes_up mine theirs at_x at_y preferred tokens offered fresh proposal x y name out h o =
    let ranked = subst (λ r. OfferedFor theirs fresh proposal r out) h.ranked o in
    let listed = subst (λ a. OfferedAs theirs fresh.asks proposal (Some h.rank) a (named_in theirs fresh.mechanisms.items a) out) h.listed ranked in
    let named = subst (λ f. OfferedAs theirs fresh.asks proposal (Some h.rank) (Some name) f out) h.named listed in
    let choice : choice_in_offer theirs proposal.mechanisms.items (h.rank == 0) (Some y) ≡ choice_if preferred
    = ap (λ b. choice_in_offer theirs proposal.mechanisms.items b (Some y)) h.first
    ∙ choice_is theirs proposal.mechanisms.items h.rank name preferred y h.listed h.integrity in
    let verdict : after_offer (offer_in (choice_in_offer theirs proposal.mechanisms.items (h.rank == 0) (Some y)) proposal) fresh.asks
    ≡ Ok (terms_of preferred fresh.asks)
    = ap (λ offer. after_offer offer fresh.asks) (offer_is _ (choice_if preferred) proposal choice h.token h.mic ∙ sym (offer_of_is preferred))
    ∙ verdict_is preferred fresh.asks in
    subst (λ v. OfferedBy theirs proposal (Some name) (Some y) v out) verdict named

-- TWO HONEST ENGINES DO WHAT THE RULES COUNT, from the offer on
pub start : (most : ℕ) (X Y : Type 0) (mine : Meaning X) (theirs : Meaning Y) (at_x at_y : ℕ → Option (List ℕ) → X → Y → Type 0)
    → IsPair mine theirs at_x at_y → (preferred : Bool) (tokens : ℕ) (offered : Offered X) (fresh : Fresh Y) (proposal : Proposal) (x : X) (y : Y)
    (name : Vec ℕ Global) (n : ℕ)
    → messages_of most preferred fresh.asks tokens ≡ Some n → sends_token tokens ≡ true
    → IsHonestStart mine theirs at_x at_y preferred tokens offered fresh proposal x y name → EndsFromOffer most X Y mine theirs offered fresh proposal
start most X Y mine theirs at_x at_y pair true tokens offered fresh proposal x y name n e some h = λ out o.
    let count : counted (replied most tokens (terms_of true fresh.asks) (acceptor_does (terms_of true fresh.asks) true (progress_of (left_after tokens)) None mics.Absent)) ≡ Some n
    = sym (ap (begun most true tokens) (verdict_is true fresh.asks)) ∙ e in
    let m = uncounted (replied most tokens (terms_of true fresh.asks) (acceptor_does (terms_of true fresh.asks) true (progress_of (left_after tokens)) None mics.Absent)) n count in
    elim (takes_up mine theirs at_x at_y true tokens offered fresh proposal x y name out h o) [
      | inl memory ↦ subst (AfterOffer (λ side sent. EndsFromReply most X Y mine theirs offered side sent)) (sym memory) refl
      | inr step ↦
          let side = taken_up y step.0 (terms_of true fresh.asks) proposal.list in
          let goes : GoesOn theirs Acceptor side (Some step.1.0) None (items_in proposal.token) None out
          = subst (λ mic. GoesOn theirs Acceptor side (Some step.1.0) None (items_in proposal.token) mic out) (ap items_in h.mic)
          (subst (λ looks. FirstAnswers theirs side step.1.0 (items_in proposal.token) (items_in proposal.mic) looks out) h.token step.1.1.1.1) in
          first_goes most X Y mine theirs at_x at_y pair tokens offered x side step.1.0 proposal.token m.0 out h.established
          (ap (λ arcs. picks mine offered.first offered.others.items (Some arcs)) step.1.1.1.0 ∙ h.picked) h.list
          (step.1.1.0 ∙ sym step.1.1.1.0) refl h.token h.starts m.1 goes
    ]
start most X Y mine theirs at_x at_y pair false tokens offered fresh proposal x y name n e some h = λ out o.
    let count : counted (redirected most tokens (terms_of false fresh.asks)) ≡ Some n
    = sym (ap (begun most false tokens) (verdict_is false fresh.asks)) ∙ e in
    let m = uncounted (redirected most tokens (terms_of false fresh.asks)) n count in
    elim (takes_up mine theirs at_x at_y false tokens offered fresh proposal x y name out h o) [
      | inl memory ↦ subst (AfterOffer (λ side sent. EndsFromReply most X Y mine theirs offered side sent)) (sym memory) refl
      | inr step ↦
          redirects most X Y mine theirs at_x at_y pair tokens offered x (taken_up y step.0 (terms_of false fresh.asks) proposal.list) step.1.0 m.0 out
          h.established (ap (λ arcs. picks mine offered.first offered.others.items (Some arcs)) step.1.1.1.0 ∙ h.picked) h.list
          (step.1.1.0 ∙ sym step.1.1.1.0) refl some h.starts m.1 step.1.1.1.1
    ]

-- ---- the beginning

pub some_left : (n : ℕ) → sends_token (n + 1) ≡ true
some_left n = subst (λ m. sends_token m ≡ true) (suc-eq-add-one n) refl

one_fewer : (n : ℕ) → left_after (n + 1) ≡ n
one_fewer n = subst (λ m. left_after m ≡ n) (suc-eq-add-one n) refl

same_offered : {X : Type 0} (a b : Offered X) → initiators.Offered a ≡ initiators.Offered b → a ≡ b
same_offered a b e = cc

begins : {X Y : Type 0} (mine : Meaning X) (theirs : Meaning Y) (at_x at_y : ℕ → Option (List ℕ) → X → Y → Type 0) → IsPair mine theirs at_x at_y
    → (tokens : ℕ) (first : X) (others : Vec X Global) (list : Vec ℕ Global) (offered : Offered X) (token : Option (Vec ℕ Global)) (y : Y)
    → Begins mine first others list (initiators.Offered offered, token) → sends_token tokens ≡ true → at_x tokens None first y
    → (offered.established ≡ not (continues (progress_of tokens))) × at_y (left_after tokens) (items_in token) offered.first y
begins mine theirs at_x at_y pair tokens first others list offered token y b some at =
    let t : (progress_in b.1.0 ≡ progress_of tokens) × at_y (left_after tokens) (items_in (token_in b.1.0)) b.0 y
    = pair.x_half.turns tokens None first y b.0 b.1.0 some at b.1.1.0 in
    let is = same_offered offered _ (ap (λ r. r.0) b.1.1.1) in (
      ap (λ o. o.established) is ∙ ap (λ p. not (continues p)) t.0,
      subst (λ k. at_y (left_after tokens) (items_in k) offered.first y) (sym (ap (λ r. r.1) b.1.1.1))
          (subst (λ o. at_y (left_after tokens) (items_in (token_in b.1.0)) o.first y) (sym is) t.1),
    )

pub begins_with : {X Y : Type 0} (mine : Meaning X) (theirs : Meaning Y) (at_x at_y : ℕ → Option (List ℕ) → X → Y → Type 0) → IsPair mine theirs at_x at_y
    → (tokens : ℕ) (first : X) (others : Vec X Global) (list : Vec ℕ Global) (offered : Offered X) (token : Option (Vec ℕ Global)) (y : Y)
    → Begins mine first others list (initiators.Offered offered, token) → at_x (tokens + 1) None first y
    → (offered.established ≡ not (continues (progress_of (tokens + 1)))) × at_y tokens (items_in token) offered.first y
begins_with mine theirs at_x at_y pair tokens first others list offered token y b at =
    let done = begins mine theirs at_x at_y pair (tokens + 1) first others list offered token y b (some_left tokens) at in
    (done.0, subst (λ l. at_y l (items_in token) offered.first y) (one_fewer tokens) done.1)
