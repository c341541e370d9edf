-- Whole runs over octets, of the steps of the rules.
use Rattle.std.proofs.Common.{◌≡◌, ◌++◌, ◌∙◌, ℕ, List, [], ◌∷◌, Bool, true, false, Option, Some, None, Ok, Err, refl, inl, inr, sym, ap, subst}
use Rattle.std.specs.Prelude.{Vec, is_some}
use Rattle.std.specs.declared.alloc.Global.{Global}
use Rattle.krb_der_core.specs.declared.der.DerEncode.{Ghosts as EncodingOf}
use Rattle.krb_gss_tokens.specs.declared.spnego.GssApiNegInit.{GssApiNegInit}
use Rattle.krb_gss_tokens.specs.declared.spnego.NegTokenTarg.{NegTokenTarg}
use Rattle.krb_spnego_rules.specs.AcceptorSteps.{AcceptorIsOffered, AcceptorSteps, AcceptorTakesBare, BareGoesOn, BareSteps, FirstBare, ended, settled}
use Rattle.krb_spnego_rules.specs.EngineRuns.{AcceptorRuns, InitiatorRuns, last_mic, last_state, received_in}
use Rattle.krb_spnego_rules.specs.Fields.{items_in}
use Rattle.krb_spnego_rules.specs.InitiatorSteps.{unread_initiator}
use Rattle.krb_spnego_rules.specs.Justified.{IsAcceptor, IsInitiator, Offering, Received, SendsOver}
use Rattle.krb_spnego_rules.specs.Meaning.{Meaning}
use Rattle.krb_spnego_rules.specs.Steps.{Outcome}
use Rattle.krb_spnego_rules.specs.declared.acceptor.Acceptor.{Acceptor}
use Rattle.krb_spnego_rules.specs.declared.acceptor.Acceptor.TheVariants as acceptors
use Rattle.krb_spnego_rules.specs.declared.acceptor.Fresh.{Fresh}
use Rattle.krb_spnego_rules.specs.declared.initiator.Initiator.{Initiator}
use Rattle.krb_spnego_rules.specs.declared.initiator.Initiator.TheVariants as initiators
use Rattle.krb_spnego_rules.specs.declared.message.Message.{Message}
use Rattle.krb_spnego_rules.specs.declared.message.Proposal.{Proposal}
use Rattle.krb_spnego_rules.specs.declared.message.Refusal.{Refusal}
use Rattle.krb_spnego_rules.specs.declared.side.After.TheVariants as afters
use Rattle.krb_spnego_rules.specs.declared.words.NegState.{NegState}
use Rattle.krb_spnego.specs.Hearing.{AcceptorHears, HasFailed, HasNoNegotiation, InitiatorHears, IsAcceptorAfter, IsAcceptorAfterOffer, IsInitiatorAfter}
use Rattle.krb_spnego.specs.Taking.{AcceptorTakes, AcceptorTakesBy, InitiatorTakes, Taken, TakesBare, TakesOffer, TakesReply, is_fresh_side}

-- ---- an initiator

-- what the engine's law says of its runs
abbrev pub InitiatorLaw : {M : Type 0} → Meaning M → Type 0
InitiatorLaw meaning =
    (offering : Offering) (state : Option NegState) (came : Option (List ℕ)) (before : Initiator _) (messages : List Message) (after : Initiator _)
    → IsInitiator meaning offering state came before → InitiatorRuns meaning before messages after
    → IsInitiator meaning offering (last_state state messages) (last_mic came messages) after

unread_failed : {M : Type 0} (side : Initiator M) → HasFailed (unread_initiator side)
unread_failed (initiators.Offered side) = tt
unread_failed (initiators.Running side) = tt
unread_failed (initiators.Complete side) = tt
unread_failed (initiators.Failed refusal) = tt

pub one_step : {M : Type 0} (t : EncodingOf NegTokenTarg) (meaning : Meaning M) → InitiatorLaw meaning → (offering : Offering) (state : Option NegState)
    (came : Option (List ℕ)) (before : Initiator M) (octets : List ℕ) (result : Taken (Initiator M)) → IsInitiator meaning offering state came before
    → InitiatorTakes t meaning before octets result → IsInitiatorAfter t meaning offering octets result.0
one_step t meaning law offering state came before octets result h (inl (e, (rejects, is))) =
    subst (λ x. IsInitiatorAfter t meaning offering octets x.0) (sym is) (inl (unread_failed before))
one_step t meaning law offering state came before octets result h (inr (message, (reads, (stepped, (steps, inl (some, is)))))) =
    subst (λ x. IsInitiatorAfter t meaning offering octets x.0) (sym is) (inl tt)
one_step t meaning law offering state came before octets result h (inr (message, (reads, (stepped, (steps, inr (answer, (writes, is))))))) =
    subst (λ x. IsInitiatorAfter t meaning offering octets x.0) (sym is)
    (inr (message, (reads, law offering state came before (message ∷ []) stepped.0 h (stepped, (steps, refl)))))

no_answer : true ≡ false → ⊥
no_answer e = cc

-- who has failed stays so
pub failed_step : {M : Type 0} (t : EncodingOf NegTokenTarg) (meaning : Meaning M) (refusal : Refusal) (octets : List ℕ) (result : Taken (Initiator M))
    → InitiatorTakes t meaning (initiators.Failed refusal) octets result → result.0 ≡ initiators.Failed refusal
failed_step t meaning refusal octets result (inl (e, (rejects, is))) = ap (λ x. x.0) is
failed_step t meaning refusal octets result (inr (message, (reads, (stepped, (steps, inl (some, is)))))) =
    absurd (no_answer (sym some ∙ ap (λ x. is_some x.1) steps))
failed_step t meaning refusal octets result (inr (message, (reads, (stepped, (steps, inr (answer, (writes, is))))))) = ap (λ x. x.0) is ∙ ap (λ x. x.0) steps

pub failed_hears : {M : Type 0} (t : EncodingOf NegTokenTarg) (meaning : Meaning M) (refusal : Refusal) (all : List (List ℕ)) (after : Initiator M)
    → InitiatorHears t meaning (initiators.Failed refusal) all after → after ≡ initiators.Failed refusal
failed_hears t meaning refusal [] after is = is
failed_hears t meaning refusal (octets ∷ all) after (next, (takes, rest)) =
    failed_hears t meaning refusal all after
    (subst (λ side. InitiatorHears t meaning side all after) (failed_step t meaning refusal octets next takes) rest)

has_failed_hears : {M : Type 0} (t : EncodingOf NegTokenTarg) (meaning : Meaning M) (before : Initiator M) (all : List (List ℕ)) (after : Initiator M)
    → HasFailed before → InitiatorHears t meaning before all after → HasFailed after
has_failed_hears t meaning (initiators.Offered side) all after h hears = absurd h
has_failed_hears t meaning (initiators.Running side) all after h hears = absurd h
has_failed_hears t meaning (initiators.Complete side) all after h hears = absurd h
has_failed_hears t meaning (initiators.Failed refusal) all after h hears = subst HasFailed (sym (failed_hears t meaning refusal all after hears)) tt

initiator_on : {M : Type 0} (t : EncodingOf NegTokenTarg) (meaning : Meaning M) → InitiatorLaw meaning → (offering : Offering) (octets : List ℕ)
    (side : Initiator M) (all : List (List ℕ)) (last : List ℕ) (after : Initiator M)
    → IsInitiatorAfter t meaning offering octets side → InitiatorHears t meaning side (all ++ last ∷ []) after → IsInitiatorAfter t meaning offering last after
initiator_on t meaning law offering octets side [] last after (inl failed) hears = inl (has_failed_hears t meaning side (last ∷ []) after failed hears)
initiator_on t meaning law offering octets side [] last after (inr (message, (reads, is))) (next, (takes, same)) =
    subst (IsInitiatorAfter t meaning offering last) (sym same) (one_step t meaning law offering message.state _ side last next is takes)
initiator_on t meaning law offering octets side (o ∷ all) last after (inl failed) hears =
    inl (has_failed_hears t meaning side (o ∷ (all ++ last ∷ [])) after failed hears)
initiator_on t meaning law offering octets side (o ∷ all) last after (inr (message, (reads, is))) (next, (takes, rest)) =
    initiator_on t meaning law offering o next.0 all last after (one_step t meaning law offering message.state _ side o next is takes) rest

pub initiator_heard : {M : Type 0} (t : EncodingOf NegTokenTarg) (meaning : Meaning M) → InitiatorLaw meaning → (offering : Offering) (state : Option NegState)
    (came : Option (List ℕ)) (before : Initiator M) (all : List (List ℕ)) (last : List ℕ) (after : Initiator M)
    → IsInitiator meaning offering state came before → InitiatorHears t meaning before (all ++ last ∷ []) after → IsInitiatorAfter t meaning offering last after
initiator_heard t meaning law offering state came before [] last after h (next, (takes, same)) =
    subst (IsInitiatorAfter t meaning offering last) (sym same) (one_step t meaning law offering state came before last next h takes)
initiator_heard t meaning law offering state came before (octets ∷ all) last after h (next, (takes, rest)) =
    initiator_on t meaning law offering octets next.0 all last after (one_step t meaning law offering state came before octets next h takes) rest

-- ---- an acceptor

abbrev pub AcceptorLaw : {M : Type 0} → Meaning M → Type 0
AcceptorLaw meaning =
    (mechanisms : List _) (received : Received) (state : Option NegState) (came : Option (List ℕ)) (before : Acceptor _) (messages : List Message)
    (after : Acceptor _) → IsAcceptor meaning mechanisms received state came before → AcceptorRuns meaning before messages after
    → IsAcceptor meaning mechanisms received (last_state state messages) (last_mic came messages) after

abbrev pub OfferLaw : {M : Type 0} → Meaning M → Type 0
OfferLaw meaning =
    (side : Fresh _) (proposal : Proposal) (result : Acceptor _ × Option Message) → AcceptorIsOffered meaning (acceptors.Fresh side) proposal result
    → IsAcceptor meaning side.mechanisms.items (received_in proposal) None (items_in proposal.mic) result.0 × SendsOver meaning proposal.list.items result.1

ended_none : {M : Type 0} (side : Acceptor M) → HasNoNegotiation (ended side)
ended_none (acceptors.Fresh side) = tt
ended_none (acceptors.Running side) = tt
ended_none (acceptors.Bare side) = tt
ended_none (acceptors.Complete side) = tt
ended_none (acceptors.Failed refusal) = tt

-- a mechanism's own tokens
bare_none : {M : Type 0} (meaning : Meaning M) (mechanism : M) (token : List ℕ) (result : Acceptor M × Option (Vec ℕ Global))
    → BareSteps meaning mechanism token result → HasNoNegotiation result.0
bare_none meaning mechanism token result (inl is) = subst (λ x. HasNoNegotiation x.0) (sym is) tt
bare_none meaning mechanism token result (inr (inl (refuses, is))) = subst (λ x. HasNoNegotiation x.0) (sym is) tt
bare_none meaning mechanism token result (inr (inr (context, (turn, (steps, is))))) = subst (λ x. HasNoNegotiation x.0) (sym is) tt

first_bare_none : {M : Type 0} (meaning : Meaning M) (found : Option M) (token : List ℕ) (result : Acceptor M × Option (Vec ℕ Global))
    → FirstBare meaning found token result → HasNoNegotiation result.0
first_bare_none meaning None token result is = subst (λ x. HasNoNegotiation x.0) (sym is) tt
first_bare_none meaning (Some mechanism) token result steps = bare_none meaning mechanism token result steps

later_bare_none : {M : Type 0} (meaning : Meaning M) (mechanism : M) (established : Bool) (token : List ℕ) (result : Acceptor M × Option (Vec ℕ Global))
    → BareGoesOn meaning mechanism established token result → HasNoNegotiation result.0
later_bare_none meaning mechanism true token result is = subst (λ x. HasNoNegotiation x.0) (sym is) tt
later_bare_none meaning mechanism false token result steps = bare_none meaning mechanism token result steps

takes_bare_none : {M : Type 0} (meaning : Meaning M) (side : Acceptor M) (token : List ℕ) (result : Acceptor M × Option (Vec ℕ Global))
    → AcceptorTakesBare meaning side token result → HasNoNegotiation result.0
takes_bare_none meaning (acceptors.Fresh side) token result steps = first_bare_none meaning _ token result steps
takes_bare_none meaning (acceptors.Bare side) token result steps = later_bare_none meaning side.mechanism side.established token result steps
takes_bare_none meaning (acceptors.Running side) token result is = subst (λ x. HasNoNegotiation x.0) (sym is) tt
takes_bare_none meaning (acceptors.Complete side) token result is = subst (λ x. HasNoNegotiation x.0) (sym is) tt
takes_bare_none meaning (acceptors.Failed refusal) token result is = subst (λ x. HasNoNegotiation x.0) (sym is) tt

bare_taken : {M : Type 0} (meaning : Meaning M) (side : Acceptor M) (octets : List ℕ) (result : Taken (Acceptor M)) → TakesBare meaning side octets result
    → HasNoNegotiation result.0
bare_taken meaning side octets result (stepped, (steps, is)) =
    subst (λ x. HasNoNegotiation x.0) (sym is) (takes_bare_none meaning side octets stepped steps)

-- the offer
offer_taken : {M : Type 0} (o : EncodingOf GssApiNegInit) (l : EncodingOf (List (List ℕ))) (t : EncodingOf NegTokenTarg) (meaning : Meaning M)
    → OfferLaw meaning → (fresh : Fresh M) (octets : List ℕ) (result : Taken (Acceptor M)) → TakesOffer o l t meaning (acceptors.Fresh fresh) octets result
    → IsAcceptorAfterOffer o l meaning fresh octets result.0
offer_taken o l t meaning law fresh octets result (inl (e, (rejects, is))) =
    subst (λ x. IsAcceptorAfterOffer o l meaning fresh octets x.0) (sym is) (inl tt)
offer_taken o l t meaning law fresh octets result (inr (proposal, (reads, (stepped, (steps, inl (some, is)))))) =
    subst (λ x. IsAcceptorAfterOffer o l meaning fresh octets x.0) (sym is) (inl tt)
offer_taken o l t meaning law fresh octets result (inr (proposal, (reads, (stepped, (steps, inr (answer, (writes, is))))))) =
    subst (λ x. IsAcceptorAfterOffer o l meaning fresh octets x.0) (sym is) (inr (proposal, (reads, (law fresh proposal stepped steps).0)))

fresh_by : {M : Type 0} (bare : Bool) (o : EncodingOf GssApiNegInit) (l : EncodingOf (List (List ℕ))) (t : EncodingOf NegTokenTarg) (meaning : Meaning M)
    → OfferLaw meaning → (fresh : Fresh M) (octets : List ℕ) (result : Taken (Acceptor M))
    → AcceptorTakesBy bare true o l t meaning (acceptors.Fresh fresh) octets result → IsAcceptorAfterOffer o l meaning fresh octets result.0
fresh_by true o l t meaning law fresh octets result takes = inl (bare_taken meaning (acceptors.Fresh fresh) octets result takes)
fresh_by false o l t meaning law fresh octets result takes = offer_taken o l t meaning law fresh octets result takes

pub acceptor_offered : {M : Type 0} (o : EncodingOf GssApiNegInit) (l : EncodingOf (List (List ℕ))) (t : EncodingOf NegTokenTarg) (meaning : Meaning M)
    → OfferLaw meaning → (fresh : Fresh M) (octets : List ℕ) (result : Taken (Acceptor M))
    → AcceptorTakes o l t meaning (acceptors.Fresh fresh) octets result → IsAcceptorAfterOffer o l meaning fresh octets result.0
acceptor_offered o l t meaning law fresh octets result takes = fresh_by _ o l t meaning law fresh octets result takes

-- a later message
reply_taken : {M : Type 0} (t : EncodingOf NegTokenTarg) (meaning : Meaning M) → AcceptorLaw meaning → (mechanisms : List M) (received : Received)
    (state : Option NegState) (came : Option (List ℕ)) (before : Acceptor M) (octets : List ℕ) (result : Taken (Acceptor M))
    → IsAcceptor meaning mechanisms received state came before → TakesReply t meaning before octets result
    → IsAcceptorAfter t meaning mechanisms received octets result.0
reply_taken t meaning law mechanisms received state came before octets result h (inl (e, (rejects, is))) =
    subst (λ x. IsAcceptorAfter t meaning mechanisms received octets x.0) (sym is) (inl (ended_none before))
reply_taken t meaning law mechanisms received state came before octets result h (inr (message, (reads, (stepped, (steps, inl (some, is)))))) =
    subst (λ x. IsAcceptorAfter t meaning mechanisms received octets x.0) (sym is) (inl tt)
reply_taken t meaning law mechanisms received state came before octets result h (inr (message, (reads, (stepped, (steps, inr (answer, (writes, is))))))) =
    subst (λ x. IsAcceptorAfter t meaning mechanisms received octets x.0) (sym is)
    (inr (message, (reads, law mechanisms received state came before (message ∷ []) stepped.0 h (stepped, (steps, refl)))))

pub later_by : {M : Type 0} (bare : Bool) (fresh : Bool) (o : EncodingOf GssApiNegInit) (l : EncodingOf (List (List ℕ))) (t : EncodingOf NegTokenTarg)
    (meaning : Meaning M) → AcceptorLaw meaning → (mechanisms : List M) (received : Received) (state : Option NegState) (came : Option (List ℕ))
    (before : Acceptor M) (octets : List ℕ) (result : Taken (Acceptor M)) → fresh ≡ false → IsAcceptor meaning mechanisms received state came before
    → AcceptorTakesBy bare fresh o l t meaning before octets result → IsAcceptorAfter t meaning mechanisms received octets result.0
later_by true fresh o l t meaning law mechanisms received state came before octets result late h takes = inl (bare_taken meaning before octets result takes)
later_by false true o l t meaning law mechanisms received state came before octets result late h takes = absurd (no_answer late)
later_by false false o l t meaning law mechanisms received state came before octets result late h takes =
    reply_taken t meaning law mechanisms received state came before octets result h takes

-- no token of an offer comes again
none_late : {M : Type 0} (side : Acceptor M) → HasNoNegotiation side → is_fresh_side side ≡ false
none_late (acceptors.Fresh side) h = absurd h
none_late (acceptors.Running side) h = refl
none_late (acceptors.Complete side) h = refl
none_late (acceptors.Bare side) h = refl
none_late (acceptors.Failed refusal) h = refl

settled_late : {M : Type 0} (out : Outcome M) → is_fresh_side (settled out).0 ≡ false
settled_late (Ok (afters.Running side, answer)) = refl
settled_late (Ok (afters.Complete side, answer)) = refl
settled_late (Err refusal) = refl

steps_late : {M : Type 0} (meaning : Meaning M) (before : Acceptor M) (message : Message) (stepped : Acceptor M × Option Message)
    → AcceptorSteps meaning before message stepped → is_fresh_side stepped.0 ≡ false
steps_late meaning (acceptors.Running side) message stepped (out, (later, is)) = ap (λ x. is_fresh_side x.0) is ∙ settled_late out
steps_late meaning (acceptors.Fresh side) message stepped is = ap (λ x. is_fresh_side x.0) is
steps_late meaning (acceptors.Bare side) message stepped is = ap (λ x. is_fresh_side x.0) is
steps_late meaning (acceptors.Complete side) message stepped is = ap (λ x. is_fresh_side x.0) is
steps_late meaning (acceptors.Failed refusal) message stepped is = ap (λ x. is_fresh_side x.0) is

reply_late : {M : Type 0} (t : EncodingOf NegTokenTarg) (meaning : Meaning M) (before : Acceptor M) (octets : List ℕ) (result : Taken (Acceptor M))
    → TakesReply t meaning before octets result → is_fresh_side result.0 ≡ false
reply_late t meaning before octets result (inl (e, (rejects, is))) = ap (λ x. is_fresh_side x.0) is ∙ none_late _ (ended_none before)
reply_late t meaning before octets result (inr (message, (reads, (stepped, (steps, inl (some, is)))))) = ap (λ x. is_fresh_side x.0) is
reply_late t meaning before octets result (inr (message, (reads, (stepped, (steps, inr (answer, (writes, is))))))) =
    ap (λ x. is_fresh_side x.0) is ∙ steps_late meaning before message stepped steps

later_late : {M : Type 0} (bare : Bool) (fresh : Bool) (o : EncodingOf GssApiNegInit) (l : EncodingOf (List (List ℕ))) (t : EncodingOf NegTokenTarg)
    (meaning : Meaning M) (before : Acceptor M) (octets : List ℕ) (result : Taken (Acceptor M)) → fresh ≡ false
    → AcceptorTakesBy bare fresh o l t meaning before octets result → is_fresh_side result.0 ≡ false
later_late true fresh o l t meaning before octets result late takes = none_late _ (bare_taken meaning before octets result takes)
later_late false true o l t meaning before octets result late takes = absurd (no_answer late)
later_late false false o l t meaning before octets result late takes = reply_late t meaning before octets result takes

-- who has failed, or has no negotiation, stays so
failed_reply : {M : Type 0} (t : EncodingOf NegTokenTarg) (meaning : Meaning M) (refusal : Refusal) (octets : List ℕ) (result : Taken (Acceptor M))
    → TakesReply t meaning (acceptors.Failed refusal) octets result → result.0 ≡ acceptors.Failed refusal
failed_reply t meaning refusal octets result (inl (e, (rejects, is))) = ap (λ x. x.0) is
failed_reply t meaning refusal octets result (inr (message, (reads, (stepped, (steps, inl (some, is)))))) =
    absurd (no_answer (sym some ∙ ap (λ x. is_some x.1) steps))
failed_reply t meaning refusal octets result (inr (message, (reads, (stepped, (steps, inr (answer, (writes, is))))))) = ap (λ x. x.0) is ∙ ap (λ x. x.0) steps

pub none_step : {M : Type 0} (o : EncodingOf GssApiNegInit) (l : EncodingOf (List (List ℕ))) (t : EncodingOf NegTokenTarg) (meaning : Meaning M)
    (before : Acceptor M) (octets : List ℕ) (result : Taken (Acceptor M)) → HasNoNegotiation before → AcceptorTakes o l t meaning before octets result
    → HasNoNegotiation result.0
none_step o l t meaning (acceptors.Fresh side) octets result h takes = absurd h
none_step o l t meaning (acceptors.Running side) octets result h takes = absurd h
none_step o l t meaning (acceptors.Complete side) octets result h takes = absurd h
none_step o l t meaning (acceptors.Bare side) octets result h takes = bare_taken meaning (acceptors.Bare side) octets result takes
none_step o l t meaning (acceptors.Failed refusal) octets result h takes =
    subst HasNoNegotiation (sym (failed_reply t meaning refusal octets result takes)) tt

none_hears : {M : Type 0} (o : EncodingOf GssApiNegInit) (l : EncodingOf (List (List ℕ))) (t : EncodingOf NegTokenTarg) (meaning : Meaning M)
    (before : Acceptor M) (all : List (List ℕ)) (after : Acceptor M) → HasNoNegotiation before → AcceptorHears o l t meaning before all after
    → HasNoNegotiation after
none_hears o l t meaning before [] after h same = subst HasNoNegotiation (sym same) h
none_hears o l t meaning before (octets ∷ all) after h (next, (takes, rest)) =
    none_hears o l t meaning next.0 all after (none_step o l t meaning before octets next h takes) rest

pub failed_acceptor : {M : Type 0} (o : EncodingOf GssApiNegInit) (l : EncodingOf (List (List ℕ))) (t : EncodingOf NegTokenTarg) (meaning : Meaning M)
    (refusal : Refusal) (all : List (List ℕ)) (after : Acceptor M) → AcceptorHears o l t meaning (acceptors.Failed refusal) all after
    → after ≡ acceptors.Failed refusal
failed_acceptor o l t meaning refusal [] after same = same
failed_acceptor o l t meaning refusal (octets ∷ all) after (next, (takes, rest)) =
    failed_acceptor o l t meaning refusal all after
    (subst (λ side. AcceptorHears o l t meaning side all after) (failed_reply t meaning refusal octets next takes) rest)

-- after any octets behind the offer
acceptor_on : {M : Type 0} (o : EncodingOf GssApiNegInit) (l : EncodingOf (List (List ℕ))) (t : EncodingOf NegTokenTarg) (meaning : Meaning M)
    → AcceptorLaw meaning → (mechanisms : List M) (received : Received) (octets : List ℕ) (side : Acceptor M) (all : List (List ℕ)) (last : List ℕ)
    (after : Acceptor M) → is_fresh_side side ≡ false → IsAcceptorAfter t meaning mechanisms received octets side
    → AcceptorHears o l t meaning side (all ++ last ∷ []) after → IsAcceptorAfter t meaning mechanisms received last after
acceptor_on o l t meaning law mechanisms received octets side [] last after late (inl none) hears =
    inl (none_hears o l t meaning side (last ∷ []) after none hears)
acceptor_on o l t meaning law mechanisms received octets side [] last after late (inr (message, (reads, is))) (next, (takes, same)) =
    subst (IsAcceptorAfter t meaning mechanisms received last) (sym same)
    (later_by _ _ o l t meaning law mechanisms received message.state _ side last next late is takes)
acceptor_on o l t meaning law mechanisms received octets side (x ∷ all) last after late (inl none) hears =
    inl (none_hears o l t meaning side (x ∷ (all ++ last ∷ [])) after none hears)
acceptor_on o l t meaning law mechanisms received octets side (x ∷ all) last after late (inr (message, (reads, is))) (next, (takes, rest)) =
    acceptor_on o l t meaning law mechanisms received x next.0 all last after (later_late _ _ o l t meaning side x next late takes)
    (later_by _ _ o l t meaning law mechanisms received message.state _ side x next late is takes) rest

pub acceptor_heard : {M : Type 0} (o : EncodingOf GssApiNegInit) (l : EncodingOf (List (List ℕ))) (t : EncodingOf NegTokenTarg) (meaning : Meaning M)
    → AcceptorLaw meaning → (mechanisms : List M) (received : Received) (state : Option NegState) (came : Option (List ℕ)) (before : Acceptor M)
    (all : List (List ℕ)) (last : List ℕ) (after : Acceptor M) → is_fresh_side before ≡ false
    → IsAcceptor meaning mechanisms received state came before → AcceptorHears o l t meaning before (all ++ last ∷ []) after
    → IsAcceptorAfter t meaning mechanisms received last after
acceptor_heard o l t meaning law mechanisms received state came before [] last after late h (next, (takes, same)) =
    subst (IsAcceptorAfter t meaning mechanisms received last) (sym same)
    (later_by _ _ o l t meaning law mechanisms received state came before last next late h takes)
acceptor_heard o l t meaning law mechanisms received state came before (x ∷ all) last after late h (next, (takes, rest)) =
    acceptor_on o l t meaning law mechanisms received x next.0 all last after (later_late _ _ o l t meaning before x next late takes)
    (later_by _ _ o l t meaning law mechanisms received state came before x next late h takes) rest
