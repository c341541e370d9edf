-- Whole runs of a side whose mechanisms are told of anew before each step.
use Rattle.std.proofs.Common.{◌≡◌, ◌++◌, ◌∙◌, ℕ, List, [], ◌∷◌, Bool, true, false, map, Option, refl, inl, inr, sym, ap, subst}
use Rattle.std.specs.Prelude.{◌⊎◌}
use Rattle.krb_der_core.specs.declared.der.DerEncode.{Ghosts as EncodingOf}
use Rattle.krb_gss_tokens.specs.declared.spnego.GssApiNegInit.{GssApiNegInit}
use Rattle.krb_gss_tokens.specs.declared.spnego.NegTokenTarg.{NegTokenTarg}
use Rattle.krb_spnego_rules.specs.Justified.{FitsList, FitsOffering, HasOffered, IsAcceptor, IsIn, IsInitiator, IsOn, Offering, Received}
use Rattle.krb_spnego_rules.specs.declared.acceptor.Acceptor.{Acceptor}
use Rattle.krb_spnego_rules.specs.declared.acceptor.Acceptor.TheVariants as acceptors
use Rattle.krb_spnego_rules.specs.declared.initiator.Initiator.{Initiator}
use Rattle.krb_spnego_rules.specs.declared.initiator.Initiator.TheVariants as initiators
use Rattle.krb_spnego_rules.specs.declared.initiator.Offered.{Offered}
use Rattle.krb_spnego_rules.specs.declared.side.Running.{Running}
use Rattle.krb_spnego_rules.specs.declared.words.NegState.{NegState}
use Rattle.krb_spnego.proofs.Hearing.{AcceptorLaw, InitiatorLaw, failed_step, later_by, none_step, one_step}
use Rattle.krb_spnego.specs.Hearing.{HasFailed, HasNoNegotiation, IsAcceptorAfter, IsInitiatorAfter}
use Rattle.krb_spnego.specs.Retelling.{AcceptorIsTold, AcceptorRetold, AreRetold, InitiatorIsTold, InitiatorRetold, IsOfferedRetold, IsRunningRetold}
use Rattle.krb_spnego.specs.Taking.{InitiatorTakes, is_fresh_side}
use Rattle.krb_spnego.specs.Told.{is_told_name, told_meaning}
use Rattle.krb_spnego.specs.declared.told.Told.{Told}

-- ---- what the laws want of a side, they want of one that is told anew

oids_retold : (xs ys : List Told) → AreRetold xs ys → map (λ m. m.oid.items) ys ≡ map (λ m. m.oid.items) xs
oids_retold [] [] h = refl
oids_retold [] (y ∷ ys) h = absurd h
oids_retold (x ∷ xs) [] h = absurd h
oids_retold (x ∷ xs) (y ∷ ys) (r, rest) =
    ap (λ o. o ∷ map (λ m. m.oid.items) ys) r.oid ∙ ap (λ os. x.oid.items ∷ os) (oids_retold xs ys rest)

named_retold : (a b : Running Told) → IsRunningRetold a b → is_told_name a.mechanism a.name.items ≡ true → is_told_name b.mechanism b.name.items ≡ true
named_retold a b r named = r.mechanism.names b.name.items ∙ ap (is_told_name a.mechanism) r.name ∙ named

on_retold : (fits : Told → List ℕ → Bool → Type 0) (list : List ℕ) (a b : Running Told) → IsRunningRetold a b
    → fits b.mechanism b.name.items b.terms.preferred → IsOn told_meaning fits list a → IsOn told_meaning fits list b
on_retold fits list a b r fitting h = record {
  list_is = r.list_is ∙ h.list_is;
  fitting = fitting;
  established = λ e. r.mechanism.established ∙ h.established (sym r.established ∙ e);
  terms = subst (λ t. (t.preferred ≡ true) ⊎ (t.required ≡ true)) (sym r.terms) h.terms;
}

offering_retold : (offering : Offering) (a b : Running Told) → IsRunningRetold a b
    → FitsOffering told_meaning offering a.mechanism a.name.items a.terms.preferred
    → FitsOffering told_meaning offering b.mechanism b.name.items b.terms.preferred
offering_retold offering a b r h = record {
  named = named_retold a b r h.named;
  offered = subst (IsIn (offering.preferred ∷ offering.others)) (sym r.mechanism.oid) h.offered;
  first = λ e. r.mechanism.oid ∙ h.first (sym (ap (λ t. t.preferred) r.terms) ∙ e);
}

list_retold : (mechanisms : List Told) (received : Received) (a b : Running Told) → IsRunningRetold a b
    → FitsList told_meaning mechanisms received a.mechanism a.name.items a.terms.preferred
    → FitsList told_meaning mechanisms received b.mechanism b.name.items b.terms.preferred
list_retold mechanisms received a b r h = record {
  rank = h.rank;
  picked = h.picked;
  listed = (h.listed.0, (h.listed.1.0, r.name ∙ h.listed.1.1));
  named = named_retold a b r h.named;
  first = ap (λ t. t.preferred) r.terms ∙ h.first;
}

offered_retold : (offering : Offering) (a b : Offered Told) → IsOfferedRetold a b → HasOffered told_meaning offering a → HasOffered told_meaning offering b
offered_retold offering a b r h = record {
  preferred = r.first.oid ∙ h.preferred;
  others = oids_retold a.others.items b.others.items r.others ∙ h.others;
  list_is = r.list_is ∙ h.list_is;
  established = λ e. r.first.established ∙ h.established (sym r.established ∙ e);
}

-- ---- an initiator

initiator_retold : (offering : Offering) (state : Option NegState) (came : Option (List ℕ)) (a b : Initiator Told) → InitiatorRetold a b
    → IsInitiator told_meaning offering state came a → IsInitiator told_meaning offering state came b
initiator_retold offering state came (initiators.Offered a) (initiators.Offered b) r h = offered_retold offering a b r h
initiator_retold offering state came (initiators.Offered a) (initiators.Running b) r h = absurd r
initiator_retold offering state came (initiators.Offered a) (initiators.Complete b) r h = absurd r
initiator_retold offering state came (initiators.Offered a) (initiators.Failed b) r h = absurd r
initiator_retold offering state came (initiators.Running a) (initiators.Running b) r h =
    on_retold (FitsOffering told_meaning offering) offering.list a b r (offering_retold offering a b r h.fitting) h
initiator_retold offering state came (initiators.Running a) (initiators.Offered b) r h = absurd r
initiator_retold offering state came (initiators.Running a) (initiators.Complete b) r h = absurd r
initiator_retold offering state came (initiators.Running a) (initiators.Failed b) r h = absurd r
initiator_retold offering state came (initiators.Complete a) b r h = subst (IsInitiator told_meaning offering state came) (sym r) h
initiator_retold offering state came (initiators.Failed refusal) b r h = subst (IsInitiator told_meaning offering state came) (sym r) h

failed_told : (t : EncodingOf NegTokenTarg) (before : Initiator Told) (all : List (List ℕ)) (after : Initiator Told) → HasFailed before
    → InitiatorIsTold t before all after → HasFailed after
failed_told t (initiators.Offered side) all after h told = absurd h
failed_told t (initiators.Running side) all after h told = absurd h
failed_told t (initiators.Complete side) all after h told = absurd h
failed_told t (initiators.Failed refusal) [] after h is = subst HasFailed (sym is) tt
failed_told t (initiators.Failed refusal) (octets ∷ all) after h (told, (same, (next, (takes, rest)))) =
    failed_told t next.0 all after
    (subst HasFailed
    (sym (failed_step t told_meaning refusal octets next (subst (λ x. InitiatorTakes t told_meaning x octets next) same takes))) tt) rest

module _ (t : EncodingOf NegTokenTarg) (law : InitiatorLaw told_meaning) (offering : Offering) where
  initiator_on : (octets : List ℕ) (side : Initiator Told) (all : List (List ℕ)) (last : List ℕ) (after : Initiator Told)
      → IsInitiatorAfter t told_meaning offering octets side → InitiatorIsTold t side (all ++ last ∷ []) after
      → IsInitiatorAfter t told_meaning offering last after
  initiator_on octets side [] last after (inl failed) told = inl (failed_told t side (last ∷ []) after failed told)
  initiator_on octets side [] last after (inr (message, (reads, is))) (told, (same, (next, (takes, end)))) =
      subst (IsInitiatorAfter t told_meaning offering last) (sym end)
      (one_step t told_meaning law offering message.state _ told last next (initiator_retold offering message.state _ side told same is) takes)
  initiator_on octets side (x ∷ all) last after (inl failed) told = inl (failed_told t side (x ∷ (all ++ last ∷ [])) after failed told)
  initiator_on octets side (x ∷ all) last after (inr (message, (reads, is))) (told, (same, (next, (takes, rest)))) =
      initiator_on x next.0 all last after
      (one_step t told_meaning law offering message.state _ told x next (initiator_retold offering message.state _ side told same is) takes) rest

  pub initiator_told : (state : Option NegState) (came : Option (List ℕ)) (before : Initiator Told) (all : List (List ℕ)) (last : List ℕ)
      (after : Initiator Told) → IsInitiator told_meaning offering state came before → InitiatorIsTold t before (all ++ last ∷ []) after
      → IsInitiatorAfter t told_meaning offering last after
  initiator_told state came before [] last after h (told, (same, (next, (takes, end)))) =
      subst (IsInitiatorAfter t told_meaning offering last) (sym end)
      (one_step t told_meaning law offering state came told last next (initiator_retold offering state came before told same h) takes)
  initiator_told state came before (x ∷ all) last after h (told, (same, (next, (takes, rest)))) =
      initiator_on x next.0 all last after
      (one_step t told_meaning law offering state came told x next (initiator_retold offering state came before told same h) takes) rest

-- ---- an acceptor

acceptor_retold : (mechanisms : List Told) (received : Received) (state : Option NegState) (came : Option (List ℕ)) (a b : Acceptor Told)
    → AcceptorRetold a b → IsAcceptor told_meaning mechanisms received state came a → IsAcceptor told_meaning mechanisms received state came b
acceptor_retold mechanisms received state came (acceptors.Running a) (acceptors.Running b) r h =
    on_retold (FitsList told_meaning mechanisms received) received.list a b r (list_retold mechanisms received a b r h.fitting) h
acceptor_retold mechanisms received state came (acceptors.Running a) (acceptors.Fresh b) r h = absurd r
acceptor_retold mechanisms received state came (acceptors.Running a) (acceptors.Complete b) r h = absurd r
acceptor_retold mechanisms received state came (acceptors.Running a) (acceptors.Bare b) r h = absurd r
acceptor_retold mechanisms received state came (acceptors.Running a) (acceptors.Failed b) r h = absurd r
acceptor_retold mechanisms received state came (acceptors.Bare a) (acceptors.Bare b) r h = tt
acceptor_retold mechanisms received state came (acceptors.Bare a) (acceptors.Fresh b) r h = absurd r
acceptor_retold mechanisms received state came (acceptors.Bare a) (acceptors.Running b) r h = absurd r
acceptor_retold mechanisms received state came (acceptors.Bare a) (acceptors.Complete b) r h = absurd r
acceptor_retold mechanisms received state came (acceptors.Bare a) (acceptors.Failed b) r h = absurd r
acceptor_retold mechanisms received state came (acceptors.Complete a) b r h =
    subst (IsAcceptor told_meaning mechanisms received state came) (sym r) h
acceptor_retold mechanisms received state came (acceptors.Failed refusal) b r h =
    subst (IsAcceptor told_meaning mechanisms received state came) (sym r) h
acceptor_retold mechanisms received state came (acceptors.Fresh a) b r h = absurd r

-- it is at the same stage: without a negotiation, or not at its beginning
none_retold : (a b : Acceptor Told) → AcceptorRetold a b → HasNoNegotiation a → HasNoNegotiation b
none_retold (acceptors.Bare a) (acceptors.Bare b) r h = tt
none_retold (acceptors.Bare a) (acceptors.Fresh b) r h = absurd r
none_retold (acceptors.Bare a) (acceptors.Running b) r h = absurd r
none_retold (acceptors.Bare a) (acceptors.Complete b) r h = absurd r
none_retold (acceptors.Bare a) (acceptors.Failed b) r h = absurd r
none_retold (acceptors.Failed refusal) b r h = subst HasNoNegotiation (sym r) tt
none_retold (acceptors.Fresh a) b r h = absurd h
none_retold (acceptors.Running a) b r h = absurd h
none_retold (acceptors.Complete a) b r h = absurd h

late_retold : (a b : Acceptor Told) → AcceptorRetold a b → is_fresh_side b ≡ false
late_retold (acceptors.Running a) (acceptors.Running b) r = refl
late_retold (acceptors.Running a) (acceptors.Fresh b) r = absurd r
late_retold (acceptors.Running a) (acceptors.Complete b) r = absurd r
late_retold (acceptors.Running a) (acceptors.Bare b) r = absurd r
late_retold (acceptors.Running a) (acceptors.Failed b) r = absurd r
late_retold (acceptors.Bare a) (acceptors.Bare b) r = refl
late_retold (acceptors.Bare a) (acceptors.Fresh b) r = absurd r
late_retold (acceptors.Bare a) (acceptors.Running b) r = absurd r
late_retold (acceptors.Bare a) (acceptors.Complete b) r = absurd r
late_retold (acceptors.Bare a) (acceptors.Failed b) r = absurd r
late_retold (acceptors.Complete a) b r = ap is_fresh_side r
late_retold (acceptors.Failed refusal) b r = ap is_fresh_side r
late_retold (acceptors.Fresh a) b r = absurd r

module _ (o : EncodingOf GssApiNegInit) (l : EncodingOf (List (List ℕ))) (t : EncodingOf NegTokenTarg) where
  none_told : (before : Acceptor Told) (all : List (List ℕ)) (after : Acceptor Told) → HasNoNegotiation before → AcceptorIsTold o l t before all after
      → HasNoNegotiation after
  none_told before [] after h is = subst HasNoNegotiation (sym is) h
  none_told before (octets ∷ all) after h (told, (same, (next, (takes, rest)))) =
      none_told next.0 all after (none_step o l t told_meaning told octets next (none_retold before told same h) takes) rest

  module _ (law : AcceptorLaw told_meaning) (mechanisms : List Told) (received : Received) where
    acceptor_on : (octets : List ℕ) (side : Acceptor Told) (all : List (List ℕ)) (last : List ℕ) (after : Acceptor Told)
        → IsAcceptorAfter t told_meaning mechanisms received octets side → AcceptorIsTold o l t side (all ++ last ∷ []) after
        → IsAcceptorAfter t told_meaning mechanisms received last after
    acceptor_on octets side [] last after (inl none) told = inl (none_told side (last ∷ []) after none told)
    acceptor_on octets side [] last after (inr (message, (reads, is))) (told, (same, (next, (takes, end)))) =
        subst (IsAcceptorAfter t told_meaning mechanisms received last) (sym end)
        (later_by _ _ o l t told_meaning law mechanisms received message.state _ told last next (late_retold side told same)
        (acceptor_retold mechanisms received message.state _ side told same is) takes)
    acceptor_on octets side (x ∷ all) last after (inl none) told = inl (none_told side (x ∷ (all ++ last ∷ [])) after none told)
    acceptor_on octets side (x ∷ all) last after (inr (message, (reads, is))) (told, (same, (next, (takes, rest)))) =
        acceptor_on x next.0 all last after
        (later_by _ _ o l t told_meaning law mechanisms received message.state _ told x next (late_retold side told same)
        (acceptor_retold mechanisms received message.state _ side told same is) takes) rest

    pub acceptor_told : (state : Option NegState) (came : Option (List ℕ)) (before : Acceptor Told) (all : List (List ℕ)) (last : List ℕ)
        (after : Acceptor Told) → IsAcceptor told_meaning mechanisms received state came before → AcceptorIsTold o l t before (all ++ last ∷ []) after
        → IsAcceptorAfter t told_meaning mechanisms received last after
    acceptor_told state came before [] last after h (told, (same, (next, (takes, end)))) =
        subst (IsAcceptorAfter t told_meaning mechanisms received last) (sym end)
        (later_by _ _ o l t told_meaning law mechanisms received state came told last next (late_retold before told same)
        (acceptor_retold mechanisms received state came before told same h) takes)
    acceptor_told state came before (x ∷ all) last after h (told, (same, (next, (takes, rest)))) =
        acceptor_on x next.0 all last after
        (later_by _ _ o l t told_meaning law mechanisms received state came told x next (late_retold before told same)
        (acceptor_retold mechanisms received state came before told same h) takes) rest
