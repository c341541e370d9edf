-- Two honest engines do what the rules count, and so they end.
use Rattle.std.proofs.Common.{◌≡◌, ◌||◌, ℕ, zero, suc, List, Bool, true, false, not, Option, Some, None, Result, Ok, Err, Vec, refl, sym, ap, subst, ◌∙◌, inl, inr}
use Rattle.std.specs.Prelude.{is_some}
use Rattle.std.specs.declared.alloc.Global.{Global}
use Rattle.krb_spnego_rules.specs.Decisions.{continues}
use Rattle.krb_spnego_rules.specs.Fields.{items_in}
use Rattle.krb_spnego_rules.specs.HonestEngines.{Ends, Follows, Goes, IsHalf, IsPair, Meets, Stands, context_of, flipped, list_of, name_of, note_in, side_in}
use Rattle.krb_spnego_rules.specs.Meaning.{Meaning}
use Rattle.krb_spnego_rules.specs.Messages.{after_later}
use Rattle.krb_spnego_rules.specs.Mics.{IsSeen}
use Rattle.krb_spnego_rules.specs.Runs.{Note, Side, after, counted, decided, having_sent, kept, left_after, mic_of, more, note_of, other_role, progress_of, reply_of, sends_token, state_of, taken, terms_in}
use Rattle.krb_spnego_rules.specs.Steps.{Does, GoesOn, LaterBy, Outcome, Signs, Takes, completed, decides, saying, waiting, with_context}
use Rattle.krb_spnego_rules.specs.Turns.{progress_in, token_in}
use Rattle.krb_spnego_rules.specs.declared.words.Choice.TheVariants as choices
use Rattle.krb_spnego_rules.specs.declared.words.Decision.{Decision}
use Rattle.krb_spnego_rules.specs.declared.words.Decision.TheVariants.{Wait, Finish, Rest, Refuse}
use Rattle.krb_spnego_rules.specs.declared.words.Mic.{Mic}
use Rattle.krb_spnego_rules.specs.declared.words.Mic.TheVariants as mics
use Rattle.krb_spnego_rules.specs.declared.words.NegState.{NegState}
use Rattle.krb_spnego_rules.specs.declared.words.NegState.TheVariants.{AcceptCompleted, AcceptIncomplete, Reject, RequestMic}
use Rattle.krb_spnego_rules.specs.declared.words.Progress.{Progress}
use Rattle.krb_spnego_rules.specs.declared.words.Progress.TheVariants as progress
use Rattle.krb_spnego_rules.specs.declared.words.Role.{Role}
use Rattle.krb_spnego_rules.specs.declared.words.Role.TheVariants.{Initiator, Acceptor}
use Rattle.krb_spnego_rules.specs.declared.words.Rule.{Rule}
use Rattle.krb_spnego_rules.specs.declared.words.Terms.{Terms}
use Rattle.krb_spnego_rules.specs.declared.mechanism.Turn.{Turn}
use Rattle.krb_spnego_rules.specs.declared.mechanism.Turn.TheVariants as turns
use Rattle.krb_spnego_rules.specs.declared.side.Running.{Running}
use Rattle.krb_spnego_rules.specs.declared.side.After.{After}
use Rattle.krb_spnego_rules.specs.declared.side.After.TheVariants as afters

-- ---- small facts

pub nothing : {A : Type 0} (a : A) → None ≡ Some a → ⊥
nothing a e = cc

some_is : {A : Type 0} (a b : A) → Some a ≡ Some b → a ≡ b
some_is a b e = cc

-- what a token that is there, or is not, says of how many are left
pub sends : (turn : Turn) (left : ℕ) → progress_in turn ≡ progress_of left → is_some (token_in turn) ≡ sends_token left
sends (turns.Continues token) zero e = cc
sends (turns.Continues token) (suc zero) e = refl
sends (turns.Continues token) (suc (suc n)) e = refl
sends (turns.EndsWithToken token) zero e = cc
sends (turns.EndsWithToken token) (suc zero) e = refl
sends (turns.EndsWithToken token) (suc (suc n)) e = refl
sends turns.Ends zero e = refl
sends turns.Ends (suc zero) e = cc
sends turns.Ends (suc (suc n)) e = cc

pub none_left : (turn : Turn) (left : ℕ) → progress_in turn ≡ progress_of left → token_in turn ≡ None → left_after left ≡ zero
none_left (turns.Continues token) left e none = cc
none_left (turns.EndsWithToken token) left e none = cc
none_left turns.Ends zero e none = refl
none_left turns.Ends (suc zero) e none = cc
none_left turns.Ends (suc (suc n)) e none = cc

ended_left : (left : ℕ) → progress_of left ≡ progress.Ends → left ≡ zero
ended_left zero e = refl
ended_left (suc zero) e = cc
ended_left (suc (suc n)) e = cc

ended_token : (turn : Turn) → progress_in turn ≡ progress.Ends → items_in (token_in turn) ≡ None
ended_token (turns.Continues token) e = cc
ended_token (turns.EndsWithToken token) e = cc
ended_token turns.Ends e = refl

no_items : (token : Option (Vec ℕ Global)) → is_some token ≡ false → token ≡ None
no_items None e = refl
no_items (Some t) e = cc

-- a message that breaks no rule has a token exactly while one is waited for
waits_for : (state : NegState) (token established : Bool) (u : Unit {0})
    → after_later (record { state = Some state; choice = choices.Absent; token = token }) established ≡ Ok u → established ≡ not token
waits_for AcceptCompleted true true u e = cc
waits_for AcceptCompleted true false u e = refl
waits_for AcceptCompleted false true u e = refl
waits_for AcceptCompleted false false u e = cc
waits_for AcceptIncomplete true true u e = cc
waits_for AcceptIncomplete true false u e = refl
waits_for AcceptIncomplete false true u e = refl
waits_for AcceptIncomplete false false u e = cc
waits_for Reject token established u e = cc
waits_for RequestMic token established u e = cc

-- ---- the mechanism's part

pub rest_of : (established : Bool) (token : Option (Vec ℕ Global)) (left : ℕ) → established ≡ not (is_some token) → (token ≡ None → left ≡ zero)
    → established ≡ true → (items_in token ≡ None) × (left ≡ zero)
rest_of established None left is last there = (refl, last refl)
rest_of established (Some t) left is last there = cc

-- what has something to do
pub goes_some : (left : ℕ) (token : Option (Vec ℕ Global)) → is_some token ≡ true → Goes left (items_in token)
goes_some left (Some t) e = refl
goes_some left None e = cc

pub waits_some : (established : Bool) (token : Option (Vec ℕ Global)) → established ≡ not (is_some token) → established ≡ false → is_some token ≡ true
waits_some established (Some t) is e = refl
waits_some established None is e = cc

pub turned : {X Y : Type 0} (mine : Meaning X) (theirs : Meaning Y) (at_x at_y : ℕ → Option (List ℕ) → X → Y → Type 0) → IsHalf mine theirs at_x at_y
    → (b : Bool) (left : ℕ) (token : Option (Vec ℕ Global)) (x context : X) (y : Y) (turn : Turn)
    → (b ≡ true → (items_in token ≡ None) × (left ≡ zero)) → (b ≡ false → Goes left (items_in token)) → at_x left (items_in token) x y → Takes mine b x (items_in token) context turn
    → (progress_in turn ≡ progress_of left) × at_y (left_after left) (items_in (token_in turn)) context y
turned mine theirs at_x at_y half true left token x context y turn rest goes at takes =
    let left_is : left ≡ zero = (rest refl).1 in
    let start : at_x zero None x y = subst (λ l. at_x l None x y) left_is (subst (λ t. at_x left t x y) (rest refl).0 at) in (
      ap progress_in takes.1 ∙ ap progress_of (sym left_is),
      subst (λ l. at_y (left_after l) (items_in (token_in turn)) context y) (sym left_is)
          (subst (λ t. at_y zero (items_in (token_in t)) context y) (sym takes.1) (subst (λ c. at_y zero None c y) (sym takes.0) (half.rests x y start))),
    )
turned mine theirs at_x at_y half false left token x context y turn rest goes at takes =
    half.turns left (items_in token) x y context turn (goes refl) at takes

pub false_true : false ≡ true → ⊥
false_true e = cc

-- an honest peer's MIC holds, once there is a context to verify it by
pub sight_is : (holds : List ℕ → Type 0) (came : Option (Vec ℕ Global)) (p : Progress) (sight : Mic) → IsSeen holds (items_in came) p sight
    → ((mic : Vec ℕ Global) → came ≡ Some mic → p ≡ progress.Ends → holds mic.items) → sight ≡ mic_of (is_some came) p
sight_is holds None p mics.Absent seen h = refl
sight_is holds None p mics.Early seen h = absurd (false_true seen.1)
sight_is holds None p mics.Holds seen h = absurd (nothing seen.1.0 seen.1.1.0)
sight_is holds None p mics.Wrong seen h = absurd (nothing seen.1.0 seen.1.1.0)
sight_is holds (Some mic) p mics.Absent seen h = absurd (nothing mic.items (sym seen))
sight_is holds (Some mic) progress.Ends mics.Early seen h = absurd (seen.0 refl)
sight_is holds (Some mic) progress.Ends mics.Holds seen h = refl
sight_is holds (Some mic) progress.Ends mics.Wrong seen h =
    absurd (seen.1.1.1 (subst holds (some_is mic.items seen.1.0 seen.1.1.0) (h mic refl refl)))
sight_is holds (Some mic) progress.Continues mics.Early seen h = refl
sight_is holds (Some mic) progress.Continues mics.Holds seen h = cc
sight_is holds (Some mic) progress.Continues mics.Wrong seen h = cc
sight_is holds (Some mic) progress.EndsWithToken mics.Early seen h = refl
sight_is holds (Some mic) progress.EndsWithToken mics.Holds seen h = cc
sight_is holds (Some mic) progress.EndsWithToken mics.Wrong seen h = cc

-- what a side's own MIC comes to
pub record Signed {X Y : Type 0} (mine : Meaning X) (at_y : ℕ → Option (List ℕ) → X → Y → Type 0) (list : List ℕ) (b : Bool) (x after : X)
    (own : Option (Vec ℕ Global)) : Type 0 where
  pub there : is_some own ≡ b
  pub at : (left : ℕ) (token : Option (List ℕ)) (y : Y) → at_y left token x y → at_y left token after y
  pub made : (mic : Vec ℕ Global) → own ≡ Some mic → (before : X) × mine.makes before list mic.items after

pub signed : {X Y : Type 0} (mine : Meaning X) (theirs : Meaning Y) (at_x at_y : ℕ → Option (List ℕ) → X → Y → Type 0) → IsHalf mine theirs at_x at_y
    → (b : Bool) (list : List ℕ) (x after : X) (own : Option (Vec ℕ Global)) → Signs mine x list b after own → Signed mine at_y list b x after own
signed mine theirs at_x at_y half false list x after own s = record {
  there = ap is_some s.1;
  at = λ left token y h. subst (λ c. at_y left token c y) (sym s.0) h;
  made = λ mic e. absurd (nothing mic (sym s.1 ∙ e));
}
signed mine theirs at_x at_y half true list x after own s = record {
  there = ap is_some s.1.0;
  at = λ left token y h. half.makes left token x y list s.0.items after h s.1.1;
  made = λ mic e. (x, subst (λ m. mine.makes x list m.items after) (some_is s.0 mic (sym s.1.0 ∙ e)) s.1.1);
}

-- ---- what the rules count, an engine does

abbrev pub Simulates : ℕ → Type 1
Simulates most = (X Y : Type 0) (mine : Meaning X) (theirs : Meaning Y) (at_x at_y : ℕ → Option (List ℕ) → X → Y → Type 0) → IsPair mine theirs at_x at_y
    → (role : Role) (x : Running X) (y : After Y) (left : ℕ) (done : Bool) (side : Side) (state : NegState) (token own : Option (Vec ℕ Global))
    (list name : List ℕ) (n : ℕ) → more most role (side_in x) side left done (note_in state token own) ≡ Some n
    → Meets theirs at_x x y left done side token own list name → Ends most X Y mine theirs role x y (saying state None token own)

-- ---- what follows a decision

pub uncounted : (found : Option ℕ) (n : ℕ) → counted found ≡ Some n → (m : ℕ) × (found ≡ Some m)
uncounted None n e = absurd (nothing n e)
uncounted (Some m) n e = (m, refl)

turned_pair : {X Y : Type 0} (mine : Meaning X) (theirs : Meaning Y) (at_x at_y : ℕ → Option (List ℕ) → X → Y → Type 0) → IsPair mine theirs at_x at_y
    → IsPair theirs mine (flipped at_y) (flipped at_x)
turned_pair mine theirs at_x at_y pair = record { x_half = pair.y_half; y_half = pair.x_half }

-- the rules' count of what follows, of the message that is sent
abbrev pub follows : ℕ → Role → Side → Terms → ℕ → Bool → Bool → Option ℕ
follows most role side terms left finished mic =
    more most (other_role role) side (having_sent terms left mic) (left_after left) finished (note_of (state_of finished) left mic)

of_message : (most : ℕ) (role : Role) (a b other : Side) (left : ℕ) (done : Bool) (state : NegState) (token own : Option (Vec ℕ Global)) (t m : Bool)
    (found : Option ℕ) → a ≡ b → is_some token ≡ t → is_some own ≡ m
    → more most role a other left done (record { state = state; choice = choices.Absent; token = t; mic = m }) ≡ found
    → more most role b other left done (note_in state token own) ≡ found
of_message most role a b other left done state token own t m found e f h is =
    subst (λ s. more most role s other left done (note_in state token own) ≡ found) e
    (subst (λ x. more most role a other left done (record { state = state; choice = choices.Absent; token = x; mic = is_some own }) ≡ found) (sym f)
    (subst (λ x. more most role a other left done (record { state = state; choice = choices.Absent; token = t; mic = x }) ≡ found) (sym h) is))

concludes : (most : ℕ) → Simulates most → (X Y : Type 0) (mine : Meaning X) (theirs : Meaning Y) (at_x at_y : ℕ → Option (List ℕ) → X → Y → Type 0)
    → IsPair mine theirs at_x at_y → (role : Role) (x : Running X) (y : After Y) (left : ℕ) (done : Bool) (side : Side) (list name : List ℕ) (context : X)
    (turn : Turn) (sight : Mic) (decision : Decision) (n : ℕ) (out : Outcome X) → x.list.items ≡ list → x.name.items ≡ name → list_of y ≡ list
    → name_of y ≡ name → Stands done y side → progress_in turn ≡ progress_of left
    → at_y (left_after left) (items_in (token_in turn)) context (context_of y)
    → after (follows most role side x.terms left) done decision ≡ Some n
    → Does mine (with_context x context) turn sight None decision out
    → Follows (λ peer s sent. Ends most Y X theirs mine (other_role role) peer s sent) y out
concludes most sim X Y mine theirs at_x at_y pair role x y left done side list name context turn sight (Refuse rule) n out xl xn yl yn st p at e d =
    absurd (nothing n e)
concludes most sim X Y mine theirs at_x at_y pair role x y left false side list name context turn sight Rest n out xl xn yl yn st p at e d =
    absurd (nothing n e)
concludes most sim X Y mine theirs at_x at_y pair role x (afters.Running y) left true side list name context turn sight Rest n out xl xn yl yn st p at e d =
    absurd st
concludes most sim X Y mine theirs at_x at_y pair role x (afters.Complete y) left true side list name context turn sight Rest n out xl xn yl yn st p at e d =
    subst (λ o. Follows (λ peer s sent. Ends most Y X theirs mine (other_role role) peer s sent) (afters.Complete y) o) (sym d) (xn ∙ sym yn)
concludes most sim X Y mine theirs at_x at_y pair role x y left true side list name context turn sight (Finish mic) n out xl xn yl yn st p at e d =
    absurd (nothing n e)
concludes most sim X Y mine theirs at_x at_y pair role x (afters.Complete y) left false side list name context turn sight (Finish mic) n out xl xn yl yn st p at e d =
    absurd st
concludes most sim X Y mine theirs at_x at_y pair role x (afters.Running y) left false side list name context turn sight (Finish mic) n out xl xn yl yn st p at e d =
    let c = d.1.0.0 in
    let own = d.1.0.1.0 in
    let s : Signed mine at_y x.list.items mic context c own = signed mine theirs at_x at_y pair.x_half mic x.list.items context c own d.1.0.1.1.0 in
    let m : (k : ℕ) × (follows most role side x.terms left true mic ≡ Some k) = uncounted (follows most role side x.terms left true mic) n e in
    subst (λ o. Follows (λ peer a sent. Ends most Y X theirs mine (other_role role) peer a sent) (afters.Running y) o) (sym (d.1.1 ∙ ap Ok d.1.0.1.1.1))
    (sim Y X theirs mine (flipped at_y) (flipped at_x) (turned_pair mine theirs at_x at_y pair) (other_role role) y
    (afters.Complete (completed (with_context x context) c sight)) (left_after left) true (having_sent x.terms left mic) AcceptCompleted (token_in turn) own
    list name m.0
    (of_message most (other_role role) side (side_in y) (having_sent x.terms left mic) (left_after left) true AcceptCompleted (token_in turn) own
    (sends_token left) mic (Some m.0) st (sends turn left p) s.there m.1)
    (record {
      x_list = yl;
      x_name = yn;
      y_list = xl;
      y_name = xn;
      at = s.at (left_after left) (items_in (token_in turn)) y.mechanism at;
      last = λ none. none_left turn left p none;
      made = λ k is. ((s.made k is).0, subst (λ l. mine.makes (s.made k is).0 l k.items c) xl (s.made k is).1);
      stands = tt;
    }))
concludes most sim X Y mine theirs at_x at_y pair role x y left true side list name context turn sight (Wait mic) n out xl xn yl yn st p at e d =
    absurd (nothing n e)
concludes most sim X Y mine theirs at_x at_y pair role x (afters.Complete y) left false side list name context turn sight (Wait mic) n out xl xn yl yn st p at e d =
    absurd st
concludes most sim X Y mine theirs at_x at_y pair role x (afters.Running y) left false side list name context turn sight (Wait mic) n out xl xn yl yn st p at e d =
    let c = d.1.0.0 in
    let own = d.1.0.1.0 in
    let s : Signed mine at_y x.list.items mic context c own = signed mine theirs at_x at_y pair.x_half mic x.list.items context c own d.1.0.1.1.0 in
    let m : (k : ℕ) × (follows most role side x.terms left false mic ≡ Some k) = uncounted (follows most role side x.terms left false mic) n e in
    subst (λ o. Follows (λ peer a sent. Ends most Y X theirs mine (other_role role) peer a sent) (afters.Running y) o) (sym (d.1.1 ∙ ap Ok d.1.0.1.1.1))
    (sim Y X theirs mine (flipped at_y) (flipped at_x) (turned_pair mine theirs at_x at_y pair) (other_role role) y
    (afters.Running (waiting (with_context x context) c (progress_in turn) mic)) (left_after left) false (having_sent x.terms left mic) AcceptIncomplete
    (token_in turn) own list name m.0
    (of_message most (other_role role) side (side_in y) (having_sent x.terms left mic) (left_after left) false AcceptIncomplete (token_in turn) own
    (sends_token left) mic (Some m.0) st (sends turn left p) s.there m.1)
    (record {
      x_list = yl;
      x_name = yn;
      y_list = xl;
      y_name = xn;
      at = s.at (left_after left) (items_in (token_in turn)) y.mechanism at;
      last = λ none. none_left turn left p none;
      made = λ k is. ((s.made k is).0, subst (λ l. mine.makes (s.made k is).0 l k.items c) xl (s.made k is).1);
      stands = ap (λ q. record {
        terms = record { preferred = x.terms.preferred; required = x.terms.required; sent = x.terms.sent || mic };
        first = false;
        established = not (continues q);
      }) (sym p);
    }))

-- ---- a message

taken_is : (role : Role) (terms : Terms) (established : Bool) (note : Note)
    → taken role (record { terms = terms; first = false; established = established }) note ≡ kept (after_later (reply_of note) established) terms
taken_is Initiator terms established note = refl
taken_is Acceptor terms established note = refl

decided_is : (role : Role) (terms : Terms) (p : Progress) (state : NegState) (token mic : Bool)
    → decided role (Ok terms) p (record { state = state; choice = choices.Absent; token = token; mic = mic })
    ≡ decides role terms false p (Some state) (mic_of mic p)
decided_is Initiator terms p state token mic = refl
decided_is Acceptor terms p state token mic = refl

refused_is : (role : Role) (rule : Rule) (p : Progress) (note : Note) → decided role (Err rule) p note ≡ Refuse rule
refused_is Initiator rule p note = refl
refused_is Acceptor rule p note = refl

-- the MIC that came holds, once the context is established
held : {X Y : Type 0} (mine : Meaning X) (theirs : Meaning Y) (at_x at_y : ℕ → Option (List ℕ) → X → Y → Type 0) → IsHalf mine theirs at_x at_y
    → (left : ℕ) (context : X) (y : Y) (turn : Turn) (own : Option (Vec ℕ Global)) (list : List ℕ) → progress_in turn ≡ progress_of left
    → at_y (left_after left) (items_in (token_in turn)) context y
    → ((mic : Vec ℕ Global) → own ≡ Some mic → (before : Y) × theirs.makes before list mic.items y)
    → (mic : Vec ℕ Global) → own ≡ Some mic → progress_in turn ≡ progress.Ends → mine.holds context list mic.items
held mine theirs at_x at_y half left context y turn own list p at made mic is ends =
    let left_is : left ≡ zero = ended_left left (sym p ∙ ends) in
    half.verifies context y (made mic is).0 list mic.items (made mic is).1
    (subst (λ t. at_y zero t context y) (ended_token turn ends)
    (subst (λ l. at_y (left_after l) (items_in (token_in turn)) context y) left_is at))

pub went : (most : ℕ) → Simulates most → (X Y : Type 0) (mine : Meaning X) (theirs : Meaning Y) (at_x at_y : ℕ → Option (List ℕ) → X → Y → Type 0)
    → IsPair mine theirs at_x at_y → (role : Role) (x : Running X) (y : After Y) (left : ℕ) (done : Bool) (side : Side) (state : NegState)
    (token own : Option (Vec ℕ Global)) (list name : List ℕ) (n : ℕ) (out : Outcome X) → x.list.items ≡ list → x.name.items ≡ name
    → list_of y ≡ list → name_of y ≡ name → Stands done y side → at_x left (items_in token) x.mechanism (context_of y)
    → ((mic : Vec ℕ Global) → own ≡ Some mic → (before : Y) × theirs.makes before list mic.items (context_of y))
    → (x.established ≡ true → (items_in token ≡ None) × (left ≡ zero)) → (x.established ≡ false → Goes left (items_in token))
    → after (follows most role side x.terms left) done (decides role x.terms false (progress_of left) (Some state) (mic_of (is_some own) (progress_of left)))
    ≡ Some n
    → GoesOn mine role x None (Some state) (items_in token) (items_in own) out
    → Follows (λ peer s sent. Ends most Y X theirs mine (other_role role) peer s sent) y out
went most sim X Y mine theirs at_x at_y pair role x y left done side state token own list name n out xl xn yl yn st at made rest_at goes_at e goes =
    elim goes [
      | inl memory ↦ subst (λ o. Follows (λ peer s sent. Ends most Y X theirs mine (other_role role) peer s sent) y o) (sym memory) refl
      | inr rest ↦ elim rest [
        | inl refused ↦ absurd (pair.x_half.takes left (items_in token) x.mechanism (context_of y) (goes_at refused.0) at refused.1.0)
        | inr step ↦
            let context = step.0 in
            let turn = step.1.0 in
            let t : (progress_in turn ≡ progress_of left) × at_y (left_after left) (items_in (token_in turn)) context (context_of y)
            = turned mine theirs at_x at_y pair.x_half x.established left token x.mechanism context (context_of y) turn rest_at goes_at at step.1.1.0 in
            let sight = step.1.1.1.0 in
            let seen : sight ≡ mic_of (is_some own) (progress_in turn)
            = sight_is (mine.holds context x.list.items) own (progress_in turn) sight step.1.1.1.1.0
            (λ mic is ends. subst (λ l. mine.holds context l mic.items) (sym xl)
            (held mine theirs at_x at_y pair.x_half left context (context_of y) turn own list t.0 t.1 made mic is ends)) in
            concludes most sim X Y mine theirs at_x at_y pair role x y left done side list name context turn sight
            (decides role x.terms false (progress_in turn) (Some state) sight) n out xl xn yl yn st t.0 t.1
            (subst (λ m. after (follows most role side x.terms left) done (decides role x.terms false (progress_in turn) (Some state) m) ≡ Some n) (sym seen)
            (subst (λ p. after (follows most role side x.terms left) done (decides role x.terms false p (Some state) (mic_of (is_some own) p)) ≡ Some n)
            (sym t.0) e)) step.1.1.1.1.1
      ]
    ]

-- the rules' count, where this is what is agreed on
abbrev pub counts : ℕ → Role → Side → Terms → ℕ → Bool → Note → Result Terms Rule → Option ℕ
counts most role side terms left done note agreed =
    after (λ finished mic. more most (other_role role) side (having_sent (terms_in agreed terms) left mic) (left_after left) finished
    (note_of (state_of finished) left mic)) done (decided role agreed (progress_of left) note)

by_verdict : (most : ℕ) → Simulates most → (X Y : Type 0) (mine : Meaning X) (theirs : Meaning Y) (at_x at_y : ℕ → Option (List ℕ) → X → Y → Type 0)
    → IsPair mine theirs at_x at_y → (role : Role) (x : Running X) (y : After Y) (left : ℕ) (done : Bool) (side : Side) (state : NegState)
    (token own : Option (Vec ℕ Global)) (list name : List ℕ) (n : ℕ) (out : Outcome X) (verdict : Result (Unit {0}) Rule)
    → Meets theirs at_x x y left done side token own list name
    → after_later (record { state = Some state; choice = choices.Absent; token = is_some token }) x.established ≡ verdict
    → counts most role side x.terms left done (note_in state token own) (kept verdict x.terms) ≡ Some n
    → LaterBy mine role x (saying state None token own) verdict out
    → Follows (λ peer s sent. Ends most Y X theirs mine (other_role role) peer s sent) y out
by_verdict most sim X Y mine theirs at_x at_y pair role x y left done side state token own list name n out (Err rule) meets is e later =
    absurd (nothing n (sym (ap (after (follows most role side x.terms left) done) (refused_is role rule (progress_of left) (note_in state token own))) ∙ e))
by_verdict most sim X Y mine theirs at_x at_y pair role x y left done side state token own list name n out (Ok u) meets is e later =
    went most sim X Y mine theirs at_x at_y pair role x y left done side state token own list name n out meets.x_list
    meets.x_name meets.y_list meets.y_name meets.stands meets.at meets.made
    (λ there. rest_of x.established token left (waits_for state (is_some token) x.established u is) meets.last there)
    (λ waits. goes_some left token (waits_some x.established token (waits_for state (is_some token) x.established u is) waits))
    (sym (ap (after (follows most role side x.terms left) done) (decided_is role x.terms (progress_of left) state (is_some token) (is_some own))) ∙ e) later

-- HONEST ENGINES DO WHAT THE RULES COUNT
pub simulate : (most : ℕ) → Simulates most
simulate zero X Y mine theirs at_x at_y pair role x y left done side state token own list name n e meets = absurd (nothing n e)
simulate (suc most) X Y mine theirs at_x at_y pair role x y left done side state token own list name n e meets = λ out later.
    by_verdict most (simulate most) X Y mine theirs at_x at_y pair role x y left done side state token own list name n out
    (after_later (record { state = Some state; choice = choices.Absent; token = is_some token }) x.established) meets refl
    (sym (ap (counts most role side x.terms left done (note_in state token own)) (taken_is role x.terms x.established (note_in state token own))) ∙ e) later
