-- What octets ask, beside the step of the machine.
use Rattle.std.proofs.Common.{◌≡◌, ℕ, List, Bool, true, false, Option, Some, None, Result, Ok, Err, refl, subst, sym}
use Rattle.std.specs.Prelude.{Vec, find, if◌then◌else◌}
use Rattle.std.specs.declared.alloc.Global.{Global}
use Rattle.krb_spnego_rules.specs.AcceptorSteps.{IsOffered, OfferedBy}
use Rattle.krb_spnego_rules.specs.Fields.{items_in, reply_in}
use Rattle.krb_spnego_rules.specs.InitiatorSteps.{Replied, RepliedBy, picks, picks_other}
use Rattle.krb_spnego_rules.specs.Messages.{after_later}
use Rattle.krb_spnego_rules.specs.Steps.{Later, LaterBy, Outcome}
use Rattle.krb_spnego_rules.specs.declared.acceptor.Fresh.{Fresh}
use Rattle.krb_spnego_rules.specs.declared.initiator.Offered.{Offered}
use Rattle.krb_spnego_rules.specs.declared.message.Message.{Message}
use Rattle.krb_spnego_rules.specs.declared.message.Proposal.{Proposal}
use Rattle.krb_spnego_rules.specs.declared.side.Running.{Running}
use Rattle.krb_spnego_rules.specs.declared.words.Choice.{Choice}
use Rattle.krb_spnego_rules.specs.declared.words.Choice.TheVariants as choices
use Rattle.krb_spnego_rules.specs.declared.words.Role.{Role}
use Rattle.krb_spnego_rules.specs.declared.words.Rule.{Rule}
use Rattle.krb_spnego_rules.specs.declared.words.Terms.{Terms}
use Rattle.krb_spnego.specs.Agreeing.{FirstReplyAgrees, LaterAgrees, OfferAgrees, offered_name}
use Rattle.krb_spnego.specs.Asking.{first_reply_asked, first_reply_asks, first_reply_asks_by, later_asked, later_asks, offer_asked, offer_asks, pick_in, pick_other, place_in}
use Rattle.krb_spnego.specs.Told.{is_told_name, told_meaning}
use Rattle.krb_spnego.specs.declared.told.Told.{Told}

later_by : (role : Role) (side : Running Told) (message : Message) (out : Outcome Told) (checked : Result (Unit {0}) Rule)
    → LaterBy told_meaning role side message checked out → LaterAgrees role side message out (later_asked checked side message)
later_by role side message out (Err rule) h = h
later_by role side message out (Ok u) h = (record { mechanism = refl; steps_is = refl; token_is = refl; mic_is = refl }, h)

pub later_agrees : (role : Role) (side : Running Told) (message : Message) (out : Outcome Told) → Later told_meaning role side message out
    → LaterAgrees role side message out (later_asks side message)
later_agrees role side message out h = later_by role side message out (after_later (reply_in message) side.established) h

offer_by : (name : Option (Vec ℕ Global)) (proposal : Proposal) (out : Outcome Told) (found : Option Told) (checked : Result Terms Rule)
    → OfferedBy told_meaning proposal name found checked out → OfferAgrees name proposal out (offer_asked checked (place_in found) proposal)
offer_by name proposal out found (Err rule) h = h
offer_by name proposal out None (Ok terms) h = h
offer_by name proposal out (Some m) (Ok terms) h =
    (m, (terms, (record { mechanism = refl; steps_is = refl; token_is = refl; mic_is = refl }, (refl, h))))

pub offer_agrees : (fresh : Fresh Told) (proposal : Proposal) (out : Outcome Told) → IsOffered told_meaning fresh proposal out
    → OfferAgrees (offered_name fresh proposal) proposal out (offer_asks fresh proposal)
offer_agrees fresh proposal out h = offer_by (offered_name fresh proposal) proposal out _ _ h

-- the mechanism that a first reply names, by its place
other_placed : (found : Option Told) → pick_other found ≡ ((picks_other told_meaning found).0, place_in (picks_other told_meaning found).1)
other_placed None = refl
other_placed (Some m) = refl

first_placed : (offered : Offered Told) (name : List ℕ) (named : Bool)
    → (let a : Choice × Option ℕ = (choices.Preferred offered.first.integrity, Some offered.first.place) in
    let b : Choice × Option Told = (choices.Preferred offered.first.integrity, Some offered.first) in
    let other = find (λ m. is_told_name m name) offered.others.items in
    (if named then a else pick_other other)
    ≡ ((if named then b else picks_other told_meaning other).0, place_in (if named then b else picks_other told_meaning other).1))
first_placed offered name true = refl
first_placed offered name false = other_placed (find (λ m. is_told_name m name) offered.others.items)

placed : (offered : Offered Told) (named : Option (List ℕ))
    → pick_in offered named
    ≡ ((picks told_meaning offered.first offered.others.items named).0, place_in (picks told_meaning offered.first offered.others.items named).1)
placed offered None = refl
placed offered (Some name) = first_placed offered name (is_told_name offered.first name)

first_by : (established : Bool) (list : Vec ℕ Global) (message : Message) (out : Outcome Told) (found : Option Told) (checked : Result Terms Rule)
    → RepliedBy told_meaning established list message found checked out
    → FirstReplyAgrees established list message out (first_reply_asked checked (place_in found) established message)
first_by established list message out found (Err rule) h = h
first_by established list message out None (Ok terms) h = h
first_by established list message out (Some m) (Ok terms) h =
    (m, (terms, (record { mechanism = refl; steps_is = refl; token_is = refl; mic_is = refl }, h)))

pub first_reply_agrees : (offered : Offered Told) (message : Message) (out : Outcome Told) → Replied told_meaning offered message out
    → FirstReplyAgrees offered.established offered.list message out (first_reply_asks offered message)
first_reply_agrees offered message out h =
    subst (λ pick. FirstReplyAgrees offered.established offered.list message out (first_reply_asks_by pick offered.established message))
    (sym (placed offered (items_in message.mechanism)))
    (first_by offered.established offered.list message out _ _ h)
