use Rattle.std.proofs.Common.{suc, arith}
use Rattle.std.proofs.lemmas.Bool.{MatchBool-at_false, MatchBool-at_true}
use Rattle.krb_show_negoex.specs.Negoex.{IsFollowed}
use Rattle.krb_show_negoex.proofs.NegoexPlaces.{one_message}
use Rattle.krb_show_negoex.proofs.places.push_messages.Goals as goal

pub messages-init : goal.messages-init
messages-init c = record { goes_on = λ n new h. (n, h); within = omega arith }

pub messages-preserved : goal.messages-preserved
messages-preserved c =
    let rest = c.messages.rest.now in
    let so = c.messages.invariant in
    let followed : IsFollowed rest = MatchBool-at_true (IsFollowed rest) (IsFollowed rest → ⊥) c.messages-test.true c.is_followed.ensures in
    let e = c.in_ok-push_message.ensures in
    record {
      goes_on = λ n new h. so.goes_on (suc n) new (one_message n c.messages.base c.own_length-size.result rest c.split_at.result.0.now c.split_at.result.1.now
          c.messages.places.items c.push_message.new.places.items new followed c.own_length-size.ensures c.split_at.ensures.front c.split_at.ensures.back
          (record { short = e.short; nego = e.nego; exchange = e.exchange; verify = e.verify; other = e.other }) h);
      within = grind (arith, so.within);
    }

pub returns : goal.returns
returns c =
    let rest = c.messages.rest.now in
    let alone : IsFollowed rest → ⊥ = MatchBool-at_false (IsFollowed rest) (IsFollowed rest → ⊥) c.messages-test.false c.is_followed.ensures in
    let e = c.in_ok-push_message-2.ensures in
    c.messages.invariant.goes_on 0 c.push_message-2.new.places.items
    (alone, record { short = e.short; nego = e.nego; exchange = e.exchange; verify = e.verify; other = e.other })
