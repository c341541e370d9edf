use Rattle.std.specs.Prelude.{Vec, not}
use Rattle.std.proofs.Common.{◌≡◌, ◌+◌, ◌++◌, ℕ, List, inl, inr, refl, take, drop, ap, ◌∙◌, true, arith}
use Rattle.std.proofs.lemmas.Bool.{MatchBool-at_false, MatchBool-at_true}
use Rattle.std.specs.declared.alloc.Global.{Global}
use Rattle.krb_show.specs.Tokens.{Token}
use Rattle.krb_show_negoex.specs.Negoex.{IsFollowed, IsMessageTold, list_tokens, own_length}
use Rattle.krb_show_negoex.proofs.Several.{all_told, appended, count_fits, one_more, several_error}
use Rattle.krb_show_negoex.proofs.page_of_several.Goals as goal

abbrev tokens : Vec Token Global → List Token
tokens page = page.items

pub returns-in-Err : goal.returns-in-Err
returns-in-Err c =
    let rest = c.loop-rest.rest.now in
    let so = c.loop-rest.invariant in
    let followed : IsFollowed rest = MatchBool-at_true (IsFollowed rest) (IsFollowed rest → ⊥) c.loop-rest-test.true c.is_followed.ensures in
    let first : c.split_at.result.0.now ≡ take (own_length rest) rest = c.split_at.ensures.front ∙ ap (λ (k : ℕ). take k rest) c.own_length.ensures in
    let e = c.page_of_message.ensures in
    let told : IsMessageTold true tokens c.split_at.result.0.now c.page_of_message.result = record { short = e.short; nego = e.nego; exchange = e.exchange; verify = e.verify; other = e.other } in
    several_error tokens c.args.octets.now so.pages rest c.split_at.result.0.now c.page_of_message.result c.in-Err.error so.before (inl (followed, first)) told c.in-Err.is

pub overflow_add-count : goal.overflow_add-count
overflow_add-count c = omega (arith, count_fits tokens c.args.octets.now c.loop-rest.rest.now c.loop-rest.items.items c.loop-rest.count c.loop-rest.invariant)

pub loop-rest-preserved : goal.loop-rest-preserved
loop-rest-preserved c =
    let rest = c.loop-rest.rest.now in
    let page = c.in-Ok.page in
    let followed : IsFollowed rest = MatchBool-at_true (IsFollowed rest) (IsFollowed rest → ⊥) c.loop-rest-test.true c.is_followed.ensures in
    let first : c.split_at.result.0.now ≡ take (own_length rest) rest = c.split_at.ensures.front ∙ ap (λ (k : ℕ). take k rest) c.own_length.ensures in
    let trailing : c.split_at.result.1.now ≡ drop (own_length rest) rest = c.split_at.ensures.back ∙ ap (λ (k : ℕ). drop k rest) c.own_length.ensures in
    let items : c.append.new.self.items ≡ c.loop-rest.items.items ++ page.items =
    appended c.append.result c.loop-rest.items.items page.items c.append.new.self.items c.append.ensures.items (c.is_err.ensures.negation ∙ ap not c.if-is_err.false) in
    let e = c.page_of_message.ensures in
    let told : IsMessageTold true tokens c.split_at.result.0.now c.page_of_message.result = record { short = e.short; nego = e.nego; exchange = e.exchange; verify = e.verify; other = e.other } in
    rw (trailing, items) (one_more tokens c.args.octets.now rest c.loop-rest.items.items c.loop-rest.count c.split_at.result.0.now c.page_of_message.result page c.loop-rest.invariant
    followed first told c.in-Ok.is)

pub returns-in-Err-page_of_message : goal.returns-in-Err-page_of_message
returns-in-Err-page_of_message c =
    let rest = c.loop-rest.rest.now in
    let so = c.loop-rest.invariant in
    let alone : IsFollowed rest → ⊥ = MatchBool-at_false (IsFollowed rest) (IsFollowed rest → ⊥) c.loop-rest-test.false c.is_followed.ensures in
    let e = c.page_of_message-2.ensures in
    let told : IsMessageTold true tokens rest c.page_of_message-2.result = record { short = e.short; nego = e.nego; exchange = e.exchange; verify = e.verify; other = e.other } in
    several_error tokens c.args.octets.now so.pages rest rest c.page_of_message-2.result c.in-Err-page_of_message.error so.before (inr (alone, refl)) told c.in-Err-page_of_message.is

pub overflow_add-count-2 : goal.overflow_add-count-2
overflow_add-count-2 c = omega (arith, count_fits tokens c.args.octets.now c.loop-rest.rest.now c.loop-rest.items.items c.loop-rest.count c.loop-rest.invariant)

pub returns-in-Ok-listed : goal.returns-in-Ok-listed
returns-in-Ok-listed c =
    let rest = c.loop-rest.rest.now in
    let last = c.in-Ok-page_of_message.page in
    let alone : IsFollowed rest → ⊥ = MatchBool-at_false (IsFollowed rest) (IsFollowed rest → ⊥) c.loop-rest-test.false c.is_followed.ensures in
    let items : c.append-2.new.self.items ≡ c.loop-rest.items.items ++ last.items =
    appended c.append-2.result c.loop-rest.items.items last.items c.append-2.new.self.items c.append-2.ensures.items (c.is_err-2.ensures.negation ∙ ap not c.if-is_err-2.false) in
    let e = c.page_of_message-2.ensures in
    let told : IsMessageTold true tokens rest c.page_of_message-2.result = record { short = e.short; nego = e.nego; exchange = e.exchange; verify = e.verify; other = e.other } in
    all_told tokens c.args.octets.now rest c.loop-rest.items.items c.loop-rest.count c.page_of_message-2.result last c.in-Ok-listed.page c.loop-rest.invariant alone told
    c.in-Ok-page_of_message.is (c.in-Ok-listed.ensures ∙ ap (list_tokens (c.loop-rest.count + 1)) items)
