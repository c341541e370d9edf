use Rattle.std.proofs.Common.{◌≡◌, ◌∙◌, Some, ap, arith, length, refl, sym}
use Rattle.std.proofs.lemmas.Option.{slice_get_read}
use Rattle.std.specs.Prelude.{slice_get}
use Rattle.krb_c_negotiation.proofs.Contents.{contents-all, pushed}
use Rattle.krb_c_negotiation.specs.Mechanisms.{words}
use Rattle.krb_c_negotiation.proofs.mechanisms.all_of.Goals as goal

pub records-preserved : goal.records-preserved
records-preserved c =
    let at : c.len.result ≡ c.records.record-index = omega (arith, c.len.ensures, c.records.all.ok.0, c.records.invariant.1) in
    let is : slice_get c.args.lists.now c.len.result ≡ Some c.in-Some.list.now =
    slice_get_read c.args.lists.now (length c.args.lists.now) c.len.result c.in-Some.list.now refl c.in-Some.ensures.lookup.3.0
    c.in-Some.ensures.lookup.1 in
    let is_list : slice_get c.args.lists.now c.records.record-index ≡ Some c.deref.result.now =
    ap (slice_get c.args.lists.now) (sym at) ∙ is ∙ ap (λ x. Some x) (sym (c.deref.ensures.value ∙ c.list.view_is)) in
    pushed c.args.side.now c.args.spoken (words c.args.tale.now) c.args.lists.now c.args.tale.now.mechanisms.now c.records.record-index c.deref.result.now
    (record { number = 0; integrity = 0; is_bare = 0 }) c.records.all.items c.push.new.self.items c.in_ok-told.told c.records-test.true is_list
    c.records.invariant.0 c.records.invariant.1 c.in-Ok.ensures.items c.in_ok-told.ensures

pub returns-clause-all : goal.returns-clause-all
returns-clause-all c =
    c.records.invariant.0
    ∙ contents-all c.args.side.now c.args.spoken (words c.args.tale.now) c.args.lists.now c.args.tale.now.mechanisms.now c.records.record-index
    c.records-test.false
