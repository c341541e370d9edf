use Rattle.std.proofs.Common.{[], List, ap, arith, subst, sym, ◌∙◌}
use Rattle.krb_schema.specs.Rules.{AreBroken, all_told}
use Rattle.krb_schema.specs.declared.item.Item.{Item}
use Rattle.krb_schema.proofs.Contents.{broken_more, told_more}
use Rattle.krb_schema.proofs.rules.broken_rules.Goals as goal
use Rattle.krb_schema.proofs.rules.broken_rules.Goals.{then-not-obeys+in_ok-push, else-not-obeys}

pub items-init : goal.items-init
items-init c =
    record {
      within = omega arith;
      told = subst (λ (l : List Item). AreBroken c.args.octets.now [] l) (sym c.new-broken.ensures.items) all_told;
    }

pub items-preserved : goal.items-preserved
items-preserved c =
    let i = c.items.invariant in
    let octets = c.args.octets.now in
    let items = c.args.items.now in
    let bs = c.items.broken.items in
    let cs = c.if-not-obeys.broken.items in
    record {
      within = omega (arith, c.items-test.true);
      told = elim c.if-not-obeys.branch [
        | then-not-obeys+in_ok-push w ↦ broken_more octets items bs cs c.items.passed _ c.items-test.true (ap (λ v. v.items) w.broken-is ∙ w.in_ok-push.ensures.items) w.if-not-obeys.ensures i.told
        | else-not-obeys w ↦ told_more octets items bs cs c.items.passed _ c.items-test.true (ap (λ v. v.items) w.broken-is) w.if-not-obeys.ensures i.told
      ];
    }
