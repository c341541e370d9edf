use Rattle.std.proofs.Common.{◌≡◌, ◌<◌, length, get_or, take, ap, ◌∙◌, subst, arith}
use Rattle.std.proofs.lemmas.List.{take_all}
use Rattle.krb_negoex.specs.Parts.{AllOf}
use Rattle.krb_negoex.proofs.Steps.{fewer_left, none_left, more_known}
use Rattle.krb_negoex.proofs.vector.VecNegoexDataType.size.Goals as goal

pub sizes-preserved : goal.sizes-preserved
sizes-preserved g c =
    let T = g.T.Lay.layout in
    let items = c.args.self.now.items in
    let d : c.deref-element-items.result.now ≡ items = c.deref-element-items.ensures.value in
    let x = c.element-item.result in
    let e : x ≡ get_or items c.sizes.element-index x = c.element-item.is ∙ ap (λ z. get_or z c.sizes.element-index x) d in
    let h : c.sizes.element-index < length items = omega (arith, ap length d) in
    let n = c.saturating_add-size.ensures in (
      omega arith,
      fewer_left T.payload_size T.width items c.sizes.element-index x c.sizes.size c.size.result c.saturating_add-size.result _ h e c.size.ensures.size n c.sizes.invariant.1,
      more_known g.T.NegoexDataType.known items c.sizes.element-index x h e c.sizes.invariant.2 c.size.ensures.known,
    )

pub returns-clause-size : goal.returns-clause-size
returns-clause-size g c =
    let T = g.T.Lay.layout in
    let d : c.deref-element-items.result.now ≡ c.args.self.now.items = c.deref-element-items.ensures.value in
    none_left T.payload_size T.width c.args.self.now.items c.sizes.element-index c.sizes.size _ (omega (arith, ap length d)) c.sizes.invariant.0 c.sizes.invariant.1

pub returns-clause-known : goal.returns-clause-known
returns-clause-known g c =
    let items = c.args.self.now.items in
    let d : c.deref-element-items.result.now ≡ items = c.deref-element-items.ensures.value in
    let all : take c.sizes.element-index items ≡ items = take_all c.sizes.element-index items (omega (arith, ap length d)) in
    subst (AllOf g.T.NegoexDataType.known) all c.sizes.invariant.2
