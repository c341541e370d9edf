use Rattle.std.proofs.Common.{◌≡◌, sym, ap, ◌∙◌, length, arith}
use Rattle.std.proofs.lemmas.Option.{slice_get_past}
use Rattle.krb_negoex.specs.GuidLayout.{guid}
use Rattle.krb_negoex.specs.View.{scheme_of}
use Rattle.krb_negoex.proofs.Viewed.{length_elements, looked_up}
use Rattle.krb_negoex.proofs.view.AuthSchemesView.get.Goals as goal

pub returns-then-n-self : goal.returns-then-n-self
returns-then-n-self c =
    let long : c.self.inside.count ≡ length c.args.self.now = sym (length_elements scheme_of 16 c.self.inside.message.now c.self.inside.offset c.self.inside.count) ∙ ap length c.self.view_is in
    sym (slice_get_past c.args.self.now c.args.n (omega arith))

pub returns : goal.returns
returns c =
    c.ok.ensures.value ∙ looked_up guid scheme_of (λ f m v x. x.value) c.self.inside.message.now c.octets_from.result.now c.self.inside.offset c.args.n c.self.inside.count c.args.self.now c.scheme_view.result c.self.view_is c.if-n-self.false
    c.self.invariant.2 c.octets_from.ensures c.scheme_view.ensures.found c.scheme_view.ensures.rejected c.scheme_view.ensures.memory
