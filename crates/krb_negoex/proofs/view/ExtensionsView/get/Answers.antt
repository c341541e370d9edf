use Rattle.std.proofs.Common.{◌≡◌, sym, ap, ◌∙◌, length, arith}
use Rattle.std.proofs.lemmas.Option.{slice_get_past}
use Rattle.krb_negoex.specs.View.{extension_view_layout}
use Rattle.krb_negoex.specs.View.{extension_of}
use Rattle.krb_negoex.proofs.Viewed.{length_elements, looked_up, is_extension}
use Rattle.krb_negoex.proofs.view.ExtensionsView.get.Goals as goal

pub returns-then-n-self : goal.returns-then-n-self
returns-then-n-self c =
    let long : c.self.inside.count ≡ length c.args.self.now = sym (length_elements extension_of 12 c.self.inside.message.now c.self.inside.offset c.self.inside.count) ∙ ap length c.self.view_is in
    sym (slice_get_past c.args.self.now c.args.n (omega arith))

pub returns : goal.returns
returns c =
    c.ok.ensures.value ∙ looked_up extension_view_layout extension_of is_extension c.self.inside.message.now c.octets_from.result.now c.self.inside.offset c.args.n c.self.inside.count c.args.self.now c.extension_view.result c.self.view_is c.if-n-self.false
    c.self.invariant.2 c.octets_from.ensures c.extension_view.ensures.found c.extension_view.ensures.rejected c.extension_view.ensures.memory
