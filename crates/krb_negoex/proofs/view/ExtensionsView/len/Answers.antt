use Rattle.std.proofs.Common.{sym, ap, ◌∙◌, length}
use Rattle.krb_negoex.specs.View.{extension_of}
use Rattle.krb_negoex.proofs.Viewed.{length_elements}
use Rattle.krb_negoex.proofs.view.ExtensionsView.len.Goals as goal

pub returns : goal.returns
returns c = sym (length_elements extension_of 12 c.self.inside.message.now c.self.inside.offset c.self.inside.count) ∙ ap length c.self.view_is
