use Rattle.std.proofs.Common.{sym, ap, ◌∙◌, length}
use Rattle.krb_negoex.specs.View.{scheme_of}
use Rattle.krb_negoex.proofs.Viewed.{length_elements}
use Rattle.krb_negoex.proofs.view.AuthSchemesView.len.Goals as goal

pub returns : goal.returns
returns c = sym (length_elements scheme_of 16 c.self.inside.message.now c.self.inside.offset c.self.inside.count) ∙ ap length c.self.view_is
