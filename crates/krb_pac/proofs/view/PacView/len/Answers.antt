use Rattle.std.proofs.Common.{sym, ap, ◌∙◌, length}
use Rattle.krb_pac.proofs.Viewed.{length_buffers}
use Rattle.krb_pac.proofs.view.PacView.len.Goals as goal

pub returns : goal.returns
returns c = sym (length_buffers c.self.inside.octets.now 0 c.self.inside.count) ∙ ap length c.self.view_is
