use Rattle.std.proofs.Common.{sym, ap, ◌∙◌, length}
use Rattle.krb_pac.proofs.Numbering.{length_numbered}
use Rattle.krb_pac.proofs.numbered.NumberedPacView.len.Goals as goal

pub returns : goal.returns
returns c = sym (length_numbered c.self.inside.octets.now c.self.inside.count) ∙ ap length c.self.view_is
