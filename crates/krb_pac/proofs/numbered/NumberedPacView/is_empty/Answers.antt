use Rattle.std.proofs.Common.{ℕ, sym, ap, ◌∙◌, length, nat_eq}
use Rattle.krb_pac.proofs.Numbering.{length_numbered}
use Rattle.krb_pac.proofs.numbered.NumberedPacView.is_empty.Goals as goal

pub returns : goal.returns
returns c = ap (λ (n : ℕ). nat_eq n 0) (sym (length_numbered c.self.inside.octets.now c.self.inside.count) ∙ ap length c.self.view_is)
