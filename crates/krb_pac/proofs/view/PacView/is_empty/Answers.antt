use Rattle.std.proofs.Common.{ℕ, sym, ap, ◌∙◌, length, nat_eq}
use Rattle.krb_pac.proofs.Viewed.{length_buffers}
use Rattle.krb_pac.proofs.view.PacView.is_empty.Goals as goal

pub returns : goal.returns
returns c = ap (λ (n : ℕ). nat_eq n 0) (sym (length_buffers c.self.inside.octets.now 0 c.self.inside.count) ∙ ap length c.self.view_is)
