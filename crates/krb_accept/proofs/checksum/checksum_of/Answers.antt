use Rattle.std.proofs.Common.{ℕ, sym, subst, ◌∙◌}
use Rattle.krb_accept.specs.Layout.{Delegates}
use Rattle.krb_accept.proofs.checksum.checksum_of.Goals as goal

pub returns-in_default : goal.returns-in_default
returns-in_default c = λ b d e f h.
    c.in_default.ensures d e (subst (λ (n : ℕ). Delegates c.args.octets.now n d e) (h.flags_are ∙ sym c.number_32-flags.ensures) h.delegates)
