use Rattle.std.proofs.Common.{sym, ◌∙◌}
use Rattle.krb_pac.specs.declared.kind.PacBufferType.TheVariants.{ServerChecksum, KdcChecksum, FullPacChecksum}
use Rattle.krb_pac_signatures.proofs.Inside.{placed_inside}
use Rattle.krb_pac_signatures.proofs.signatures.PacSignatures.new.Goals as goal

pub invariant_of-result : goal.invariant_of-result
invariant_of-result c = (
  λ p e. placed_inside c.args.octets.now c.in_ok-pac.pac ServerChecksum p c.in_ok-pac.ensures.found (sym c.in_ok-server.ensures.ok.0 ∙ e),
  λ p e. placed_inside c.args.octets.now c.in_ok-pac.pac KdcChecksum p c.in_ok-pac.ensures.found (sym c.in_ok-kdc.ensures.ok.0 ∙ e),
  λ p e. placed_inside c.args.octets.now c.in_ok-pac.pac FullPacChecksum p c.in_ok-pac.ensures.found (sym c.in_ok-full.ensures.ok.0 ∙ e),
)
