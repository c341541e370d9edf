use Rattle.std.proofs.Common.{ap, arith}
use Rattle.krb_messages.specs.declared.messages.errors.KrbErrorInner.{KrbErrorInner}
use Rattle.krb_messages.proofs.CodeTexts.{code_written}
use Rattle.krb_messages.proofs.messages.error_text.KrbErrorInnerDisplay.fmt.Goals as goal

pub returns-clause-writes : goal.returns-clause-writes
returns-clause-writes g c =
    let same = ap (λ (e : KrbErrorInner). e.error_code) c.self.view_is in
    let text = code_written c.args.self.now.error_code (omega (arith, same)) in
    rw (c.laid_out.ensures, c.in_radix.ensures, same, text) at c.write.ensures.writes
