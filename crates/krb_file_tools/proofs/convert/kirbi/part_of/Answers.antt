use Rattle.std.proofs.Common.{inr, refl}
use Rattle.std.proofs.lemmas.Result.{IfErr-weaker}
use Rattle.krb_file_tools.specs.Whole.{other_etype, other_pvno, other_type}
use Rattle.krb_file_tools.proofs.Refusals.{no_true, or_memory, part_broken}
use Rattle.krb_file_tools.proofs.convert.kirbi.part_of.Goals as goal

pub returns-then-not-is_number-clause-rejected : goal.returns-then-not-is_number-clause-rejected
returns-then-not-is_number-clause-rejected g c = inr (other_pvno c.if-not-is_number.ensures)

pub returns-then-not-is_number-2-clause-rejected : goal.returns-then-not-is_number-2-clause-rejected
returns-then-not-is_number-2-clause-rejected g c = inr (other_type c.if-not-is_number.ensures c.if-not-is_number-2.ensures)

pub returns-then-not-is_number-3-clause-rejected : goal.returns-then-not-is_number-3-clause-rejected
returns-then-not-is_number-3-clause-rejected g c =
    inr (other_etype c.if-not-is_number.ensures c.if-not-is_number-2.ensures c.if-not-is_number-3.ensures)

pub returns-clause-rejected : goal.returns-clause-rejected
returns-clause-rejected g c =
    IfErr-weaker c.read.result _ _
    (λ e. or_memory e (part_broken g.P.DerEncode c.args.pvno.now c.args.msg_type.now c.args.etype.now c.args.cipher.now e
    c.if-not-is_number.ensures c.if-not-is_number-2.ensures c.if-not-is_number-3.ensures))
    c.read.ensures.rejected
