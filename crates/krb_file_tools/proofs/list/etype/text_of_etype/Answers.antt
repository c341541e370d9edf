use Rattle.std.proofs.Common.{◌≡◌, subst, sym, arith, to_z, of_z, w64}
use Rattle.std.proofs.lemmas.Grind.{common_steps}
use Rattle.krb_file_tools.proofs.Printable.{printable_row}
use Rattle.krb_show_text.specs.Text.{ArePrintable}
use Rattle.krb_file_tools.proofs.list.etype.text_of_etype.Goals as goal

pub returns-in_ok-extend_from_slice-in-Some-clause-printable : goal.returns-in_ok-extend_from_slice-in-Some-clause-printable
returns-in_ok-extend_from_slice-in-Some-clause-printable c =
    let e : c.extend_from_slice.new.self.items ≡ c.in-Some.name.now = grind (arith, common_steps) in
    subst ArePrintable (sym e) (printable_row c.names_are_plain.ensures.names (to_z w64 (of_z w64 c.args.number)) c.in-Some.name.now c.in-Some.ensures.named)
