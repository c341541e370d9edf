use Rattle.krb_pac.proofs.Numbering.{AreThere}
use Rattle.krb_pac.proofs.numbered.NumberedPacView.new.Given as goal

abbrev pub invariant-entries : goal.invariant-entries
invariant-entries l = AreThere l.octets l.n
