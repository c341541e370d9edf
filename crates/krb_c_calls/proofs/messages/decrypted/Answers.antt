use Rattle.std.proofs.lemmas.Int.{to_z-of_z}
use Rattle.krb_c_calls.proofs.Answered.{decrypted_by_number}
use Rattle.krb_c_calls.proofs.messages.decrypted.Goals as goal

pub returns : goal.returns
returns c =
    let etype = c.ranges.etype in let usage = c.ranges.usage in
    decrypted_by_number c.args.etype c.args.key.now c.args.usage c.args.sealed.now c.in_ok-suite.suite c.decrypted_by.result (λ v. v.items)
    (simp to_z-of_z at c.in_ok-suite.ensures) (simp to_z-of_z at c.decrypted_by.ensures)
