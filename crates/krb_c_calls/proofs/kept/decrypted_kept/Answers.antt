use Rattle.krb_c_calls.proofs.KeptAgain.{decrypted_again}
use Rattle.krb_c_calls.proofs.kept.decrypted_kept.Goals as goal

pub returns-clause-kept : goal.returns-clause-kept
returns-clause-kept c =
    decrypted_again c.in_ok-suite.suite c.args.kept.now (λ v. v.items) c.in_ok-suite.ensures c.args.sealed.now c.decrypted_under.result c.decrypted_under.ensures
