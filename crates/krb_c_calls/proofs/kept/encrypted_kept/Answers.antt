use Rattle.krb_c_calls.proofs.KeptAgain.{encrypted_again}
use Rattle.krb_c_calls.proofs.kept.encrypted_kept.Goals as goal

pub returns-clause-kept : goal.returns-clause-kept
returns-clause-kept c =
    encrypted_again c.in_ok-suite.suite c.args.kept.now (λ v. v.items) c.in_ok-suite.ensures c.args.confounder.now c.args.payload.now
    c.encrypted_under.result c.encrypted_under.ensures
