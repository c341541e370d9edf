use Rattle.std.proofs.Common.{◌∙◌}
use Rattle.krb_c_calls.proofs.KeptAgain.{sealed_again}
use Rattle.krb_c_calls.proofs.kept.encrypted_under.Goals as goal

pub returns : goal.returns
returns c =
    sealed_again c.args.suite.now c.args.kept.now _ _ c.in_ok-prepared.prepared (c.key_size.ensures, c.integrity_key_size.ensures.size, c.in_ok-prepared.ensures.made)
    c.args.confounder.now c.args.payload.now c.in_ok-encrypt.field-0.items (c.if-confounder-confounder_size.false ∙ c.confounder_size.ensures) c.in_ok-encrypt.ensures.sealed
