use Rattle.std.proofs.Common.{◌∙◌}
use Rattle.krb_client.proofs.keys.secret.kept_key.Goals as goal

pub returns-clause-made : goal.returns-clause-made
returns-clause-made c = (c.cipher_type.ensures, (c.in-Some.key.now, c.in-Some.ensures, c.in_ok-from_slice.ensures.items ∙ c.as_slice.ensures.value))
