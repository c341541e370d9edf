use Rattle.std.proofs.Common.{refl, sym}
use Rattle.std.specs.Prelude.{true}
use Rattle.krb_spnego.proofs.kerberos.turn_of.Goals as goal

pub returns-in-Ok-clause-made : goal.returns-in-Ok-clause-made
returns-in-Ok-clause-made c =
    (true, (c.if-not-wants_reply.ensures, rw (sym c.from_u32-integer.ensures) (c.in-Ok.token, (c.in-Ok.ensures.made, refl))))
