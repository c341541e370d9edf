use Rattle.std.proofs.Common.{refl, inl}
use Rattle.krb_decrypt.proofs.parts.outcome_of.Goals as goal

pub returns-in-Some : goal.returns-in-Some
returns-in-Some c =
    let clear = rw c.in-Some.is at c.in_ok-clear.ensures in
    inl (clear.0, (c.in-Some.part, refl, clear.1))
