use Rattle.std.proofs.Common.{◌≡◌, take}
use Rattle.std.specs.Prelude.{map}
use Rattle.krb_build.specs.Mechanisms.{arcs}
use Rattle.krb_build.proofs.messages.negotiation.mech_types.Given as goal

-- the object identifiers so far are there
abbrev pub invariant-loop-mechanism : goal.invariant-loop-mechanism
invariant-loop-mechanism l = l.types.items ≡ map arcs (take l.mechanism-index l.mechanisms)
