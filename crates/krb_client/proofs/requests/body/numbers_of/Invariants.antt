use Rattle.std.proofs.Common.{◌≡◌, take}
use Rattle.std.specs.Prelude.{map}
use Rattle.krb_client.specs.Bodies.{number_of}
use Rattle.krb_client.proofs.requests.body.numbers_of.Given as goal

-- the numbers so far are there
abbrev pub invariant-loop-suite : goal.invariant-loop-suite
invariant-loop-suite l = l.numbers.items ≡ map number_of (take l.suite-index l.suites)
