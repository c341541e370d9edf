use Rattle.std.proofs.Common.{◌≡◌, length, map}
use Rattle.std.specs.String.{string_bytes}
use Rattle.jolmurig_command.specs.AcceptArguments.{accept_options}
use Rattle.jolmurig_command.proofs.parse_accept.accept_options.Given as goal

abbrev pub invariant-options : goal.invariant-options
invariant-options l = accept_options l.so_far (map string_bytes l.rest) ≡ accept_options l.fn.asked (map string_bytes l.words)

abbrev pub decreases-options : goal.decreases-options
decreases-options l = length l.rest
