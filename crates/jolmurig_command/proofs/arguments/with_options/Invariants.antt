use Rattle.std.proofs.Common.{◌≡◌, length, map}
use Rattle.std.specs.String.{string_bytes}
use Rattle.jolmurig_command.specs.Arguments.{options_of}
use Rattle.jolmurig_command.proofs.arguments.with_options.Given as goal

abbrev pub invariant-options : goal.invariant-options
invariant-options l = options_of l.asked (map string_bytes l.rest) ≡ options_of l.fn.show (map string_bytes l.words)

abbrev pub decreases-options : goal.decreases-options
decreases-options l = length l.rest
