use Rattle.std.proofs.Common.{◌≡◌, ◌<◌, ◌≤◌, ℕ, true}
use Rattle.std.specs.Prelude.{Contains}
use Rattle.krb_types.specs.Flags.{is_set}
use Rattle.krb_client_rules.proofs.part.are_allowed.Given as goal

abbrev pub invariant-loop-number : goal.invariant-loop-number
invariant-loop-number l = (n : ℕ) → 1 ≤ n → n < l.number-counter → is_set l.flags.octets n ≡ true → Contains l.allowed n
