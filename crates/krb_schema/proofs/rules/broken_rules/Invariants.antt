use Rattle.std.proofs.Common.{length, ◌-◌, take, ◌≤◌}
use Rattle.krb_schema.specs.Rules.{AreBroken}
use Rattle.krb_schema.proofs.rules.broken_rules.Given as goal

abbrev pub invariant-items : goal.invariant-items
invariant-items l = record {
  within : l.passed ≤ length l.items;
  told : AreBroken l.octets (take l.passed l.items) l.broken.items;
}

abbrev pub decreases-items : goal.decreases-items
decreases-items l = length l.items - l.passed
