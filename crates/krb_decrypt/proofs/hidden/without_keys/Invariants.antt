use Rattle.std.proofs.Common.{◌≡◌}
use Rattle.krb_decrypt.specs.Hidden.{hidden_page, is_clear_behind}
use Rattle.krb_decrypt.proofs.hidden.without_keys.Given as goal

abbrev pub invariant-tokens : goal.invariant-tokens
invariant-tokens l = (l.made.items ≡ hidden_page l.yielded) × (l.is_clear ≡ is_clear_behind l.yielded)
