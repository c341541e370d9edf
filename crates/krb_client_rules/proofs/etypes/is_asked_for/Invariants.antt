use Rattle.std.proofs.Common.{◌≡◌, ◌<◌, ℕ, pos, get_or}
use Rattle.krb_crypto.specs.Suites.{etype}
use Rattle.krb_crypto.specs.declared.cipher_suite.CipherSuite.{CipherSuite}
use Rattle.krb_client_rules.proofs.etypes.is_asked_for.Given as goal

abbrev pub invariant-loop-suite : goal.invariant-loop-suite
invariant-loop-suite l = (k : ℕ) (d : CipherSuite) → k < l.suite-index → l.number ≡ pos (etype (get_or l.suites k d)) → ⊥
