-- What is sealed and opened under a prepared key: what its suite seals under the key and the usage that it was prepared for.
use Rattle.std.specs.Prelude.{ℕ, ℤ, List}
use Rattle.krb_crypto_message.specs.Sealing.{IsGiven}
use Rattle.krb_crypto.specs.BySuite.{IsSealed, confounder_octets_of}
use Rattle.krb_crypto.specs.PreparedKeys.{PreparedKeys}

-- under this confounder the payload is sealed to these octets (RFC 3961, 5.3)
abbrev pub IsSealedFor : List ℕ → ℤ → PreparedKeys → List ℕ → List ℕ → List ℕ → Type 0
IsSealedFor base usage prepared = IsSealed prepared.suite base usage

-- some confounder of the suite's length gives these octets for the payload
abbrev pub IsGivenFor : List ℕ → ℤ → PreparedKeys → List ℕ → List ℕ → Type 0
IsGivenFor base usage prepared octets = IsGiven (IsSealed prepared.suite base usage) (confounder_octets_of prepared.suite) octets
