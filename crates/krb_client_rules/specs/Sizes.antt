-- How many octets a session key has (RFC 3961, 5.3), and how many flags a ticket (RFC 4120, 5.2.8).
use Rattle.std.specs.Prelude.{◌≡◌, ◌≤◌, ◌+◌, ◌*◌, ℕ, ℤ, pos, List, length}
use Rattle.krb_crypto.specs.BySuite.{key_octets_of}
use Rattle.krb_crypto.specs.Suites.{etype}
use Rattle.krb_crypto.specs.declared.cipher_suite.CipherSuite.{CipherSuite}
use Rattle.krb_der_core.specs.BitString.{Bits}

-- the number is the encryption type of a suite, and the octets are as many as its keys have
pub record HasKeySize (number : ℤ) (octets : List ℕ) : Type 0 where
  pub suite : CipherSuite
  pub of_suite : number ≡ pos (etype suite)
  pub size : length octets ≡ key_octets_of suite

-- at least 32 bits are used
abbrev pub HasFlags : Bits → Type 0
HasFlags flags = 32 + flags.spare ≤ 8 * length flags.octets
