-- The key of a token, as C names it.
use Rattle.std.specs.Prelude.{◌≡◌, ◌≢◌, ◌⊎◌, ℕ, ℤ, Bool, true, false, List, length}
use Rattle.krb_c_calls.specs.Numbers.{etype_number}
use Rattle.krb_crypto.specs.BySuite.{key_octets_of}
use Rattle.krb_crypto.specs.declared.cipher_suite.CipherSuite.{CipherSuite}
use Rattle.krb_gss_per_message.specs.Keys.{Key, IsNewer, IsTokenKey}
use Rattle.krb_gss_per_message.specs.declared.key.Sender.{Sender}
use Rattle.krb_gss_per_message.specs.declared.key.Sender.TheVariants.{Initiator, Acceptor}

abbrev pub sender_of : Bool → Sender
sender_of false = Initiator
sender_of true = Acceptor

-- The key is of the suite of this number, has these octets, as many as the suite's keys have, and sends as these say.
pub record IsKeyOf (number : ℤ) (octets : List ℕ) (sent_by_acceptor acceptor_subkey : Bool) (key : Key) : Type 0 where
  pub number_is : etype_number key.suite ≡ number
  pub valid : IsTokenKey key.suite octets
  pub octets_are : key.octets ≡ octets
  pub sender : key.sender ≡ sender_of sent_by_acceptor
  pub subkey : key.acceptor_subkey ≡ acceptor_subkey

-- No suite whose tokens RFC 4121 defines has the number (3); else the key has another length (5).
abbrev pub RefusesKey : ℤ → List ℕ → ℕ → Type 0
RefusesKey number octets status =
    (((suite : CipherSuite) → IsNewer suite → etype_number suite ≡ number → ⊥) × (status ≡ 3))
    ⊎ ((suite : CipherSuite) × IsNewer suite × (etype_number suite ≡ number) × (length octets ≢ key_octets_of suite) × (status ≡ 5))
