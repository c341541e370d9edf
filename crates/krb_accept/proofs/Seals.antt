-- What a prepared key says of the key that it was prepared from.
use Rattle.std.proofs.Common.{◌≡◌, ℕ, ℤ, List, length, subst, sym}
use Rattle.krb_crypto_message.specs.Sealing.{IsGiven}
use Rattle.krb_crypto.specs.BySuite.{IsSealed, confounder_octets_of, key_octets_of}
use Rattle.krb_crypto.specs.PreparedKeys.{IsPreparedFor, PreparedKeys}
use Rattle.krb_crypto.specs.declared.cipher_suite.CipherSuite.{CipherSuite}
use Rattle.krb_accept.specs.Opening.{IsSealedTo}

-- what is given under the prepared key is sealed under the key
pub sealed_of : (suite : CipherSuite) (key : List ℕ) (usage : ℤ) (octets payload : List ℕ) (k : PreparedKeys) → k.suite ≡ suite → IsPreparedFor key usage k
    → IsGiven (IsSealed k.suite key usage) (confounder_octets_of k.suite) octets payload → IsSealedTo suite key usage octets payload
sealed_of suite key usage octets payload k same prepared given = record {
  size = subst (λ s. length key ≡ key_octets_of s) same prepared.size;
  given = subst (λ s. IsGiven (IsSealed s key usage) (confounder_octets_of s) octets payload) same given;
}

-- and what is sealed under the key is given under the prepared key
pub given_of : (suite : CipherSuite) (key : List ℕ) (usage : ℤ) (octets payload : List ℕ) (k : PreparedKeys) → k.suite ≡ suite → IsSealedTo suite key usage octets payload
    → IsGiven (IsSealed k.suite key usage) (confounder_octets_of k.suite) octets payload
given_of suite key usage octets payload k same sealed =
    subst (λ s. IsGiven (IsSealed s key usage) (confounder_octets_of s) octets payload) (sym same) sealed.given
