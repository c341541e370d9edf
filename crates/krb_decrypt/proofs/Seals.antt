-- What a prepared key says of the key that it was prepared from.
use Rattle.std.proofs.Common.{◌≡◌, ℕ, ◌<◌, ◌≤◌, ℤ, List, subst, sym, length, arith}
use Rattle.krb_crypto_message.specs.Sealing.{HasNoPayload, IsGiven, Opens}
use Rattle.krb_crypto.specs.BySuite.{IsSealed, confounder_octets_of, key_octets_of, padding_octets_of}
use Rattle.krb_crypto.specs.PreparedKeys.{IsPreparedFor, PreparedKeys}
use Rattle.krb_crypto.specs.declared.cipher_suite.CipherSuite.{CipherSuite}
use Rattle.krb_crypto.specs.declared.cipher_suite.CipherSuite.TheVariants as suites
use Rattle.krb_decrypt.specs.Keys.{Decrypts, HasZeros, NamedKey, IsSealedOf, SealsNone, zeros_of}

-- what is given under the prepared key is sealed under the key
pub sealed_of : (key : NamedKey) (usage : ℤ) (cipher payload : List ℕ) (k : PreparedKeys) → k.suite ≡ key.suite → IsPreparedFor key.octets usage k
    → IsGiven (IsSealed k.suite key.octets usage) (confounder_octets_of k.suite) cipher payload → IsSealedOf key usage cipher payload
sealed_of key usage cipher payload k same prepared given = record {
  size = subst (λ s. length key.octets ≡ key_octets_of s) same prepared.size;
  given = subst (λ s. IsGiven (IsSealed s key.octets usage) (confounder_octets_of s) cipher payload) same given;
}

-- and what is sealed under the key is given under the prepared key
given_of : (key : NamedKey) (usage : ℤ) (cipher payload : List ℕ) (k : PreparedKeys) → k.suite ≡ key.suite → IsSealedOf key usage cipher payload
    → IsGiven (IsSealed k.suite key.octets usage) (confounder_octets_of k.suite) cipher payload
given_of key usage cipher payload k same sealed =
    subst (λ s. IsGiven (IsSealed s key.octets usage) (confounder_octets_of s) cipher payload) (sym same) sealed.given

-- fewer zeros than a block has octets
few_of : (suite : CipherSuite) (zeros : ℕ) → zeros < padding_octets_of suite → zeros ≤ zeros_of suite
few_of suites.Aes128CtsHmacSha196 zeros h = omega (arith, h)
few_of suites.Aes256CtsHmacSha196 zeros h = omega (arith, h)
few_of suites.Des3CbcSha1Kd zeros h = omega (arith, h)
few_of suites.Aes128CtsHmacSha256128 zeros h = omega (arith, h)
few_of suites.Aes256CtsHmacSha384192 zeros h = omega (arith, h)

fewer_of : (suite : CipherSuite) (zeros : ℕ) → zeros ≤ zeros_of suite → zeros < padding_octets_of suite
fewer_of suites.Aes128CtsHmacSha196 zeros h = omega (arith, h)
fewer_of suites.Aes256CtsHmacSha196 zeros h = omega (arith, h)
fewer_of suites.Des3CbcSha1Kd zeros h = omega (arith, h)
fewer_of suites.Aes128CtsHmacSha256128 zeros h = omega (arith, h)
fewer_of suites.Aes256CtsHmacSha384192 zeros h = omega (arith, h)

-- what is opened is what the octets decrypt to
pub decrypts_of : (key : NamedKey) (usage : ℤ) (cipher opened : List ℕ) (k : PreparedKeys) → k.suite ≡ key.suite → IsPreparedFor key.octets usage k
    → Opens (padding_octets_of k.suite) (IsGiven (IsSealed k.suite key.octets usage) (confounder_octets_of k.suite) cipher) opened
    → Decrypts key usage cipher opened
decrypts_of key usage cipher opened k same prepared opens = record {
  exactly = λ payload. (there payload, back payload);
  some = sealed_of key usage cipher opened k same prepared ((opens.exactly opened).1 opens.whole);
}
  where
    there : (payload : List ℕ) → IsSealedOf key usage cipher payload → HasZeros (zeros_of key.suite) payload opened
    there payload sealed =
        let padding = (opens.exactly payload).0 (given_of key usage cipher payload k same sealed) in
        record {
          zeros = padding.zeros;
          few = subst (λ s. padding.zeros ≤ zeros_of s) same (few_of k.suite padding.zeros padding.fewer);
          concatenated = padding.concatenated;
        }

    back : (payload : List ℕ) → HasZeros (zeros_of key.suite) payload opened → IsSealedOf key usage cipher payload
    back payload has =
        sealed_of key usage cipher payload k same prepared ((opens.exactly payload).1 (record {
          zeros = has.zeros;
          fewer = fewer_of k.suite has.zeros (subst (λ s. has.zeros ≤ zeros_of s) (sym same) has.few);
          concatenated = has.concatenated;
          whole = opens.whole.whole;
        }))

-- what has no payload is sealed of nothing
pub none_of : (key : NamedKey) (usage : ℤ) (cipher : List ℕ) (k : PreparedKeys) → k.suite ≡ key.suite
    → HasNoPayload (IsSealed k.suite key.octets usage) (confounder_octets_of k.suite) cipher → SealsNone key usage cipher
none_of key usage cipher k same none = λ payload sealed. none payload (given_of key usage cipher payload k same sealed)
