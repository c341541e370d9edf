-- What an exchange keeps between two messages.
use Rattle.std.proofs.Common.{◌≡◌, ◌∙◌, ◌≤◌, ℕ, List, length, take, drop, replicate, ap, arith}
use Rattle.std.proofs.lemmas.List.{take-append-le, take_all}
use Rattle.krb_crypto.specs.BySuite.{key_octets_of}
use Rattle.krb_crypto.specs.declared.cipher_suite.CipherSuite.{CipherSuite}
use Rattle.krb_crypto.specs.declared.cipher_suite.CipherSuite.TheVariants as suites
use Rattle.krb_c_client.specs.Exchanges.{padded}

-- no key has more than 32 octets
pub fits : (suite : CipherSuite) → key_octets_of suite ≤ 32
fits suites.Des3CbcSha1Kd = omega (arith)
fits suites.Aes128CtsHmacSha196 = omega (arith)
fits suites.Aes128CtsHmacSha256128 = omega (arith)
fits suites.Aes256CtsHmacSha196 = omega (arith)
fits suites.Aes256CtsHmacSha384192 = omega (arith)

pub octets_read : (octets : List ℕ) (n : ℕ) → n ≤ 32 → length octets ≡ n → take n (padded octets) ≡ octets
octets_read octets n within size =
    let whole : take 32 octets ≡ octets = take_all 32 octets (omega (arith, within, size)) in
    take-append-le n (take 32 octets) (drop (length (take 32 octets)) (replicate 32 0)) (omega (arith, size, ap length whole))
    ∙ ap (take n) whole ∙ take_all n octets (omega (arith, size))
