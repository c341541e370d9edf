-- Ke and Ki of the suite's lengths are taken.
use Rattle.std.proofs.Common.{◌≡◌, inl, inr, ℕ, List, length}
use Rattle.krb_crypto_hash.specs.declared.error.KerberosCryptoError.{KerberosCryptoError}
use Rattle.krb_crypto.specs.declared.cipher_suite.CipherSuite.{CipherSuite}
use Rattle.krb_crypto.specs.BySuite.{key_octets_of}
use Rattle.krb_crypto.specs.PreparedKeys.{RejectsMessageKeys, integrity_key_octets_of}

pub are_taken : (suite : CipherSuite) (ke ki : List ℕ) (e : KerberosCryptoError) → length ke ≡ key_octets_of suite → length ki ≡ integrity_key_octets_of suite
    → RejectsMessageKeys suite ke ki e → ⊥
are_taken suite ke ki e same_ke same_ki (inl h) = h.0 same_ke
are_taken suite ke ki e same_ke same_ki (inr h) = h.1.0 same_ki
