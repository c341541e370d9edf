-- What was made or refused, handed out.
use Rattle.std.proofs.Common.{◌≡◌, ℕ, ℤ, List, Result, Ok, Err, MatchResult, length, sym, ap, subst, inl, inr}
use Rattle.krb_crypto_hash.specs.CryptoError.{IsMemoryOr}
use Rattle.krb_crypto_hash.specs.declared.error.KerberosCryptoError.{KerberosCryptoError}
use Rattle.krb_crypto_message.specs.Sealing.{HasNoPayload}
use Rattle.krb_crypto.specs.declared.cipher_suite.CipherSuite.{CipherSuite}
use Rattle.krb_crypto.specs.BySuite.{IsSealed, key_octets_of, confounder_octets_of, error_of}
use Rattle.krb_crypto.specs.PreparedKeys.{PreparedKeys, IsPreparedFor}
use Rattle.krb_c_calls.specs.declared.call_error.CallError.{CallError}
use Rattle.krb_c_calls.specs.Numbers.{etype_number}
use Rattle.krb_c_calls.specs.Statuses.{crypto_status, refusal_status}
use Rattle.krb_c_calls.specs.Handing.{IsPut, IsRefused, IsAnswered, IsHandedOut}
use Rattle.krb_c_calls.specs.Calls.{IsDecryptionBy, RefusesDecryptionBy, IsDecryption, RefusesDecryption}

pub answered : {V : Type 0} (made : Result V CallError) (items : V → List ℕ) (is_right : List ℕ → Type 0) (refuses : ℕ → Type 0)
    (before after : List ℕ) (size status : ℕ)
    → MatchResult made (λ v. is_right (items v)) (λ e. refuses (refusal_status e))
    → MatchResult made (λ v. IsPut (items v) before after size status) (λ e. IsRefused e before after size status)
    → IsAnswered is_right refuses before after size status
answered (Ok v) items is_right refuses before after size status right put = inl (items v, right, put)
answered (Err e) items is_right refuses before after size status right kept = inr (kept.1, subst refuses (sym kept.0) right, kept.2)

-- the same, whatever was made
pub handed_out : {V : Type 0} (made : Result V CallError) (items : V → List ℕ) (before after : List ℕ) (size status : ℕ)
    → MatchResult made (λ v. IsPut (items v) before after size status) (λ e. IsRefused e before after size status)
    → IsHandedOut before after size status
handed_out (Ok v) items before after size status put = inl (items v, tt, put)
handed_out (Err e) items before after size status kept = inr (kept.1, tt, kept.2)

-- a decryption's error that is not for want of memory is the suite's
pub refused_decryption : (suite : CipherSuite) (key : List ℕ) (usage : ℤ) (octets : List ℕ) (e : KerberosCryptoError) → length key ≡ key_octets_of suite
    → IsMemoryOr e (HasNoPayload (IsSealed suite key usage) (confounder_octets_of suite) octets) → IsMemoryOr e (e ≡ error_of suite key octets)
    → RefusesDecryptionBy suite key usage octets (crypto_status e)
refused_decryption suite key usage octets e right (inl memory) exact = inr (inl (right, ap crypto_status memory))
refused_decryption suite key usage octets e right (inr none) (inl memory) = inr (inl (right, ap crypto_status memory))
refused_decryption suite key usage octets e right (inr none) (inr exact) = inr (inr (right, none, ap crypto_status exact))

-- the same of a prepared key
pub refused_prepared : (suite : CipherSuite) (key : List ℕ) (usage : ℤ) (octets : List ℕ) (k : PreparedKeys) (e : KerberosCryptoError) → k.suite ≡ suite → IsPreparedFor key usage k
    → (IsPreparedFor key usage k → IsMemoryOr e (HasNoPayload (IsSealed k.suite key usage) (confounder_octets_of k.suite) octets))
    → (IsPreparedFor key usage k → IsMemoryOr e (e ≡ error_of k.suite key octets)) → RefusesDecryptionBy suite key usage octets (crypto_status e)
refused_prepared suite key usage octets k e is prepared none exact =
    subst (λ s. RefusesDecryptionBy s key usage octets (crypto_status e)) is (refused_decryption k.suite key usage octets e prepared.size (none prepared) (exact prepared))

-- the suite of a number decrypts
pub decrypted_by_number : {V : Type 0} (number : ℤ) (key : List ℕ) (usage : ℤ) (octets : List ℕ) (suite : CipherSuite) (made : Result V CallError) (items : V → List ℕ) → etype_number suite ≡ number
    → MatchResult made (λ v. IsDecryptionBy suite key usage octets (items v)) (λ e. RefusesDecryptionBy suite key usage octets (refusal_status e))
    → MatchResult made (λ v. IsDecryption number key usage octets (items v)) (λ e. RefusesDecryption number key usage octets (refusal_status e))
decrypted_by_number number key usage octets suite (Ok v) items is made = (suite, is, made)
decrypted_by_number number key usage octets suite (Err e) items is made = inr (suite, is, made)
