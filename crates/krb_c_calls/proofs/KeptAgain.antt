-- A kept key is prepared again, as the one that it was derived from.
use Rattle.std.proofs.Common.{◌≡◌, ◌-◌, ◌++◌, ℕ, ℤ, List, Result, Ok, Err, MatchResult, length, take, drop, replicate, sym, ap, subst, ◌∙◌, inr, le_refl}
use Rattle.std.proofs.lemmas.List.{drop-replicate}
use Rattle.std.proofs.lemmas.Slice.{drop-append-drop}
use Rattle.krb_crypto_message.specs.Sealing.{IsTheOne, IsGiven, Opens}
use Rattle.krb_crypto.specs.BySuite.{IsSealed, key_octets_of, confounder_octets_of, padding_octets_of}
use Rattle.krb_crypto.specs.PreparedKeys.{PreparedKeys, IsPreparedFor, integrity_key_octets_of}
use Rattle.krb_crypto.specs.declared.cipher_suite.CipherSuite.{CipherSuite}
use Rattle.krb_c_calls.specs.Calls.{IsEncryption, IsEncryptionBy, RefusesEncryption, RefusesEncryptionBy, IsDecryption, IsDecryptionBy, RefusesDecryption, RefusesDecryptionBy}
use Rattle.krb_c_calls.specs.Kept.{IsKeptBy, IsKeptKey}
use Rattle.krb_c_calls.specs.Numbers.{etype_number}
use Rattle.krb_c_calls.specs.Statuses.{refusal_status}
use Rattle.krb_c_calls.specs.declared.kept.KeptKey.{KeptKey}
use Rattle.krb_c_calls.specs.declared.call_error.CallError.{CallError}
use Rattle.krb_c_calls.proofs.Answered.{decrypted_by_number}
use Rattle.krb_c_calls.proofs.Lengths.{one_etype}

pub zeros_behind : (octets field : List ℕ) → field ≡ octets → drop (length octets) (field ++ drop (length octets) (replicate 32 0)) ≡ replicate (32 - length octets) 0
zeros_behind octets field is =
    drop-append-drop (length octets) (replicate 32 0) field (length octets) (le_refl (length octets)) (ap length is) ∙ drop-replicate (length octets) 32 0

-- the keys that are made again of the fields of a kept key
abbrev pub AreMadeOf : CipherSuite → KeptKey → ℕ → ℕ → PreparedKeys → Type 0
AreMadeOf suite kept n m k =
    (n ≡ key_octets_of suite) × (m ≡ integrity_key_octets_of suite) × (k ≡ record { suite = suite; keys = record { ke = take n kept.ke; ki = take m kept.ki } })

module _ (suite : CipherSuite) (kept : KeptKey) (n m : ℕ) (k : PreparedKeys) (made : AreMadeOf suite kept n m k) where
  pub suite_kept : k.suite ≡ suite
  suite_kept = ap (λ p. p.suite) made.2

  pub prepared_again : (key : List ℕ) (usage : ℤ) → IsKeptBy suite key usage kept → IsPreparedFor key usage k
  prepared_again key usage h = subst (IsPreparedFor key usage) (sym made.2)
      (record { size = h.size; ke = ap (λ i. take i kept.ke) made.0 ∙ h.ke.0; ki = ap (λ i. take i kept.ki) made.1 ∙ h.ki.0 })

  pub sealed_again : (confounder payload octets : List ℕ) → length confounder ≡ confounder_octets_of suite
      → ((key : List ℕ) (usage : ℤ) → IsPreparedFor key usage k → IsTheOne (IsSealed k.suite key usage confounder payload) octets)
      → (key : List ℕ) (usage : ℤ) → IsKeptBy suite key usage kept → IsEncryptionBy suite key usage confounder payload octets
  sealed_again confounder payload octets right sealed key usage h =
      (right, h.size, subst (λ s. IsTheOne (IsSealed s key usage confounder payload) octets) suite_kept (sealed key usage (prepared_again key usage h)))

  pub opened_again : (octets payload : List ℕ)
      → ((key : List ℕ) (usage : ℤ) → IsPreparedFor key usage k → Opens (padding_octets_of k.suite) (IsGiven (IsSealed k.suite key usage) (confounder_octets_of k.suite) octets) payload)
      → (key : List ℕ) (usage : ℤ) → IsKeptBy suite key usage kept → IsDecryptionBy suite key usage octets payload
  opened_again octets payload opened key usage h =
      (h.size, subst (λ s. Opens (padding_octets_of s) (IsGiven (IsSealed s key usage) (confounder_octets_of s) octets) payload) suite_kept (opened key usage (prepared_again key usage h)))

same_suite : (suite : CipherSuite) (kept : KeptKey) (key : List ℕ) (usage : ℤ) → etype_number suite ≡ kept.etype → IsKeptKey key usage kept → IsKeptBy suite key usage kept
same_suite suite kept key usage is (other, h) = subst (λ s. IsKeptBy s key usage kept) (one_etype other suite (h.number ∙ sym is)) h

module _ {V : Type 0} (suite : CipherSuite) (kept : KeptKey) (items : V → List ℕ) (is : etype_number suite ≡ kept.etype) where
  pub encrypted_again : (confounder payload : List ℕ) (made : Result V CallError)
      → ((key : List ℕ) (usage : ℤ) → IsKeptBy suite key usage kept → MatchResult made (λ v. IsEncryptionBy suite key usage confounder payload (items v)) (λ e. RefusesEncryptionBy suite key confounder (refusal_status e)))
      → (key : List ℕ) (usage : ℤ) → IsKeptKey key usage kept → MatchResult made (λ v. IsEncryption kept.etype key usage confounder payload (items v)) (λ e. RefusesEncryption kept.etype key confounder (refusal_status e))
  encrypted_again confounder payload (Ok v) under key usage h = (suite, is, under key usage (same_suite suite kept key usage is h))
  encrypted_again confounder payload (Err e) under key usage h = inr (suite, is, under key usage (same_suite suite kept key usage is h))

  pub decrypted_again : (octets : List ℕ) (made : Result V CallError)
      → ((key : List ℕ) (usage : ℤ) → IsKeptBy suite key usage kept → MatchResult made (λ v. IsDecryptionBy suite key usage octets (items v)) (λ e. RefusesDecryptionBy suite key usage octets (refusal_status e)))
      → (key : List ℕ) (usage : ℤ) → IsKeptKey key usage kept → MatchResult made (λ v. IsDecryption kept.etype key usage octets (items v)) (λ e. RefusesDecryption kept.etype key usage octets (refusal_status e))
  decrypted_again octets made under key usage h = decrypted_by_number kept.etype key usage octets suite made items is (under key usage (same_suite suite kept key usage is h))
