-- What a key of the context decrypts, by the octets of the key and of the part.
use Rattle.std.proofs.Common.{◌≡◌, ℕ, ℤ, pos, List, Option, Result, sym, subst, ◌∙◌, IfOk, MatchOption}
use Rattle.krb_crypto.specs.Suites.{etype}
use Rattle.krb_crypto.specs.declared.cipher_suite.CipherSuite.{CipherSuite}
use Rattle.krb_der_core.specs.declared.der.DerEncode.{Ghosts as EncodingOf}
use Rattle.krb_types.specs.declared.data_types.encryption.EncryptedData.{EncryptedData}
use Rattle.krb_types.specs.declared.data_types.encryption.EncryptionKey.{EncryptionKey}
use Rattle.krb_accept_rules.specs.Values.{HasNone, IsTheValue}
use Rattle.krb_accept.specs.Opening.{SealsValue}
use Rattle.krb_accept.specs.WithKey.{IsSealedWith}
use Rattle.krb_accept.proofs.Matching.{found_so}
use Rattle.krb_accept.proofs.Suites.{one_suite}

module _ {A : Type 0} (t : EncodingOf A) (key : EncryptionKey) (usage : ℤ) (sealed : EncryptedData) (s : CipherSuite) (same : sealed.etype ≡ key.key_type) (of_suite : key.key_type ≡ pos (etype s)) where
  seals : (v : A) → IsSealedWith t key usage sealed v → SealsValue t s key.key_value usage sealed.cipher v
  seals v h = subst (λ (x : CipherSuite). SealsValue t x key.key_value usage sealed.cipher v) (one_suite h.suite s (sym h.of_suite ∙ of_suite)) h.seals

  the_value : (v : A) → IsTheValue (SealsValue t s key.key_value usage sealed.cipher) v → IsTheValue (IsSealedWith t key usage sealed) v
  the_value v h = record {
    holds = record { suite = s; same_type = same; of_suite = of_suite; seals = h.holds };
    only = λ w k. h.only w (seals w k);
  }

  pub found_with : {E : Type 0} (octets cipher : List ℕ) (r : Result (Option A) E) → octets ≡ key.key_value → cipher ≡ sealed.cipher
      → IfOk r (λ found. MatchOption found (HasNone (SealsValue t s octets usage cipher)) (IsTheValue (SealsValue t s octets usage cipher)))
      → IfOk r (λ found. MatchOption found (HasNone (IsSealedWith t key usage sealed)) (IsTheValue (IsSealedWith t key usage sealed)))
  found_with octets cipher r is_key is_cipher h =
      found_so _ _ _ _ (λ none v k. none v (seals v k)) the_value r
      (subst (λ (x : List ℕ). IfOk r (λ found. MatchOption found (HasNone (SealsValue t s key.key_value usage x)) (IsTheValue (SealsValue t s key.key_value usage x)))) is_cipher
      (subst (λ (x : List ℕ). IfOk r (λ found. MatchOption found (HasNone (SealsValue t s x usage cipher)) (IsTheValue (SealsValue t s x usage cipher)))) is_key h))
