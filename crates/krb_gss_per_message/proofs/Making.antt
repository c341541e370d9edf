-- What is sealed and summed is what the definitions say, and so is the token.
use Rattle.std.proofs.Common.{◌≡◌, ◌≢◌, ℕ, false, List, ◌++◌, length, inl, inr, sym, ap, subst, ◌∙◌}
use Rattle.krb_crypto_hash.specs.CryptoError.{IsMemoryOr}
use Rattle.krb_crypto_hash.specs.declared.error.KerberosCryptoError.{KerberosCryptoError}
use Rattle.krb_crypto_hash.specs.declared.error.KerberosCryptoError.TheVariants.{OutOfMemory}
use Rattle.krb_crypto_hash.specs.declared.error.KerberosCryptoError.TheVariants as crypto
use Rattle.krb_crypto_message.proofs.Messages.{unfilled}
use Rattle.krb_crypto_message.specs.Sealing.{IsTheOne, IsGiven, Opens, HasNoPayload}
use Rattle.krb_crypto.specs.BySuite.{IsSealed, checksum_suite_of, sum_of, confounder_octets_of, padding_octets_of, error_of}
use Rattle.krb_crypto.specs.declared.checksum_suite.ChecksumSuite.{ChecksumSuite}
use Rattle.krb_crypto.specs.declared.cipher_suite.CipherSuite.{CipherSuite}
use Rattle.krb_gss_tokens.specs.Layout.{wrap_header}
use Rattle.krb_gss_per_message.specs.Errors.{of_crypto}
use Rattle.krb_gss_per_message.specs.Keys.{Key, seal_usage_of, flags_of}
use Rattle.krb_gss_per_message.specs.Rotation.{rotated_right}
use Rattle.krb_gss_per_message.specs.Unwrap.{IsOpened}
use Rattle.krb_gss_per_message.specs.UnwrapSteps.{RefusesOpening}
use Rattle.krb_gss_per_message.specs.Wrap.{IsSealedUnder, IsWrappedInClear, clear_sum, unrotated_header}

-- ---- tokens

pub sealed_as : (key : Key) (suite : CipherSuite) (confounder plaintext message header octets : List ℕ) (flags other extra number : ℕ) → suite ≡ key.suite
    → plaintext ≡ message ++ header → header ≡ unrotated_header flags extra number → flags ≡ other
    → IsTheOne (IsSealed suite key.octets (seal_usage_of key.sender) confounder plaintext) octets
    → IsTheOne (IsSealedUnder key confounder (message ++ unrotated_header other extra number)) octets
sealed_as key suite confounder plaintext message header octets flags other extra number s p h f one =
    let plain : plaintext ≡ message ++ unrotated_header other extra number =
    p ∙ ap (λ (xs : List ℕ). message ++ xs) h ∙ ap (λ (x : ℕ). message ++ unrotated_header x extra number) f in
    subst (λ (xs : List ℕ). IsTheOne (IsSealedUnder key confounder xs) octets) plain
    (subst (λ (x : CipherSuite). IsTheOne (IsSealed x key.octets (seal_usage_of key.sender) confounder plaintext) octets) s one)

pub wrap_made : (items rotated octets : List ℕ) (flags other extra rotation number : ℕ) → items ≡ wrap_header flags extra rotation number ++ rotated → flags ≡ other
    → rotated ≡ rotated_right rotation octets → items ≡ wrap_header other extra rotation number ++ rotated_right rotation octets
wrap_made items rotated octets flags other extra rotation number made f r =
    made ∙ ap (λ (x : ℕ). wrap_header x extra rotation number ++ rotated) f ∙ ap (λ (xs : List ℕ). wrap_header other extra rotation number ++ xs) r

pub clear_sum_as : (key : Key) (suite : ChecksumSuite) (header other message : List ℕ) → suite ≡ checksum_suite_of key.suite → header ≡ other
    → sum_of suite key.octets (seal_usage_of key.sender) (message ++ header) ≡ clear_sum key other message
clear_sum_as key suite header other message s h =
    ap (λ (x : ChecksumSuite). sum_of x key.octets (seal_usage_of key.sender) (message ++ header)) s
    ∙ ap (λ (xs : List ℕ). sum_of (checksum_suite_of key.suite) key.octets (seal_usage_of key.sender) (message ++ xs)) h

pub clear_made : (key : Key) (message items sum octets rotated : List ℕ) (flags extra rotation number : ℕ)
    → sum ≡ clear_sum key (unrotated_header (flags_of key false) 0 number) message → flags ≡ flags_of key false → extra ≡ length sum → octets ≡ message ++ sum
    → rotated ≡ rotated_right rotation octets → items ≡ wrap_header flags extra rotation number ++ rotated → IsWrappedInClear key number rotation message items
clear_made key message items sum octets rotated flags extra rotation number s f x o r made =
    let other : ℕ = flags_of key false in
    wrap_made items rotated octets flags other extra rotation number made f r
    ∙ ap (λ (k : ℕ). wrap_header other k rotation number ++ rotated_right rotation octets) x
    ∙ ap (λ (xs : List ℕ). wrap_header other (length sum) rotation number ++ rotated_right rotation xs) o
    ∙ ap (λ (xs : List ℕ). wrap_header other (length xs) rotation number ++ rotated_right rotation (message ++ xs)) s

-- ---- what is opened

pub opens_as : (key : Key) (suite : CipherSuite) (octets plaintext : List ℕ) → suite ≡ key.suite → confounder_octets_of suite ≡ 16 → padding_octets_of suite ≡ 1
    → Opens (padding_octets_of suite) (IsGiven (IsSealed suite key.octets (seal_usage_of key.sender)) (confounder_octets_of suite) octets) plaintext
    → Opens 1 (IsOpened key octets) plaintext
opens_as key suite octets plaintext s c p opens =
    subst (λ (x : CipherSuite). Opens 1 (IsGiven (IsSealed x key.octets (seal_usage_of key.sender)) 16 octets) plaintext) s
    (subst (λ (n : ℕ). Opens 1 (IsGiven (IsSealed suite key.octets (seal_usage_of key.sender)) n octets) plaintext) c
    (subst (λ (n : ℕ). Opens n (IsGiven (IsSealed suite key.octets (seal_usage_of key.sender)) (confounder_octets_of suite) octets) plaintext) p opens))

pub opened_is : (key : Key) (octets plaintext : List ℕ) → Opens 1 (IsOpened key octets) plaintext → IsOpened key octets plaintext
opened_is key octets plaintext opens = (opens.exactly plaintext).1 opens.whole

pub opened_once : (key : Key) (octets plaintext other : List ℕ) → Opens 1 (IsOpened key octets) plaintext → IsOpened key octets other → other ≡ plaintext
opened_once key octets plaintext other opens is = sym (unfilled other plaintext ((opens.exactly other).0 is))

pub refused_as : (key : Key) (suite : CipherSuite) (octets : List ℕ) (e : KerberosCryptoError) → suite ≡ key.suite → confounder_octets_of suite ≡ 16 → e ≢ OutOfMemory
    → IsMemoryOr e (HasNoPayload (IsSealed suite key.octets (seal_usage_of key.sender)) (confounder_octets_of suite) octets)
    → IsMemoryOr e (e ≡ error_of suite key.octets octets)
    → HasNoPayload (IsSealedUnder key) 16 octets × (e ≡ error_of key.suite key.octets octets)
refused_as key suite octets e s c other (inl m) error = absurd (other m)
refused_as key suite octets e s c other (inr none) (inl m) = absurd (other m)
refused_as key suite octets e s c other (inr none) (inr error) = (
  subst (λ (x : CipherSuite). HasNoPayload (IsSealed x key.octets (seal_usage_of key.sender)) 16 octets) s
      (subst (λ (n : ℕ). HasNoPayload (IsSealed suite key.octets (seal_usage_of key.sender)) n octets) c none),
  error ∙ ap (λ (x : CipherSuite). error_of x key.octets octets) s,
)

-- an error of the cryptography, as that of the token
pub refused_from : (key : Key) (suite : CipherSuite) (octets : List ℕ) (e : KerberosCryptoError) → suite ≡ key.suite → confounder_octets_of suite ≡ 16
    → IsMemoryOr e (HasNoPayload (IsSealed suite key.octets (seal_usage_of key.sender)) (confounder_octets_of suite) octets)
    → IsMemoryOr e (e ≡ error_of suite key.octets octets) → RefusesOpening key octets (of_crypto e)
refused_from key suite octets crypto.OutOfMemory s c none error = tt
refused_from key suite octets (crypto.KeyLength n m) s c none error = refused_as key suite octets (crypto.KeyLength n m) s c (λ x. cc) none error
refused_from key suite octets (crypto.CipherLength n m) s c none error = refused_as key suite octets (crypto.CipherLength n m) s c (λ x. cc) none error
refused_from key suite octets (crypto.AlgorithmIdentifier n) s c none error = refused_as key suite octets (crypto.AlgorithmIdentifier n) s c (λ x. cc) none error
refused_from key suite octets (crypto.AlgorithmIdentifierData v) s c none error = refused_as key suite octets (crypto.AlgorithmIdentifierData v) s c (λ x. cc) none error
refused_from key suite octets crypto.IntegrityCheck s c none error = refused_as key suite octets crypto.IntegrityCheck s c (λ x. cc) none error
refused_from key suite octets (crypto.CipherError t) s c none error = refused_as key suite octets (crypto.CipherError t) s c (λ x. cc) none error
refused_from key suite octets crypto.CipherUnpad s c none error = refused_as key suite octets crypto.CipherUnpad s c (λ x. cc) none error
refused_from key suite octets crypto.CipherPad s c none error = refused_as key suite octets crypto.CipherPad s c (λ x. cc) none error
refused_from key suite octets (crypto.SeedBitLen t) s c none error = refused_as key suite octets (crypto.SeedBitLen t) s c (λ x. cc) none error
