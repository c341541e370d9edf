-- PA-ENC-TIMESTAMP (RFC 4120, 5.2.7.2).
use Rattle.std.specs.Prelude.{◌≡◌, ◌⊎◌, ℕ, ℤ, pos, List, [], ◌∷◌, Some}
use Rattle.krb_der_core.specs.GeneralizedTime.{Time}
use Rattle.krb_der_core.specs.declared.der.DerEncode.{Ghosts as EncodingOf}
use Rattle.krb_build.specs.Times.{IsTimeAt}
use Rattle.krb_types.specs.declared.data_types.encryption.EncryptedData.{EncryptedData}
use Rattle.krb_types.specs.declared.data_types.pre_authentication.PaData.{PaData}
use Rattle.krb_types.specs.declared.data_types.pre_authentication.PaEncTsEnc.{PaEncTsEnc}
use Rattle.krb_client.specs.Errors.{IsTimeError}
use Rattle.krb_client.specs.Sealed.{IsNotSealed, IsSealedPart, SuiteKey}
use Rattle.krb_client.specs.declared.requests.error.RequestError.{RequestError}

-- PA-DATA
abbrev pub element_of : ℤ → List ℕ → PaData
element_of number octets = record { padata_type = number; padata_data = octets }

-- PA-ENC-TS-ENC
abbrev pub stamp_of : Time → ℤ → PaEncTsEnc
stamp_of time microseconds = record { patimestamp = time; pausec = record { 0 = Some microseconds } }

-- One element, of type 2: the encoding of an EncryptedData in which the time is sealed under the client's key, for key usage 1.
pub record IsTimestamp (stamps : EncodingOf PaEncTsEnc) (parts : EncodingOf EncryptedData) (k : SuiteKey) (seconds : ℤ) (microseconds : ℕ)
    (confounder : List ℕ) (list : List PaData) : Type 0 where
  pub time : Time
  pub number : ℤ
  pub is_time : IsTimeAt seconds microseconds time number
  pub encrypted : EncryptedData
  pub is_sealed : IsSealedPart stamps k (pos 1) confounder (stamp_of time number) encrypted
  pub valid : parts.is_value encrypted
  pub is_list : list ≡ element_of (pos 2) (parts.enc encrypted) ∷ []

-- why there is none: there is no such time; else nothing is sealed
abbrev pub IsNoTimestamp : SuiteKey → ℤ → ℕ → List ℕ → RequestError → Type 0
IsNoTimestamp k seconds microseconds confounder e =
    IsTimeError seconds microseconds e
    ⊎ (((time : Time) × (number : ℤ) × IsTimeAt seconds microseconds time number) × IsNotSealed k confounder e)
