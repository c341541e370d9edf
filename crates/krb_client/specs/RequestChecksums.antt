-- The checksum of an AS-REQ, in the reply to it (RFC 6806, 11).
use Rattle.std.specs.Prelude.{◌≡◌, ℕ, pos, List, [], ◌∷◌, ◌++◌, Option, Some, None}
use Rattle.krb_der_core.specs.declared.der.DerEncode.{Ghosts as EncodingOf}
use Rattle.krb_types.specs.declared.data_types.checksums.Checksum.{Checksum}
use Rattle.krb_types.specs.declared.data_types.pre_authentication.PaData.{PaData}
use Rattle.krb_client.specs.Sealed.{IsChecksum, SuiteKey}
use Rattle.krb_client.specs.Timestamps.{element_of}

-- PA-REQ-ENC-PA-REP: type 149, and no octets
abbrev pub mark : PaData
mark = element_of (pos 149) []

-- behind these data of pre-authentication, or alone
abbrev pub marked : Option (List PaData) → List PaData
marked None = mark ∷ []
marked (Some list) = list ++ mark ∷ []

-- the encoding of the checksum of the request under the reply key, for key usage 56
pub record IsRequestChecksum (checksums : EncodingOf Checksum) (k : SuiteKey) (request octets : List ℕ) : Type 0 where
  pub cksum : Checksum
  pub is_checksum : IsChecksum k (pos 56) request cksum
  pub octets_are : octets ≡ checksums.enc cksum
