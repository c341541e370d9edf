-- Replies that rename the client or the server (RFC 6806, 6, 8 and 11).
use Rattle.std.specs.Prelude.{◌≡◌, ◌≢◌, ◌⊎◌, ℕ, pos, List, length, Some, None}
use Rattle.krb_client.specs.Firsts.{IsFirst, NoneIs}
use Rattle.krb_client.specs.Granted.{IsFirstGranted, IsFirstRefused}
use Rattle.krb_client.specs.declared.replies.error.ReplyError.{ReplyError}
use Rattle.krb_client.specs.declared.replies.granted.Granted.{Granted}
use Rattle.krb_client.specs.RequestChecksums.{IsRequestChecksum}
use Rattle.krb_client_rules.specs.declared.key.Key.{Key}
use Rattle.krb_crypto.specs.BySuite.{key_octets_of}
use Rattle.krb_der_core.specs.declared.der.DerEncode.{Ghosts as EncodingOf}
use Rattle.krb_messages.specs.declared.messages.replies.EncKdcRepPart.{EncKdcRepPart}
use Rattle.krb_types.specs.declared.data_types.checksums.Checksum.{Checksum}
use Rattle.krb_types.specs.declared.data_types.pre_authentication.PaData.{PaData}
use Rattle.krb_client.specs.Moments.{clock_of}
use Rattle.krb_client.specs.Requests.{suite_key}
use Rattle.krb_client.specs.Types.{InitialTypes}
use Rattle.krb_client.specs.declared.initial.InitialExchange.{InitialExchange}
use Rattle.krb_client.specs.declared.moment.Moment.{Moment}
use Rattle.krb_client.specs.declared.renamed.RenameError.{RenameError}
use Rattle.krb_client.specs.declared.renamed.RenameError.TheVariants as errors
use Rattle.krb_client.specs.declared.terms.Terms.{Terms}

-- PA-REQ-ENC-PA-REP is of type 149 (11)
abbrev pub IsMark : PaData → Type 0
IsMark d = d.padata_type ≡ pos 149

-- these octets stand in the first of them
abbrev pub HasMark : EncKdcRepPart → List ℕ → Type 0
HasMark part octets =
    (elements : List PaData) × (part.encrypted_pa_data.0 ≡ Some elements) × (d : PaData) × IsFirst IsMark elements d × (d.padata_data ≡ octets)

abbrev pub HasNoMark : EncKdcRepPart → Type 0
HasNoMark part = (part.encrypted_pa_data.0 ≡ None) ⊎ ((elements : List PaData) × (part.encrypted_pa_data.0 ≡ Some elements) × NoneIs IsMark elements)

-- the key has another length than its suite's, or an allocation failed
abbrev pub IsNoSum : Key → RenameError → Type 0
IsNoSum key e = (e ≡ errors.OutOfMemory) ⊎ ((e ≡ errors.Checksum) × (length key.octets.items ≢ key_octets_of key.suite))

-- the part has the checksum of the request under the reply key
pub record HasRequestChecksum (checksums : EncodingOf Checksum) (key : Key) (request : List ℕ) (part : EncKdcRepPart) : Type 0 where
  pub sum : List ℕ
  pub is_sum : IsRequestChecksum checksums (suite_key key) request sum
  pub has : HasMark part sum

-- why it has not: none; or there is none under this key, or it is another one
pub data HasNoRequestChecksum (checksums : EncodingOf Checksum) (key : Key) (request : List ℕ) (part : EncKdcRepPart) (e : RenameError) : Type 0 where
  no_mark : e ≡ errors.Absent → HasNoMark part → HasNoRequestChecksum checksums key request part e
  no_sum : (octets : List ℕ) → HasMark part octets → IsNoSum key e → HasNoRequestChecksum checksums key request part e
  other_sum : (octets sum : List ℕ) → HasMark part octets → IsRequestChecksum checksums (suite_key key) request sum → sum ≢ octets → e ≡ errors.Checksum
      → HasNoRequestChecksum checksums key request part e

module _ (t : InitialTypes) (checksums : EncodingOf Checksum) (terms : Terms) (e : InitialExchange) (m : Moment) (request octets : List ℕ) where
  -- The octets grant this under the key under which the time was sent, to what is asked, whose names are those of the reply; and the part has the checksum of
  -- the request.
  pub record IsRenamed (g : Granted) : Type 0 where
    pub key : Key
    pub is_key : e.key ≡ Some key
    pub is_granted : IsFirstGranted t.as_rep t.part t.other_part e.asked (clock_of terms e.offset m) key octets g
    pub has : HasRequestChecksum checksums key request g.part

  pub data IsNotRenamed (error : RenameError) : Type 0 where
    no_key : e.key ≡ None → error ≡ errors.NoKey → IsNotRenamed error
    not_granted : (key : Key) (why : ReplyError) → e.key ≡ Some key
        → IsFirstRefused t.as_rep t.part t.other_part e.asked (clock_of terms e.offset m) key octets why → error ≡ errors.Reply why → IsNotRenamed error
    not_of_request : (key : Key) (g : Granted) → e.key ≡ Some key
        → IsFirstGranted t.as_rep t.part t.other_part e.asked (clock_of terms e.offset m) key octets g → HasNoRequestChecksum checksums key request g.part error
        → IsNotRenamed error
