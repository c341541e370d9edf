-- Messages of Kerberos that go through a proxy, by their kind (RFC 4120, 5.4 to 5.9).
use Rattle.std.specs.Prelude.{◌≡◌, ◌≢◌, ◌⊎◌, ℕ, ℤ, pos, List, codes}
use Rattle.krb_der_core.specs.declared.der.DerEncode.{Ghosts as EncodingOf}
use Rattle.krb_der_core.specs.declared.error.Asn1DerError.{Asn1DerError}
use Rattle.krb_der_core.specs.declared.error.Asn1DerError.TheVariants as der
use Rattle.krb_der.specs.Whole.{Encodes, IsNotRead}
use Rattle.krb_messages.specs.declared.kpasswd.error.MessageError.{MessageError}
use Rattle.krb_messages.specs.declared.kpasswd.error.MessageError.TheVariants as why
use Rattle.krb_messages.specs.Rejected.{der_error}
use Rattle.krb_kdc_proxy.specs.declared.kind.MessageKind.{MessageKind}
use Rattle.krb_kdc_proxy.specs.declared.kind.MessageKind.TheVariants as kind
use Rattle.krb_kdc_proxy.specs.declared.error.ProxyError.{ProxyError}
use Rattle.krb_kdc_proxy.specs.declared.error.ProxyError.TheVariants as errors

-- the type of a message (5.10 and 7.5.7)
abbrev pub number_of : MessageKind → ℕ
number_of kind.AsReq = 10
number_of kind.AsRep = 11
number_of kind.TgsReq = 12
number_of kind.TgsRep = 13
number_of kind.ApReq = 14
number_of kind.ApRep = 15
number_of kind.KrbPriv = 21
number_of kind.KrbError = 30

-- its name (5.4 to 5.9)
abbrev pub name_of : MessageKind → List ℕ
name_of kind.AsReq = codes "KRB-AS-REQ"
name_of kind.AsRep = codes "KRB-AS-REP"
name_of kind.TgsReq = codes "KRB-TGS-REQ"
name_of kind.TgsRep = codes "KRB-TGS-REP"
name_of kind.ApReq = codes "KRB-AP-REQ"
name_of kind.ApRep = codes "KRB-AP-REP"
name_of kind.KrbPriv = codes "KRB-PRIV"
name_of kind.KrbError = codes "KRB-ERROR"

-- the error of an encoding, as that of the message in this place
abbrev pub error_of : (MessageError → ProxyError) → Asn1DerError → ProxyError
error_of place der.InvalidData = place why.InvalidData
error_of place der.TruncatedData = place why.TruncatedData
error_of place der.UnsupportedValue = place why.UnsupportedValue
error_of place der.OutOfMemory = errors.OutOfMemory
error_of place (der.Io e) = errors.OutOfMemory

-- ---- encodings

-- Why octets are the encoding of no value of the type, by one of the three errors that octets may have.
abbrev pub IsNoEncoding : {A : Type 0} → EncodingOf A → List ℕ → MessageError → Type 0
IsNoEncoding t octets error = IsNotRead t octets (der_error error)

-- ---- messages

-- the numbers that each message begins with, pvno and msg-type
pub record Numbers (A : Type 0) : Type 0 where
  pub pvno : A → ℤ
  pub msg_type : A → ℤ

-- The octets are the encoding of this message; its version is 5, and its type is that of its kind.
pub record IsMessage {A : Type 0} (t : EncodingOf A) (numbers : Numbers A) (kind : MessageKind) (octets : List ℕ) (v : A) : Type 0 where
  pub encodes : Encodes t octets v
  pub version : numbers.pvno v ≡ pos 5
  pub is_type : numbers.msg_type v ≡ pos (number_of kind)

-- The octets are no such message: by their first error as an encoding; else by the version, else by the type.
abbrev pub IsNoMessage : {A : Type 0} → EncodingOf A → Numbers A → MessageKind → List ℕ → ProxyError → Type 0
IsNoMessage t numbers kind octets (errors.Message k error) = (k ≡ kind) × IsNoEncoding t octets error
IsNoMessage {A} t numbers kind octets (errors.Pvno k) = (k ≡ kind) × ((v : A) × Encodes t octets v × (numbers.pvno v ≢ pos 5))
IsNoMessage {A} t numbers kind octets (errors.MsgType k) =
    (k ≡ kind) × ((v : A) × Encodes t octets v × (numbers.pvno v ≡ pos 5) × (numbers.msg_type v ≢ pos (number_of kind)))
IsNoMessage t numbers kind octets other = ⊥

-- memory was wanting, or this
abbrev pub OrMemory : (ProxyError → Type 0) → ProxyError → Type 0
OrMemory refuses error = (error ≡ errors.OutOfMemory) ⊎ refuses error
