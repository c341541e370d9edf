-- Messages by their encodings and their first numbers (RFC 4120, 5.4 to 5.9; X.690, 10).
use Rattle.std.specs.Prelude.{◌≡◌, ◌≢◌, ◌⊎◌, ℕ, ℤ, pos, List}
use Rattle.krb_der_core.specs.declared.der.DerEncode.{Ghosts as EncodingOf}
use Rattle.krb_der_core.specs.declared.error.Asn1DerError.TheVariants as der
use Rattle.krb_der.specs.Whole.{Encodes, IsNotRead}
use Rattle.krb_messages.specs.declared.messages.replies.KdcRep.{KdcRep}
use Rattle.krb_messages.specs.declared.messages.application.ApRepInner.{ApRepInner}
use Rattle.krb_messages.specs.declared.messages.errors.KrbErrorInner.{KrbErrorInner}
use Rattle.krb_client.specs.declared.replies.error.ReplyError.{ReplyError}
use Rattle.krb_client.specs.declared.replies.error.ReplyError.TheVariants as errors

-- the numbers that each message begins with, pvno and msg-type
pub record Numbers (A : Type 0) : Type 0 where
  pub pvno : A → ℤ
  pub msg_type : A → ℤ

abbrev pub reply_numbers : Numbers KdcRep
reply_numbers = record { pvno = λ v. v.pvno; msg_type = λ v. v.msg_type }

abbrev pub error_numbers : Numbers KrbErrorInner
error_numbers = record { pvno = λ v. v.pvno; msg_type = λ v. v.msg_type }

abbrev pub ap_rep_numbers : Numbers ApRepInner
ap_rep_numbers = record { pvno = λ v. v.pvno; msg_type = λ v. v.msg_type }

-- The octets are the encoding of this message; its version is 5, and its type is this number.
pub record IsMessage {A : Type 0} (t : EncodingOf A) (numbers : Numbers A) (number : ℕ) (octets : List ℕ) (v : A) : Type 0 where
  pub encodes : Encodes t octets v
  pub version : numbers.pvno v ≡ pos 5
  pub is_type : numbers.msg_type v ≡ pos number

-- The octets are no such message: memory was wanting, or by their first error as an encoding; else by the version, else by the type.
abbrev pub IsNoMessage : {A : Type 0} → EncodingOf A → Numbers A → ℕ → List ℕ → ReplyError → Type 0
IsNoMessage t numbers number octets (errors.Message why) = (why ≡ der.OutOfMemory) ⊎ IsNotRead t octets why
IsNoMessage {A} t numbers number octets errors.Pvno = (v : A) × Encodes t octets v × (numbers.pvno v ≢ pos 5)
IsNoMessage {A} t numbers number octets errors.MsgType = (v : A) × Encodes t octets v × (numbers.pvno v ≡ pos 5) × (numbers.msg_type v ≢ pos number)
IsNoMessage t numbers number octets other = ⊥
