-- The frames of the protocol that changes passwords as tokens (RFC 3244, 2), and what octets are none.
use Rattle.std.specs.Prelude.{◌≡◌, ◌≢◌, ℕ, pos, List, [], ◌++◌, codes, Result, IfOk, IfErr, MatchResult}
use Rattle.krb_messages.specs.declared.messages.ap_message.ApMessage.{ApMessage}
use Rattle.krb_messages.specs.declared.messages.ap_message.ApMessage.TheVariants.{ApReq, ApRep}
use Rattle.krb_messages.specs.declared.messages.application.ApReqInner.{ApReqInner}
use Rattle.krb_messages.specs.declared.messages.application.ApRepInner.{ApRepInner}
use Rattle.krb_messages.specs.declared.messages.private.KrbPrivInner.{KrbPrivInner}
use Rattle.krb_messages.specs.declared.kpasswd.error.ReadFrameError.{ReadFrameError}
use Rattle.krb_messages.specs.declared.kpasswd.error.ReadFrameError.TheVariants as unread
use Rattle.krb_show.specs.Leaves.{number_of}
use Rattle.krb_show.specs.Pages.{◌then◌, struct_of}
use Rattle.krb_show.specs.Tokens.{Label, Token, plain}
use Rattle.krb_show_tokens.specs.declared.kpasswd.error.PasswordFrameError.{PasswordFrameError}
use Rattle.krb_show_tokens.specs.declared.kpasswd.error.PasswordFrameError.TheVariants as errors

-- The numbers before the messages: the length of the frame, the version, and the length of the first message, which has this name. They are as
-- the frame has them, and compared with nothing.
abbrev pub numbers_of : List ℕ → ℕ → ℕ → ℕ → List Token → List Token → Type 0
numbers_of first_name message_length version first_length =
    number_of (plain (codes "message-length")) (pos message_length)
    then number_of (plain (codes "protocol-version-number")) (pos version)
    then number_of (plain first_name) (pos first_length)

-- how values of a type are shown under a label
abbrev pub ShowsAs : Type 0 → Type 1
ShowsAs A = Label → A → List Token → List Token → Type 0

-- a frame: the numbers, and then the messages, each under its name
unfoldable pub frame_of : ShowsAs ApReqInner → ShowsAs ApRepInner → ShowsAs KrbPrivInner → Label → ℕ → ℕ → ℕ → ApMessage → KrbPrivInner
    → List Token → List Token → Type 0
frame_of request reply private label message_length version first_length (ApReq v) priv old new = struct_of label (
    numbers_of (codes "AP-REQ-length") message_length version first_length
    then request (plain (codes "AP-REQ-data")) v
    then private (plain (codes "KRB-PRIV-message")) priv) old new
frame_of request reply private label message_length version first_length (ApRep v) priv old new = struct_of label (
    numbers_of (codes "AP-REP-length") message_length version first_length
    then reply (plain (codes "AP-REP-data")) v
    then private (plain (codes "KRB-PRIV-message")) priv) old new

-- a frame is at the start of the octets, and others follow it
pub record IsLonger {M : Type 0} (is_value : M → Type 0) (is_frame : M → List ℕ → Type 0) (octets : List ℕ) : Type 0 where
  pub message : M
  pub frame : List ℕ
  pub rest : List ℕ
  pub value : is_value message
  pub is : is_frame message frame
  pub parts : octets ≡ frame ++ rest
  pub more : rest ≢ []

-- the octets are no frame, by this error, or an allocation failed
abbrev pub IsRefused : {M : Type 0} → (M → Type 0) → (M → List ℕ → Type 0) → (List ℕ → ReadFrameError → Type 0) → List ℕ → PasswordFrameError → Type 0
IsRefused is_value is_frame rejected octets (errors.Frame why) = rejected octets why
IsRefused is_value is_frame rejected octets errors.TrailingOctets = IsLonger is_value is_frame octets

-- Where a page is answered it is that of the frame that all of the octets are; where they are a frame it is answered, but for want of memory;
-- and else the octets are refused.
pub record IsFrameTold {M P : Type 0} (is_value : M → Type 0) (is_frame : M → List ℕ → Type 0) (rejected : List ℕ → ReadFrameError → Type 0)
    (shows : List ℕ → M → List Token → List Token → Type 0) (tokens : P → List Token) (octets : List ℕ)
    (result : Result P PasswordFrameError) : Type 0 where
  pub found : IfOk result (λ p. (m : M) × is_value m × is_frame m octets × shows octets m [] (tokens p))
  pub reads : (m : M) → is_value m → is_frame m octets → MatchResult result (λ p. Unit {0}) (λ e. e ≡ errors.Frame unread.OutOfMemory)
  pub refused : IfErr result (IsRefused is_value is_frame rejected octets)
