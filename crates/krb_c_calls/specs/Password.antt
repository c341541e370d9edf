-- The frame of a request to change a password, and of the reply (RFC 3244, 2): its messages and their places, and why octets begin with none.
use Rattle.std.specs.Prelude.{◌≡◌, ◌⊎◌, ℕ, ◌<◌, ◌≤◌, ◌^◌, List, ◌++◌, length}
use Rattle.krb_der_core.specs.declared.der.DerEncode.{Ghosts as EncodingOf}
use Rattle.krb_messages.specs.Frame.{IsFramed, frame}
use Rattle.krb_messages.specs.Rejected.{FrameError, TrailingHeader}
use Rattle.krb_messages.specs.declared.kpasswd.error.ReadFrameError.{ReadFrameError}
use Rattle.krb_c_calls.specs.MessageRules.{IsEncoding, RefusesReading}
use Rattle.krb_c_calls.specs.Places.{StandsBefore}
use Rattle.krb_c_calls.specs.FrameStatuses.{frame_status}

-- A frame of these two messages is at the start of the octets, and these octets are behind it. The lengths in it are compared with nothing.
pub record BeginsWithFrame {A B : Type 0} (a : EncodingOf A) (b : EncodingOf B) (octets ap priv rest : List ℕ) : Type 0 where
  pub ap_message : IsEncoding a ap
  pub krb_priv : IsEncoding b priv
  pub whole : List ℕ
  pub framed : IsFramed whole ap priv
  pub start : octets ≡ whole ++ rest

-- a frame is at the start, whose messages have so many octets
abbrev pub HasSizes : {A B : Type 0} → EncodingOf A → EncodingOf B → List ℕ → ℕ → ℕ → Type 0
HasSizes a b octets ap_size priv_size =
    (ap : List ℕ) × (priv : List ℕ) × (rest : List ℕ) × BeginsWithFrame a b octets ap priv rest × (ap_size ≡ length ap) × (priv_size ≡ length priv)

-- The octets begin with no frame, and the status is that of their first error, from the left.
pub record BeginsWithNoFrame {A B : Type 0} (a : EncodingOf A) (b : EncodingOf B) (octets : List ℕ) (status : ℕ) : Type 0 where
  pub why : ReadFrameError
  pub none : (ap priv rest : List ℕ) → BeginsWithFrame a b octets ap priv rest → ⊥
  pub first_error : FrameError a b octets why
  pub named : status ≡ frame_status why

-- memory was wanting behind the six octets before the messages (2), or the octets begin with no frame
abbrev pub RefusesFrame : {A B : Type 0} → EncodingOf A → EncodingOf B → List ℕ → ℕ → Type 0
RefusesFrame a b octets status = ((status ≡ 2) × ((rest : List ℕ) × TrailingHeader octets rest)) ⊎ BeginsWithNoFrame a b octets status

-- A frame is at the start (0), whose messages have these places; or the octets are refused, and all is 0.
abbrev pub IsFrameAt : {A B : Type 0} → EncodingOf A → EncodingOf B → List ℕ → ℕ → ℕ → ℕ → ℕ → ℕ → Type 0
IsFrameAt a b octets ap_offset ap_size priv_offset priv_size status =
    ((ap : List ℕ) × (priv : List ℕ) × (rest : List ℕ) × BeginsWithFrame a b octets ap priv rest × (status ≡ 0)
    × StandsBefore ap (priv ++ rest) octets ap_offset ap_size × StandsBefore priv rest octets priv_offset priv_size)
    ⊎ (RefusesFrame a b octets status × (ap_offset ≡ 0) × (ap_size ≡ 0) × (priv_offset ≡ 0) × (priv_size ≡ 0))

-- ---- writing

-- both are encodings, and the octets are their frame, with its lengths
abbrev pub IsMadeFrame : {A B : Type 0} → EncodingOf A → EncodingOf B → List ℕ → List ℕ → List ℕ → Type 0
IsMadeFrame a b ap priv octets = IsEncoding a ap × IsEncoding b priv × (octets ≡ frame ap priv) × (length octets < 2 ^ 16)

-- The first is no encoding; or it is one, and the second is none; or both are, and their frame has more than 65535 octets (28); or memory was
-- wanting (2).
abbrev pub RefusesMaking : {A B : Type 0} → EncodingOf A → EncodingOf B → List ℕ → List ℕ → ℕ → Type 0
RefusesMaking a b ap priv status =
    RefusesReading a ap status
    ⊎ (IsEncoding a ap × RefusesReading b priv status)
    ⊎ (IsEncoding a ap × IsEncoding b priv × (2 ^ 16 ≤ length (frame ap priv)) × (status ≡ 28))
    ⊎ (status ≡ 2)
