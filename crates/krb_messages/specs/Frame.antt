-- The frames of the protocol that changes passwords (RFC 3244, 2).
use Rattle.std.specs.Prelude.{◌≡◌, ℕ, ◌+◌, List, ◌∷◌, ◌++◌, length}
use Rattle.std.specs.Int.{to_be_bytes, w16}
use Rattle.krb_messages.specs.declared.messages.private.KrbPrivInner.{KrbPrivInner}
use Rattle.krb_der_core.specs.declared.der.DerEncode.{Ghosts as EncodingOf}
use Rattle.krb_messages.specs.declared.messages.ap_message.ApMessage.{ApMessage}
use Rattle.krb_messages.specs.declared.kpasswd.frame.KrbPrivMessage.{KrbPrivMessage}

-- A frame, whatever its lengths say: two octets of its length, the version 1, two octets of the first message's length, and the
-- encodings of the two messages.
pub record IsFramed (octets ap priv : List ℕ) : Type 0 where
  pub whole : List ℕ
  pub first : List ℕ
  pub whole_long : length whole ≡ 2
  pub first_long : length first ≡ 2
  pub parts : octets ≡ whole ++ (0 ∷ 1 ∷ (first ++ (ap ++ priv)))

-- The frame with its lengths, the highest octet first. The frame's length counts the six octets before the messages too, the other
-- one the first message alone.
abbrev pub frame : List ℕ → List ℕ → List ℕ
frame ap priv = to_be_bytes w16 (6 + (length ap + length priv)) ++ (0 ∷ 1 ∷ (to_be_bytes w16 (length ap) ++ (ap ++ priv)))

-- both messages are values
abbrev pub HoldsValues : EncodingOf ApMessage → EncodingOf KrbPrivInner → KrbPrivMessage → Type 0
HoldsValues ap priv m = ap.is_value m.ap_message × priv.is_value m.krb_priv

-- a frame of these messages, whatever its lengths say
abbrev pub IsFrameOf : EncodingOf ApMessage → EncodingOf KrbPrivInner → KrbPrivMessage → List ℕ → Type 0
IsFrameOf ap priv m octets = IsFramed octets (ap.enc m.ap_message) (priv.enc m.krb_priv)

-- the frame of these messages, with its lengths
abbrev pub frame_of : EncodingOf ApMessage → EncodingOf KrbPrivInner → KrbPrivMessage → List ℕ
frame_of ap priv m = frame (ap.enc m.ap_message) (priv.enc m.krb_priv)
