-- What holds of frames (RFC 3244, 2).
use Rattle.std.proofs.Common.{ℕ, ◌≤◌, List, ◌∷◌, ◌++◌, length, ap, refl, inl, length-append, arith}
use Rattle.krb_der_core.specs.declared.der.DerEncode.{Ghosts as EncodingOf}
use Rattle.krb_messages.specs.declared.messages.ap_message.ApMessage.{ApMessage}
use Rattle.krb_messages.specs.declared.messages.private.KrbPrivInner.{KrbPrivInner}
use Rattle.krb_messages.specs.Frame.{IsFramed, IsFrameOf}
use Rattle.krb_messages.specs.Rejected.{FrameRejected, TrailingHeader}
use Rattle.krb_messages.specs.declared.kpasswd.error.ReadFrameError.TheVariants as unread
use Rattle.krb_messages.specs.declared.kpasswd.frame.KrbPrivMessage.{KrbPrivMessage}

framed_long : (octets a b : List ℕ) → IsFramed octets a b → 6 ≤ length octets
framed_long octets a b f =
    omega (arith, ap length f.parts, length-append f.whole (0 ∷ 1 ∷ (f.first ++ (a ++ b))), length-append f.first (a ++ b), f.whole_long, f.first_long)

framed_trails : (octets a b : List ℕ) → IsFramed octets a b → TrailingHeader octets (a ++ b)
framed_trails octets a b f = record { whole = f.whole; first = f.first; whole_long = f.whole_long; first_long = f.first_long; parts = f.parts }

-- a frame has six octets before its messages
pub frame_long : (a : EncodingOf ApMessage) (b : EncodingOf KrbPrivInner) (m : KrbPrivMessage) (octets : List ℕ) → IsFrameOf a b m octets → 6 ≤ length octets
frame_long a b m octets f = framed_long octets (a.enc m.ap_message) (b.enc m.krb_priv) f

-- so an allocation may fail
pub frame_memory : (a : EncodingOf ApMessage) (b : EncodingOf KrbPrivInner) (m : KrbPrivMessage) (octets : List ℕ) → IsFrameOf a b m octets
    → FrameRejected a b octets unread.OutOfMemory
frame_memory a b m octets f = inl (refl, (a.enc m.ap_message ++ b.enc m.krb_priv, framed_trails octets (a.enc m.ap_message) (b.enc m.krb_priv) f))
