-- The choice between the two messages of an exchange with a server (RFC 4120, 5.5.1 and 5.5.2).
use Rattle.std.proofs.Common.{arith, inl, inr}
use Rattle.std.specs.Prelude.{◌≡◌, ℕ, ◌⊎◌}
use Rattle.krb_messages.specs.declared.messages.application.ApReqInner.{ApReqInner}
use Rattle.krb_messages.specs.declared.messages.application.ApRepInner.{ApRepInner}
use Rattle.krb_messages.specs.declared.messages.ap_message.ApMessage.{ApMessage}
use Rattle.krb_messages.specs.declared.messages.ap_message.ApMessage.TheVariants.{ApReq, ApRep}

-- what it holds
abbrev pub held : ApMessage → ApReqInner ⊎ ApRepInner
held (ApReq v) = inl v
held (ApRep v) = inr v

-- which decides it
pub held_decides : (v w : ApMessage) → held v ≡ held w → v ≡ w
held_decides (ApReq v) (ApReq w) e = cc
held_decides (ApReq v) (ApRep w) e = absurd cc
held_decides (ApRep v) (ApReq w) e = absurd cc
held_decides (ApRep v) (ApRep w) e = cc

-- its first octets differ
pub tags_apart : ◌≡◌ {A = ℕ} 110 111 → ⊥
tags_apart e = omega (arith, e)
