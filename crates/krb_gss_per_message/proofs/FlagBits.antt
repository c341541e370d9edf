-- The flags that are made, and which are refused.
use Rattle.std.proofs.Common.{◌≡◌, ℕ, zero, suc, ◌+◌, ◌*◌, ◌<◌, Bool, true, false, not, nat_eq, bit_and, refl, sym, ◌∙◌, arith}
use Rattle.std.proofs.Math.Dec.{eqb-suc-zero}
use Rattle.std.proofs.lemmas.Nat.Bits.{and_pow}
use Rattle.std.specs.Int.{bit_at}
use Rattle.krb_gss_per_message.specs.Keys.{Key, bit_of, sender_bit, flags_of, AreFlagsOf}
use Rattle.krb_gss_per_message.specs.Flags.{RefusesFlags}
use Rattle.krb_gss_per_message.specs.declared.error.ProtectionError.{ProtectionError}
use Rattle.krb_gss_per_message.specs.declared.error.ProtectionError.TheVariants as errors
use Rattle.krb_gss_per_message.specs.declared.key.Sender.{Sender}
use Rattle.krb_gss_per_message.specs.declared.key.Sender.TheVariants.{Initiator, Acceptor}

-- the three bits of the flags that are made
bits : (sender : Sender) (sealed subkey : Bool) → let flags = sender_bit sender + 2 * bit_of sealed + 4 * bit_of subkey in
    (bit_at flags 0 ≡ sender_bit sender) × (bit_at flags 1 ≡ bit_of sealed) × (bit_at flags 2 ≡ bit_of subkey)
bits Initiator false false = (refl, refl, refl)
bits Initiator false true = (refl, refl, refl)
bits Initiator true false = (refl, refl, refl)
bits Initiator true true = (refl, refl, refl)
bits Acceptor false false = (refl, refl, refl)
bits Acceptor false true = (refl, refl, refl)
bits Acceptor true false = (refl, refl, refl)
bits Acceptor true true = (refl, refl, refl)

pub flags_made : (key : Key) (sealed : Bool) → AreFlagsOf key sealed (flags_of key sealed)
flags_made key sealed =
    let made = bits key.sender sealed key.acceptor_subkey in
    record { sender = made.0; sealed_is = made.1; subkey = made.2 }

-- flags of this key are not refused
pub flags_kept : (key : Key) (sealed : Bool) (flags : ℕ) (e : ProtectionError) → AreFlagsOf key sealed flags → RefusesFlags key flags e → ⊥
flags_kept key sealed flags errors.Direction are refuses = refuses are.sender
flags_kept key sealed flags errors.Subkey are refuses = refuses.1 are.subkey
flags_kept key sealed flags errors.OutOfMemory are refuses = refuses
flags_kept key sealed flags (errors.Token e) are refuses = refuses
flags_kept key sealed flags errors.Sealed are refuses = refuses
flags_kept key sealed flags errors.Checksum are refuses = refuses
flags_kept key sealed flags (errors.Opening e) are refuses = refuses
flags_kept key sealed flags errors.SealedHeader are refuses = refuses

one_bit : (a b : Bool) → bit_of a ≡ bit_of b → a ≡ b
one_bit false false e = refl
one_bit true true e = refl
one_bit false true e = cc
one_bit true false e = cc

-- flags say one thing of Sealed
pub sealed_once : (key : Key) (a b : Bool) (flags : ℕ) → AreFlagsOf key a flags → AreFlagsOf key b flags → a ≡ b
sealed_once key a b flags first second = one_bit a b (sym first.sealed_is ∙ second.sealed_is)

one_sender : (a b : Sender) → sender_bit a ≡ sender_bit b → a ≡ b
one_sender Initiator Initiator e = refl
one_sender Acceptor Acceptor e = refl
one_sender Initiator Acceptor e = cc
one_sender Acceptor Initiator e = cc

-- and one sender
pub sender_once : (key other : Key) (a b : Bool) (flags : ℕ) → AreFlagsOf key a flags → AreFlagsOf other b flags → key.sender ≡ other.sender
sender_once key other a b flags first second = one_sender key.sender other.sender (sym first.sender ∙ second.sender)

-- a mask of one bit leaves none exactly where the bit is 0
tested : (x b k : ℕ) → x ≡ b * k → 0 < k → b < 2 → b ≡ bit_of (not (nat_eq x 0))
tested zero zero k e positive small = refl
tested (suc x) zero k e positive small = absurd (omega arith)
tested zero (suc zero) k e positive small = absurd (omega arith)
tested (suc x) (suc zero) k e positive small = rw (eqb-suc-zero x) refl
tested x (suc (suc b)) k e positive small = absurd (omega arith)

pub bit_1_tested : (n : ℕ) → bit_at n 1 ≡ bit_of (not (nat_eq (bit_and n 2) 0))
bit_1_tested n = tested (bit_and n 2) (bit_at n 1) 2 (and_pow n 1) (omega arith) (omega arith)

pub bit_2_tested : (n : ℕ) → bit_at n 2 ≡ bit_of (not (nat_eq (bit_and n 4) 0))
bit_2_tested n = tested (bit_and n 4) (bit_at n 2) 4 (and_pow n 2) (omega arith) (omega arith)
