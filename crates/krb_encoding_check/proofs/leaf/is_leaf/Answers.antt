use Rattle.std.proofs.Common.{ℕ, ◌<◌, ◌^◌, ℤ, pos, Bool, List}
use Rattle.std.specs.Str.{IsAscii}
use Rattle.krb_der_core.specs.BitString.{IsBits, bits_content}
use Rattle.krb_der_core.specs.GeneralizedTime.{IsRealTime, time_content}
use Rattle.krb_der_core.specs.Integer.{shortest}
use Rattle.krb_der_core.specs.Primitive.{bool_content}
use Rattle.krb_encoding_check.proofs.Contents.{of_content}
use Rattle.krb_encoding_check.proofs.leaf.is_leaf.Goals as goal

pub returns-in-Integer : goal.returns-in-Integer
returns-in-Integer c = rw c.in-Integer.is (of_content 2 (λ (v : ℤ). Unit {0}) shortest c.args.content.now c.is_integer.result c.is_integer.ensures)

pub returns-in-Number : goal.returns-in-Number
returns-in-Number c = rw c.in-Number.is (of_content 2 (λ (v : ℤ). Unit {0}) shortest c.args.content.now c.is_integer-in-Number.result c.is_integer-in-Number.ensures)

pub returns-in-Microseconds : goal.returns-in-Microseconds
returns-in-Microseconds c = rw c.in-Microseconds.is (of_content 2 (λ (v : ℤ). Unit {0}) shortest c.args.content.now c.is_integer-in-Microseconds.result c.is_integer-in-Microseconds.ensures)

pub returns-in-Unsigned : goal.returns-in-Unsigned
returns-in-Unsigned c = rw c.in-Unsigned.is (of_content 2 (λ (v : ℕ). v < 2 ^ 32) (λ v. shortest (pos v)) c.args.content.now c.is_unsigned.result c.is_unsigned.ensures)

pub returns-in-Flags : goal.returns-in-Flags
returns-in-Flags c = rw c.in-Flags.is (of_content 3 IsBits bits_content c.args.content.now c.is_bit_string.result c.is_bit_string.ensures)

pub returns-in-Bits : goal.returns-in-Bits
returns-in-Bits c = rw c.in-Bits.is (of_content 3 IsBits bits_content c.args.content.now c.is_bit_string-in-Bits.result c.is_bit_string-in-Bits.ensures)

pub returns-in-Text : goal.returns-in-Text
returns-in-Text c = rw c.in-Text.is (of_content 27 IsAscii (λ (v : List ℕ). v) c.args.content.now c.is_text.result c.is_text.ensures)

pub returns-in-Component : goal.returns-in-Component
returns-in-Component c = rw c.in-Component.is (of_content 27 IsAscii (λ (v : List ℕ). v) c.args.content.now c.is_text-in-Component.result c.is_text-in-Component.ensures)

pub returns-in-Time : goal.returns-in-Time
returns-in-Time c = rw c.in-Time.is (of_content 24 IsRealTime time_content c.args.content.now c.is_time.result c.is_time.ensures)

pub returns-in-Truth : goal.returns-in-Truth
returns-in-Truth c = rw c.in-Truth.is (of_content 1 (λ (v : Bool). Unit {0}) bool_content c.args.content.now c.is_truth.result c.is_truth.ensures)
