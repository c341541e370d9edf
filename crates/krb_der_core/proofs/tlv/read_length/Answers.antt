use Rattle.krb_der_core.specs.Reading.{Lengths}
use Rattle.std.proofs.Common.{◌≡◌, ◌+◌, ◌-◌, sym, get_or, arith}
use Rattle.krb_der_core.proofs.Digits.{digits_read}
use Rattle.krb_der_core.specs.LengthLaws.{nothing_read, small_read, bad_first, short_read, zero_first, needless, long_read, rejected_from_meet}
use Rattle.krb_der_core.proofs.FirstErrors.{length_missing, length_form, length_cut, length_long}
use Rattle.krb_der_core.proofs.tlv.read_length.Goals as goal

pub returns-then-is_empty-clause-rejected : goal.returns-then-is_empty-clause-rejected
returns-then-is_empty-clause-rejected c = nothing_read c.args.input.now (sym c.if-is_empty.ensures)

pub returns-then-is_empty-clause-first_error : goal.returns-then-is_empty-clause-first_error
returns-then-is_empty-clause-first_error c = length_missing c.args.input.now (sym c.if-is_empty.ensures)

pub returns-then-first-lt128-clause-found : goal.returns-then-first-lt128-clause-found
returns-then-first-lt128-clause-found c = small_read c.args.input.now (sym c.if-is_empty.ensures) c.if-first-lt128.true

pub returns-then-first-clause-rejected : goal.returns-then-first-clause-rejected
returns-then-first-clause-rejected c = rejected_from_meet Lengths c.args.input.now (bad_first c.args.input.now (sym c.if-is_empty.ensures) c.if-first-lt128.false c.then-first.either)

pub returns-then-first-clause-first_error : goal.returns-then-first-clause-first_error
returns-then-first-clause-first_error c = length_form c.args.input.now (sym c.if-is_empty.ensures) c.then-first.either

pub returns-then-input-count-clause-rejected : goal.returns-then-input-count-clause-rejected
returns-then-input-count-clause-rejected c = short_read c.args.input.now (sym c.if-is_empty.ensures) c.if-first-lt128.false c.if-input-count.true

pub returns-then-input-count-clause-first_error : goal.returns-then-input-count-clause-first_error
returns-then-input-count-clause-first_error c = length_cut c.args.input.now (sym c.if-is_empty.ensures) (omega arith) (omega arith) c.if-input-count.true

pub returns-then-octets-eq0-clause-rejected : goal.returns-then-octets-eq0-clause-rejected
returns-then-octets-eq0-clause-rejected c =
    let one : 1 + (get_or c.args.input.now 0 0 - 128) - 1 ≡ get_or c.args.input.now 0 0 - 128 = omega arith in
    rejected_from_meet Lengths c.args.input.now (zero_first c.args.input.now (sym c.if-is_empty.ensures) c.if-first-lt128.false c.if-input-count.false (rw one at c.if-octets-eq0.true))

pub returns-then-octets-eq0-clause-first_error : goal.returns-then-octets-eq0-clause-first_error
returns-then-octets-eq0-clause-first_error c =
    let one : 1 + (get_or c.args.input.now 0 0 - 128) - 1 ≡ get_or c.args.input.now 0 0 - 128 = omega arith in
    length_long c.args.input.now (sym c.if-is_empty.ensures) (omega arith) (omega arith) c.if-input-count.false (zero_first c.args.input.now (sym c.if-is_empty.ensures) c.if-first-lt128.false c.if-input-count.false (rw one at c.if-octets-eq0.true))

pub returns-then-n-lt128-clause-rejected : goal.returns-then-n-lt128-clause-rejected
returns-then-n-lt128-clause-rejected c = rejected_from_meet Lengths c.args.input.now (needless c.args.input.now c.number_of-n.result (sym c.if-is_empty.ensures) c.if-first-lt128.false c.if-input-count.false (digits_read c.args.input.now _ _ c.number_of-n.result (omega arith) (λ i. omega (arith, c.type_inv.input i)) c.if-octets-eq0.false c.number_of-n.ensures) c.if-n-lt128.true)

pub returns-then-n-lt128-clause-first_error : goal.returns-then-n-lt128-clause-first_error
returns-then-n-lt128-clause-first_error c = length_long c.args.input.now (sym c.if-is_empty.ensures) (omega arith) (omega arith) c.if-input-count.false (needless c.args.input.now c.number_of-n.result (sym c.if-is_empty.ensures) c.if-first-lt128.false c.if-input-count.false (digits_read c.args.input.now _ _ c.number_of-n.result (omega arith) (λ i. omega (arith, c.type_inv.input i)) c.if-octets-eq0.false c.number_of-n.ensures) c.if-n-lt128.true)

pub returns-clause-found : goal.returns-clause-found
returns-clause-found c = long_read c.args.input.now c.number_of-n.result (sym c.if-is_empty.ensures) c.if-first-lt128.false c.if-input-count.false (digits_read c.args.input.now _ _ c.number_of-n.result (omega arith) (λ i. omega (arith, c.type_inv.input i)) c.if-octets-eq0.false c.number_of-n.ensures) c.if-n-lt128.false
