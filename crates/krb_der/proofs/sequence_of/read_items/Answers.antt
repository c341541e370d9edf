use Rattle.std.proofs.Common.{◌≡◌, ◌<◌, ◌^◌, ◌-◌, length, take, drop, arith, sym, ap, length-drop, length-append}
use Rattle.std.specs.List.{flat_map}
use Rattle.krb_der.proofs.Rows.{positive}
use Rattle.std.proofs.lemmas.Result.{err_from_is_err_and}
use Rattle.std.proofs.lemmas.List.{take_rest}
use Rattle.krb_der.proofs.Rows.{row_rejected, takes_some}
use Rattle.krb_der.proofs.sequence_of.read_items.Goals as goal

pub returns-in_err-item-clause-rejected : goal.returns-in_err-item-clause-rejected
returns-in_err-item-clause-rejected g c =
    let p = err_from_is_err_and c.from_residual.result c.from_residual.ensures.1 in
    let rest = c.loop-rest.rest.now in
    let lt : length rest < 2 ^ 64 = omega (arith, ap length c.loop-rest.invariant.parts, length-append (flat_map g.T.DerEncode.enc c.loop-rest.items.items) rest) in
    let pos : 0 < length rest = positive (length rest) (sym c.loop-rest-test.ensures) in
    rw (p.1, p.2) (row_rejected g.T.DerEncode.enc g.T.DerEncode.is_value g.T.DerEncode.first g.T.DerEncode.is_element g.T.DerEncode.one_value c.loop-rest.items.items rest c.args.octets.now c.in_err-item.field-0.0
    pos lt c.loop-rest.invariant c.in_err-item.ensures.rejected)

pub loop-rest-smaller : goal.loop-rest-smaller
loop-rest-smaller g c =
    let rest = c.loop-rest.rest.now in
    let n = c.in_ok-item.taken in
    let some : 0 < n = takes_some g.T.DerEncode.enc g.T.DerEncode.is_value g.T.DerEncode.first g.T.DerEncode.is_element g.T.DerEncode.one_value c.in_ok-item.item n rest c.in_ok-item.ensures.valid c.in_ok-item.ensures.found in
    let trailing : take (length rest - n) (drop n rest) ≡ drop n rest = take_rest rest n in
    let pos : 0 < length rest = positive (length rest) (sym c.loop-rest-test.ensures) in
    rw trailing (omega (arith, length-drop n rest))
