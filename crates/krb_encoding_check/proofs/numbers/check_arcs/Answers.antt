use Rattle.std.proofs.Common.{◌≡◌, ◌<◌, ◌-◌, length, take, drop, sym, arith, length-drop}
use Rattle.std.proofs.lemmas.Bool.{eqb-true}
use Rattle.std.proofs.lemmas.List.{take_rest}
use Rattle.krb_der_x509.proofs.ObjectIdentifiers.{positive, takes_some}
use Rattle.krb_encoding_check.proofs.Contents.{arcs_ended, arcs_more}
use Rattle.krb_encoding_check.proofs.numbers.check_arcs.Goals as goal

pub loop-rest-smaller : goal.loop-rest-smaller
loop-rest-smaller c =
    let rest = c.loop-rest.rest.now in
    let n = c.in_ok-_number.taken in
    let some : 0 < n = takes_some c.in_ok-_number._number n rest c.in_ok-_number.ensures.found in
    let trailing : take (length rest - n) (drop n rest) ≡ drop n rest = take_rest rest n in
    let pos : 0 < length rest = positive (length rest) (sym c.loop-rest-test.ensures) in
    rw trailing (omega (arith, length-drop n rest))

pub loop-rest-preserved : goal.loop-rest-preserved
loop-rest-preserved c =
    let rest = c.loop-rest.rest.now in
    let n = c.in_ok-_number.taken in
    let trailing : take (length rest - n) (drop n rest) ≡ drop n rest = take_rest rest n in
    rw trailing (arcs_more c.args.content.now rest c.in_ok-_number._number n c.loop-rest.invariant c.in_ok-_number.ensures.found c.in_ok-_number.ensures.fits)

pub returns-clause-right : goal.returns-clause-right
returns-clause-right c =
    arcs_ended c.args.content.now c.loop-rest.rest.now (positive (length c.args.content.now) (sym c.if-is_empty.ensures))
    (eqb-true (length c.loop-rest.rest.now) 0 (sym c.loop-rest-test.ensures)) c.loop-rest.invariant
