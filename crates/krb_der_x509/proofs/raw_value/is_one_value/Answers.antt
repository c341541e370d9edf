use Rattle.std.proofs.Common.{length, get_or, refl, sym, arith}
use Rattle.std.proofs.lemmas.Bool.{eqb-true}
use Rattle.krb_der_x509.specs.RawValue.{is_raw_first}
use Rattle.krb_der_x509.proofs.RawValues.{match_equal, raw_empty, raw_tag, raw_whole, raw_more, raw_rejected}
use Rattle.krb_der_x509.proofs.raw_value.is_one_value.Goals as goal

pub returns-then-is_empty : goal.returns-then-is_empty
returns-then-is_empty c = raw_empty is_raw_first c.args.octets.now (eqb-true (length c.args.octets.now) 0 (sym c.if-is_empty.ensures))

pub returns-then-not-begins_value : goal.returns-then-not-begins_value
returns-then-not-begins_value c = raw_tag is_raw_first c.args.octets.now c.if-not-begins_value.ensures

pub returns-in-Ok : goal.returns-in-Ok
returns-in-Ok c =
    let octets = c.args.octets.now in
    match_equal c.in-Ok.taken (length octets)
    (λ e. raw_whole is_raw_first octets (get_or octets 0 0) c.in-Ok.taken c.in-Ok.field-0-0.now c.if-not-begins_value.ensures c.in-Ok.ensures.found e)
    (λ e. raw_more is_raw_first octets (get_or octets 0 0) c.in-Ok.taken c.in-Ok.field-0-0.now c.in-Ok.ensures.found e)

pub returns-in-Err : goal.returns-in-Err
returns-in-Err c =
    raw_rejected is_raw_first c.args.octets.now (get_or c.args.octets.now 0 0) c.in-Err.field-0 refl (omega arith) (λ k. c.in-Err.ensures.heapless k) c.in-Err.ensures.rejected
