use Rattle.std.proofs.Common.{length, sym, arith}
use Rattle.std.proofs.lemmas.Bool.{eqb-true}
use Rattle.krb_message_fields.proofs.Walks.{empty_has_none, front_rejected}
use Rattle.krb_message_fields.proofs.places.rows.front.Goals as goal

pub returns-then-is_empty : goal.returns-then-is_empty
returns-then-is_empty c = empty_has_none c.args.octets.now (eqb-true (length c.args.octets.now) 0 (sym c.if-is_empty.ensures))

pub returns-in-Err : goal.returns-in-Err
returns-in-Err c = front_rejected c.args.octets.now c.in-Err.field-0 (omega arith) c.in-Err.ensures.heapless c.in-Err.ensures.rejected
