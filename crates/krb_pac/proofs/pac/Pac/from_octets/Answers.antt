use Rattle.std.proofs.Common.{◌≡◌, ℕ, ◌+◌, ◌*◌, ◌++◌, ◌∷◌, [], length, subst, arith}
use Rattle.std.proofs.lemmas.Result.{err_from_is_err_and}
use Rattle.krb_pac.specs.Layout.{BufferAt}
use Rattle.krb_pac.specs.OnePac.{one_pac}
use Rattle.krb_pac.specs.Rejected.{Before, BufferRejected}
use Rattle.krb_pac.proofs.Entries.{more_read, no_pac, rejected_there}
use Rattle.krb_pac.proofs.pac.Pac.from_octets.Goals as goal

pub returns-in_err-deserialize-clause-only : goal.returns-in_err-deserialize-clause-only
returns-in_err-deserialize-clause-only c = λ pac h.
    let p = err_from_is_err_and c.from_residual-in_err-deserialize.result c.from_residual-in_err-deserialize.ensures.1 in
    let e = c.in_err-deserialize.field-0.0 in
    let at = c.entries.invariant.place in
    let rejected : BufferRejected c.args.bytes.now (8 + 16 * length c.entries.buffers.items) e = subst (λ (k : ℕ). BufferRejected c.args.bytes.now k e) at c.in_err-deserialize.ensures.rejected in
    let count = c.in_ok-count.ensures.ok in
    let version = c.in_ok-version.ensures.ok in
    let before : Before c.args.bytes.now c.entries.buffers.items = record {
      room = omega (arith, version.0);
      version = omega (arith, version.1);
      buffers = c.entries.invariant.buffers;
      more = omega (arith, count.1);
    } in
    rw (p.1, p.2) (no_pac c.args.bytes.now pac e h (rejected_there c.args.bytes.now c.entries.buffers.items e before rejected))

pub entries-preserved : goal.entries-preserved
entries-preserved c =
    let moved = c.in_ok-deserialize.ensures.moved in
    let found : BufferAt c.args.bytes.now c.entries.position c.in_ok-deserialize.field-0 = c.in_ok-deserialize.ensures.found in
    let e : c.push.new.self.items ≡ c.entries.buffers.items ++ c.in_ok-deserialize.field-0 ∷ [] = c.in_ok-push.ensures.items in
    more_read c.args.bytes.now c.entries.position c.deserialize.new.position c.entries.counter c.entries.buffers.items c.in_ok-deserialize.field-0 c.push.new.self.items e moved c.entries.invariant found

pub returns-clause-only : goal.returns-clause-only
returns-clause-only c = λ pac h.
    let count = c.in_ok-count.ensures.ok in
    let version = c.in_ok-version.ensures.ok in
    one_pac c.args.bytes.now c.entries.buffers.items pac (record {
      room = omega (arith, version.0);
      count = omega (arith, count.1);
      version = omega (arith, version.1);
      buffers = c.entries.invariant.buffers;
    }) h
