use Rattle.std.proofs.Common.{◌≡◌, ℕ, List, ◌+◌, length, take, drop, ap, ◌∙◌, arith}
use Rattle.krb_der_core.proofs.Growth.{raised}
use Rattle.krb_der_core.proofs.tlv.make_room.Goals as goal

pub loop-moved-preserved : goal.loop-moved-preserved
loop-moved-preserved c =
    let place = c.args.place in
    let items = c.in_ok-insert.ensures.items in
    let size : length c.loop-moved.out.items ≡ length c.args.out.now.items + c.loop-moved.moved = c.loop-moved.invariant.size in
    let parts = raised c.loop-moved.out.items c.args.out.now.items place c.loop-moved.moved 0 (omega (arith, size, c.requires)) c.loop-moved.invariant.before c.loop-moved.invariant.after in
    record {
      before = ap (λ (l : List ℕ). take place l) items ∙ parts.0;
      after = ap (λ (l : List ℕ). drop (place + (c.loop-moved.moved + 1)) l) items ∙ parts.1;
      size = omega (arith, c.in_ok-insert.ensures.len, c.insert.new.self.ok.0, c.loop-moved.out.ok.0, size);
    }
