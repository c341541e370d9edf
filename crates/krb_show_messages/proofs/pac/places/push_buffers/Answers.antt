use Rattle.std.proofs.Common.{arith}
use Rattle.krb_show_messages.proofs.PlacesLemmas.{buffer_more}
use Rattle.krb_show_messages.proofs.pac.places.push_buffers.Goals as goal

pub buffers-preserved : goal.buffers-preserved
buffers-preserved c =
    let so = c.buffers.invariant in
    record {
      inside = omega (arith, so.inside);
      at = omega (arith, so.at);
      so_far = buffer_more c.args.has_octets c.args.buffers.now c.buffers.buffer-index c.buffers.at c.buffer-item.result c.args.places.now.items c.buffers.places.items
          c.push_buffer.new.places.items c.buffers-test.true c.buffer-item.is so.at so.so_far c.in_ok-push_buffer.ensures;
    }
