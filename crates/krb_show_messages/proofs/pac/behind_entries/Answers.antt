use Rattle.std.proofs.Common.{◌++◌, ◌+◌, ◌∙◌, sym, ap, take, drop, arith}
use Rattle.krb_pac.specs.Numbered.{NumberedBuffer}
use Rattle.krb_show_messages.specs.Pac.{entries_octets, entry_octets}
use Rattle.krb_show_messages.proofs.Plain.{all_of_them, begins_more, begins_not, taken_item}
use Rattle.krb_show_messages.proofs.pac.behind_entries.Goals as goal

pub returns-in-None : goal.returns-in-None
returns-in-None c = λ after e.
    let buffers = c.args.buffers.now in
    let n = c.entries.buffer-index in
    begins_not (λ (p : NumberedBuffer). entry_octets p.info) (take n buffers) (drop (n + 1) buffers) c.buffer-item.result c.args.octets.now c.entries.rest.now c.entries.invariant.begins
    (rw (c.octets_of_entry.ensures, c.info_buffer.ensures) at c.in-None.ensures) after
    (e ∙ ap (λ l. entries_octets l ++ after) (sym (all_of_them buffers n c.buffer-item.result c.entries-test.true c.buffer-item.is)))

pub entries-preserved : goal.entries-preserved
entries-preserved c =
    let buffers = c.args.buffers.now in
    let n = c.entries.buffer-index in
    record {
      inside = omega (arith, c.entries.invariant.inside);
      begins = begins_more (λ (p : NumberedBuffer). entry_octets p.info) (take n buffers) c.buffer-item.result c.args.octets.now c.entries.rest.now c.in-Some.behind.now
          c.entries.invariant.begins (rw (c.octets_of_entry.ensures, c.info_buffer.ensures) at c.in-Some.ensures)
          ∙ ap (λ l. entries_octets l ++ c.in-Some.behind.now) (sym (taken_item buffers n c.buffer-item.result c.entries-test.true c.buffer-item.is));
    }
