use Rattle.std.proofs.Common.{◌++◌, ◌+◌, ◌∙◌, sym, ap, take, drop}
use Rattle.std.specs.List.{flat_map}
use Rattle.krb_show_messages.specs.Pac.{padded_octets}
use Rattle.krb_show_messages.proofs.Plain.{all_of_them, begins_not}
use Rattle.krb_show_messages.proofs.pac.behind_buffers.Goals as goal

pub returns-in-None : goal.returns-in-None
returns-in-None c = λ after e.
    let buffers = c.args.buffers.now in
    let n = c.buffers.buffer-index in
    begins_not padded_octets (take n buffers) (drop (n + 1) buffers) c.buffer-item.result c.args.octets.now c.buffers.rest.now c.buffers.invariant.begins c.in-None.ensures after
    (e ∙ ap (λ l. flat_map padded_octets l ++ after) (sym (all_of_them buffers n c.buffer-item.result c.buffers-test.true c.buffer-item.is)))
