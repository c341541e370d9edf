use Rattle.std.proofs.Common.{◌++◌, ◌∙◌, ℕ, List, ap, length}
use Rattle.std.specs.List.{flat_map}
use Rattle.krb_show_messages.specs.Pac.{entries_octets, head_octets, padded_octets}
use Rattle.krb_show_messages.proofs.Plain.{all_pieces, not_first, not_third}
use Rattle.krb_show_messages.proofs.pac.is_plain.Goals as goal

pub returns-in_default : goal.returns-in_default
returns-in_default c =
    let buffers = c.args.buffers.now in
    not_first c.args.octets.now (head_octets (length buffers)) (entries_octets buffers) (flat_map padded_octets buffers)
    (rw (c.head_of.ensures, c.requires.count) at c.in_default.ensures)

pub returns-in-Some-behind_buffers : goal.returns-in-Some-behind_buffers
returns-in-Some-behind_buffers c =
    let buffers = c.args.buffers.now in
    all_pieces c.args.octets.now (head_octets (length buffers)) (entries_octets buffers) (flat_map padded_octets buffers) c.in-Some.rest.now
    c.in-Some-behind_entries.rest.now c.in-Some-behind_buffers.rest.now
    (c.in-Some.ensures ∙ ap (λ (l : List ℕ). l ++ c.in-Some.rest.now) (c.head_of.ensures ∙ ap head_octets c.requires.count))
    c.in-Some-behind_entries.ensures c.in-Some-behind_buffers.ensures c.is_empty.result c.is_empty.ensures

pub returns-in-None : goal.returns-in-None
returns-in-None c =
    let buffers = c.args.buffers.now in
    not_third c.args.octets.now (head_octets (length buffers)) (entries_octets buffers) (flat_map padded_octets buffers) c.in-Some.rest.now
    c.in-Some-behind_entries.rest.now
    (c.in-Some.ensures ∙ ap (λ (l : List ℕ). l ++ c.in-Some.rest.now) (c.head_of.ensures ∙ ap head_octets c.requires.count))
    c.in-Some-behind_entries.ensures c.in-None.ensures
