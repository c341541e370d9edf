use Rattle.std.proofs.Common.{◌≡◌, ℕ, List, ◌+◌, ◌-◌, ◌≤◌, length, take, drop, ap, sym, ◌∙◌, arith}
use Rattle.std.proofs.lemmas.List.{with_items_is}
use Rattle.krb_der_core.specs.Tlv.{header}
use Rattle.krb_der_core.proofs.Growth.{closed, written_length}
use Rattle.krb_der_core.proofs.tlv.put_header.Goals as goal

pub returns-clause-ok : goal.returns-clause-ok
returns-clause-ok c =
    let out = c.args.out.now.items in
    let start = c.args.start in
    let from = c.args.from in
    let count = c.header_octets-count.result.1 in
    let moved = c.deref_mut.result.now in
    let value = c.deref_mut.ensures.value in
    let end : c.len.result ≡ length c.args.out.now.items = c.len.ensures ∙ c.args.out.now.ok.0 in
    let above : c.args.from + (c.args.start + c.header_octets-count.result.1 - c.args.from) ≡ c.args.start + c.header_octets-count.result.1 = omega (arith, c.requires.room, c.header_octets-count.ensures.two) in
    let total : c.args.start ≤ length c.deref_mut.result.now = omega (arith, ap length value, c.in_default.ensures.size, c.requires.order, c.requires.inside) in
    with_items_is c.make_room.new.out _ (written_length moved c.copy_from_slice.new.self start _ total c.copy_from_slice.ensures.len ∙ c.deref_mut.ensures.len)
    ∙ closed out moved c.copy_from_slice.new.self start from c.args.tag count c.requires.order (ap (λ (l : List ℕ). take from l) value ∙ c.in_default.ensures.before)
    (ap (λ (l : List ℕ). drop (start + count) l) value ∙ ap (λ (n : ℕ). drop n c.make_room.new.out.items) (sym above) ∙ c.in_default.ensures.after)
    (c.copy_from_slice.ensures.after ∙ c.header_octets-count.ensures.octets ∙ ap (λ (n : ℕ). header c.args.tag (n - from)) end)
