use Rattle.std.proofs.Common.{◌≡◌, rules}
use Rattle.std.proofs.lemmas.Result.{IfErr-weaker, IfOk-weaker, err_from_is_err_and}
use Rattle.krb_file_tools.proofs.Caches.{found_by, unpaired, unwritten}
use Rattle.krb_file_tools.proofs.convert.kirbi.of_part.Goals as goal

pub returns-in_err-made-clause-rejected : goal.returns-in_err-made-clause-rejected
returns-in_err-made-clause-rejected c =
    let a : c.as_slice-tickets.result.now ≡ c.args.message.now.tickets = search rules in
    let b : c.as_slice-infos.result.now ≡ c.args.part.now.ticket_info = search rules in
    let p = err_from_is_err_and c.from_residual.result c.from_residual.ensures.1 in
    rw (p.1, p.2)
    (unpaired _ c.args.message.now.tickets c.args.part.now.ticket_info c.as_slice-tickets.result.now c.as_slice-infos.result.now c.in_err-made.field-0.0 a b c.in_err-made.ensures)

pub returns-clause-found : goal.returns-clause-found
returns-clause-found c =
    let a : c.as_slice-tickets.result.now ≡ c.args.message.now.tickets = search rules in
    let b : c.as_slice-infos.result.now ≡ c.args.part.now.ticket_info = search rules in
    IfOk-weaker c.of_credentials.result _ _
    (λ x h. found_by _ c.args.message.now c.args.part.now c.as_slice-tickets.result.now c.as_slice-infos.result.now c.in_ok-made.made.items c.deref.result.now x.octets.items
    x.left_out.items a b c.deref.ensures.value c.in_ok-made.ensures h)
    c.of_credentials.ensures.found

pub returns-clause-rejected : goal.returns-clause-rejected
returns-clause-rejected c =
    let a : c.as_slice-tickets.result.now ≡ c.args.message.now.tickets = search rules in
    let b : c.as_slice-infos.result.now ≡ c.args.part.now.ticket_info = search rules in
    IfErr-weaker c.of_credentials.result _ _
    (λ e h. unwritten _ c.args.message.now.tickets c.args.part.now.ticket_info c.as_slice-tickets.result.now c.as_slice-infos.result.now c.in_ok-made.made.items
    c.deref.result.now e a b c.deref.ensures.value c.in_ok-made.ensures h)
    c.of_credentials.ensures.rejected
