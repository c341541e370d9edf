use Rattle.std.proofs.Common.{codes}
use Rattle.krb_negoex.specs.View.{nego_view_layout}
use Rattle.krb_show_negoex.specs.Negoex.{named, nego_octets, nego_of}
use Rattle.krb_show_negoex.proofs.Told.{nego_length, told_message, told_rejected}
use Rattle.krb_show_negoex.proofs.page_of_nego.Goals as goal

pub returns-in-Ok : goal.returns-in-Ok
returns-in-Ok c =
    told_message nego_view_layout (λ v. v.header) nego_octets (nego_of (named c.args.is_item (codes "NEGO_MESSAGE"))) (λ page. page.items) c.args.octets.now c.in-Ok.message c.unsaid_nego.result c.page_with.result
    c.in-Ok.ensures.found (λ w x. nego_length c.args.octets.now c.in-Ok.message w c.in-Ok.ensures.found x) c.unsaid_nego.ensures (rw (c.header.ensures) at c.page_with.ensures.found)
    (rw (c.header.ensures) at c.page_with.ensures.refused)

pub returns-in-Err : goal.returns-in-Err
returns-in-Err c =
    told_rejected nego_view_layout (λ v. v.header) nego_octets (nego_of (named c.args.is_item (codes "NEGO_MESSAGE"))) (λ page. page.items) c.args.octets.now c.in-Err.error c.in-Err.ensures.rejected
