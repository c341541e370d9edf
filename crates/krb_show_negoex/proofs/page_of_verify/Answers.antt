use Rattle.std.proofs.Common.{codes}
use Rattle.krb_negoex.specs.View.{verify_view_layout}
use Rattle.krb_show_negoex.specs.Negoex.{named, verify_octets, verify_of}
use Rattle.krb_show_negoex.proofs.Told.{verify_length, told_message, told_rejected}
use Rattle.krb_show_negoex.proofs.page_of_verify.Goals as goal

pub returns-in-Ok : goal.returns-in-Ok
returns-in-Ok c =
    told_message verify_view_layout (λ v. v.header) verify_octets (verify_of (named c.args.is_item (codes "VERIFY_MESSAGE"))) (λ page. page.items) c.args.octets.now c.in-Ok.message c.unsaid_verify.result c.page_with.result
    c.in-Ok.ensures.found (λ w x. verify_length c.args.octets.now c.in-Ok.message w c.in-Ok.ensures.found x) c.unsaid_verify.ensures (rw (c.header.ensures) at c.page_with.ensures.found)
    (rw (c.header.ensures) at c.page_with.ensures.refused)

pub returns-in-Err : goal.returns-in-Err
returns-in-Err c =
    told_rejected verify_view_layout (λ v. v.header) verify_octets (verify_of (named c.args.is_item (codes "VERIFY_MESSAGE"))) (λ page. page.items) c.args.octets.now c.in-Err.error c.in-Err.ensures.rejected
