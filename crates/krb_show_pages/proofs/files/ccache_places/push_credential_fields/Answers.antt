use Rattle.std.proofs.lemmas.Result.{on_ok_weaker}
use Rattle.krb_show_pages.proofs.CcacheSizes.{fields_told}
use Rattle.krb_show_pages.proofs.files.ccache_places.push_credential_fields.Goals as goal

pub returns : goal.returns
returns c =
    on_ok_weaker c.push_tickets.result
    (fields_told c.args.version c.args.at c.parties_size.result c.marks_size.result c.args.credential.now c.args.places.now.items
    c.push_parties.new.places.items c.push_marks.new.places.items c.push_tickets.new.places.items c.parties_size.ensures c.marks_size.ensures
    c.in_ok-push_parties.ensures c.in_ok-push_marks.ensures) c.push_tickets.ensures
