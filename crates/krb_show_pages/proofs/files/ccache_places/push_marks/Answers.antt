use Rattle.std.proofs.lemmas.Result.{on_ok_weaker}
use Rattle.krb_show_pages.proofs.CcacheSizes.{marks_told}
use Rattle.krb_show_pages.proofs.files.ccache_places.push_marks.Goals as goal

pub returns : goal.returns
returns c =
    on_ok_weaker c.push_list-2.result
    (marks_told c.args.at c.each_size.result c.args.credential.now c.addresses.result c.addresses-2.result c.authorization_data.result
    c.args.places.now.items c.push_numbers.new.places.items c.push_list.new.places.items c.push_list-2.new.places.items c.addresses.ensures
    c.addresses-2.ensures c.authorization_data.ensures c.each_size.ensures c.in_ok-push_numbers.ensures c.in_ok-push_list.ensures) c.push_list-2.ensures
