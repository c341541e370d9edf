use Rattle.std.proofs.lemmas.Result.{on_ok_weaker}
use Rattle.krb_show_pages.proofs.CcacheSizes.{content_told}
use Rattle.krb_show_pages.proofs.files.ccache_places.push_content.Goals as goal

pub returns : goal.returns
returns c =
    on_ok_weaker c.push_credential_list.result
    (content_told c.header_size-principal.result c.principal_size.result c.args.cache.now c.principal.result.now c.principal-2.result.now c.args.places.now.items
    c.push_header.new.places.items c.push_principal.new.places.items c.push_credential_list.new.places.items c.header_size-principal.ensures c.principal.ensures
    c.principal-2.ensures c.principal_size.ensures c.in_ok-push_header.ensures c.in_ok-push_principal.ensures) c.push_credential_list.ensures
