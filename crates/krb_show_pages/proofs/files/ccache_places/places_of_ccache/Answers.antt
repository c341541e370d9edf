use Rattle.std.proofs.lemmas.Result.{IfOk-weaker}
use Rattle.krb_show_pages.specs.CcachePlaces.{AreCcachePlaces, adds_ccache}
use Rattle.krb_show_pages.proofs.CcacheSizes.{on_err_anyway, places_told, whole_size}
use Rattle.krb_show_pages.proofs.files.ccache_places.places_of_ccache.Goals as goal
use Rattle.std.proofs.Common.{[], length}

pub ccache_places-requires : goal.ccache_places-requires
ccache_places-requires c = whole_size c.args.octets.now c.in-Ok.cache c.in-Ok.ensures.found

pub returns-in-Ok-clause-places : goal.returns-in-Ok-clause-places
returns-in-Ok-clause-places c =
    IfOk-weaker c.ccache_places.result (λ places. adds_ccache (length c.args.octets.now) c.in-Ok.cache [] places.items)
    (λ places. AreCcachePlaces c.args.octets.now places.items)
    (λ places told. places_told c.args.octets.now c.in-Ok.cache places.items c.in-Ok.ensures.found c.in-Ok.ensures.only told) c.ccache_places.ensures

pub returns-in-Ok-clause-refused : goal.returns-in-Ok-clause-refused
returns-in-Ok-clause-refused c = on_err_anyway c.ccache_places.result (c.in-Ok.cache, c.in-Ok.ensures.found)
