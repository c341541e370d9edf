use Rattle.krb_show_pages.proofs.KeytabParts.{part_fits, part_found}
use Rattle.krb_show_pages.proofs.files.keytab_places.record_of.Goals as goal

pub returns-clause-found : goal.returns-clause-found
returns-clause-found c = λ r tail fits e.
    part_found c.args.octets.now c.in-Ok.count c.in-Ok.behind.now c.record_behind.result r tail c.in-Ok.ensures c.record_behind.ensures fits e

pub returns-clause-fits : goal.returns-clause-fits
returns-clause-fits c = part_fits c.args.octets.now c.in-Ok.count c.in-Ok.behind.now c.record_behind.result c.in-Ok.ensures c.record_behind.ensures
