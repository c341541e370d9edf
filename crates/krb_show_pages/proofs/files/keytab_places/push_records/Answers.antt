use Rattle.std.proofs.Common.{◌++◌, arith}
use Rattle.krb_show_pages.specs.KeytabPlaces.{records_places}
use Rattle.krb_show_pages.proofs.KeytabParts.{records_end, records_step}
use Rattle.krb_show_pages.proofs.files.keytab_places.push_records.Goals as goal

pub records-preserved : goal.records-preserved
records-preserved c = record {
  goes_on = λ rs end fits ends e.
      let so_far = c.records.invariant.goes_on rs end fits ends e in
      records_step c.records.at c.in-Some.part c.records.rest.now so_far.0 end c.records.places.items c.push_content.new.places.items
      (c.args.places.now.items ++ records_places c.args.at rs) c.in-Some.ensures.end c.in-Some.ensures.found c.in_ok-push_content.ensures so_far.1 ends
      so_far.2 so_far.3;
  room = omega (arith, c.records.invariant.room, c.in-Some.ensures.fits.all);
}

pub returns : goal.returns
returns c = λ rs end fits ends e.
    let so_far = c.records.invariant.goes_on rs end fits ends e in
    records_end c.records.at c.records.rest.now so_far.0 end c.records.places.items (c.args.places.now.items ++ records_places c.args.at rs)
    c.in_default.ensures.found so_far.1 so_far.2 so_far.3
