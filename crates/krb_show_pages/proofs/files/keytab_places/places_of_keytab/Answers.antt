use Rattle.krb_show_pages.proofs.CcacheSizes.{on_err_anyway}
use Rattle.krb_show_pages.proofs.Texts.{read_apart}
use Rattle.krb_show_pages.proofs.files.keytab_places.places_of_keytab.Goals as goal

pub returns-in-Err-clause-places : goal.returns-in-Err-clause-places
returns-in-Err-clause-places c = record {
  found = λ entries keytab. absurd (read_apart entries c.in-Err.field-0 (c.in-Err.ensures.only entries keytab));
  none = λ no. c.new-in-Err.ensures.items;
}

pub returns-in-Ok-clause-refused : goal.returns-in-Ok-clause-refused
returns-in-Ok-clause-refused c = on_err_anyway c.keytab_places.result (c.in-Ok.field-0, c.in-Ok.ensures.found)
