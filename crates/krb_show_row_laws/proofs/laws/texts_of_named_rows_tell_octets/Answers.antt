use Rattle.krb_show_row_laws.proofs.NamedLaws.{named_elements_tell, named_rows_tell}
use Rattle.krb_show_row_laws.proofs.laws.texts_of_named_rows_tell_octets.Goals as goal

pub returns : goal.returns
returns c = record {
  named = λ row_name text no_leaf named. named_rows_tell row_name text no_leaf named;
  elements = λ row_name text named. named_elements_tell row_name text named;
}
