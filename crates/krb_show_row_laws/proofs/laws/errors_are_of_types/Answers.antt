use Rattle.krb_show_row_laws.proofs.Taken.{page_errors, row_errors}
use Rattle.krb_show_row_laws.proofs.laws.errors_are_of_types.Goals as goal

pub returns-clause-refused : goal.returns-clause-refused
returns-clause-refused g c = row_errors g.T.DerEncode

pub returns-clause-pages : goal.returns-clause-pages
returns-clause-pages g c = page_errors g.T.DerEncode
