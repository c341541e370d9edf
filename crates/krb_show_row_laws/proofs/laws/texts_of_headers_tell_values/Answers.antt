use Rattle.krb_show_row_laws.proofs.HeaderLaws.{one_header}
use Rattle.krb_show_row_laws.proofs.laws.texts_of_headers_tell_values.Goals as goal

pub returns : goal.returns
returns c = λ label name. one_header label name
