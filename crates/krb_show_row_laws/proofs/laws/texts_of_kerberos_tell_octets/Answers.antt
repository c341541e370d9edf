use Rattle.krb_show_row_laws.proofs.NamedLaws.{formats_text_tells}
use Rattle.krb_show_row_laws.proofs.laws.texts_of_kerberos_tell_octets.Goals as goal

pub returns : goal.returns
returns c = λ schema is name kerberos named none. formats_text_tells schema is name kerberos named none
