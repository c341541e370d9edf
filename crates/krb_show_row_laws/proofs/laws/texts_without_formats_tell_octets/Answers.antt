use Rattle.krb_show_row_laws.proofs.TableLaws.{kerberos_text_tells}
use Rattle.krb_show_row_laws.proofs.laws.texts_without_formats_tell_octets.Goals as goal

pub returns : goal.returns
returns c = λ schema is name kerberos named. kerberos_text_tells schema is name kerberos named
