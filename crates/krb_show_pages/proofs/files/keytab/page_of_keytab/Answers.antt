use Rattle.krb_show_pages.proofs.Texts.{read_apart}
use Rattle.krb_show_pages.proofs.files.keytab.page_of_keytab.Goals as goal

pub returns-in_err-keytab-clause-reads : goal.returns-in_err-keytab-clause-reads
returns-in_err-keytab-clause-reads c = λ entries is. absurd (read_apart entries c.in_err-keytab.field-0.0 (c.in_err-keytab.ensures.only entries is))
