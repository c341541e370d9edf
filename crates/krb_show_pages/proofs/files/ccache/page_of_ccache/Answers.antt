use Rattle.krb_show_pages.proofs.Texts.{read_apart}
use Rattle.krb_show_pages.proofs.files.ccache.page_of_ccache.Goals as goal

pub returns-in_err-cache-clause-reads : goal.returns-in_err-cache-clause-reads
returns-in_err-cache-clause-reads c = λ cache is. absurd (read_apart cache c.in_err-cache.field-0.0 (c.in_err-cache.ensures.only cache is))
