use Rattle.std.proofs.Common.{◌∙◌, inr, sym}
use Rattle.std.proofs.lemmas.Result.{err_from_is_err_and}
use Rattle.krb_file_tools.specs.Back.{no_credential}
use Rattle.krb_file_tools.proofs.Backs.{credentials_broken}
use Rattle.krb_file_tools.proofs.convert.ccache.of_tickets.Goals as goal

pub returns-then-is_none-clause-rejected : goal.returns-then-is_none-clause-rejected
returns-then-is_none-clause-rejected c = λ octets is. inr (no_credential c.args.cache.now is (sym c.requires ∙ c.if-is_none.ensures))

pub returns-in_err-entries-clause-rejected : goal.returns-in_err-entries-clause-rejected
returns-in_err-entries-clause-rejected c =
    let p = err_from_is_err_and c.from_residual.result c.from_residual.ensures.1 in
    rw (p.1, p.2)
    (λ octets is. credentials_broken _ octets c.args.cache.now c.args.kept.now c.in_err-entries.field-0.0 is c.requires c.in_err-entries.ensures.rejected)
