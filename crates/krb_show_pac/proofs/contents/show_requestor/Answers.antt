use Rattle.std.proofs.Common.{sym, ◌∙◌, codes}
use Rattle.krb_show.specs.Tokens.{plain}
use Rattle.krb_show_pac.specs.Small.{pac_requestor_of}
use Rattle.krb_show_pac.specs.Unread.{buffer_words}
use Rattle.krb_pac_contents.specs.Attributes.{requestor_of}
use Rattle.krb_show_pac.proofs.Readings.{read_shown}
use Rattle.krb_show_pac.proofs.contents.show_requestor.Goals as goal

pub returns-in-Ok-clause-ok : goal.returns-in-Ok-clause-ok
returns-in-Ok-clause-ok c =
    read_shown c.show.result (requestor_of c.args.octets.now) (pac_requestor_of (plain (codes "PAC_REQUESTOR"))) buffer_words c.in-Ok.user_sid _ _
    (sym c.requestor.ensures ∙ c.in-Ok.is) (rw c.new.ensures at c.show.ensures.ok)
