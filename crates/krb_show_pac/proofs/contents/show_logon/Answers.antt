use Rattle.std.proofs.Common.{sym, ◌∙◌, codes}
use Rattle.krb_show.specs.Tokens.{plain}
use Rattle.krb_show_pac.specs.Logon.{validation_info_of}
use Rattle.krb_show_pac.specs.Unread.{logon_words}
use Rattle.krb_pac_contents.specs.Logon.{logon_of}
use Rattle.krb_show_pac.proofs.Readings.{read_shown}
use Rattle.krb_show_pac.proofs.contents.show_logon.Goals as goal

pub returns-in-Ok-clause-ok : goal.returns-in-Ok-clause-ok
returns-in-Ok-clause-ok c =
    read_shown c.show.result (logon_of c.args.octets.now) (validation_info_of (plain (codes "KERB_VALIDATION_INFO"))) logon_words c.in-Ok.view _ _
    (sym c.new.ensures ∙ c.in-Ok.is) (rw c.new-in-Ok.ensures at c.show.ensures.ok)
