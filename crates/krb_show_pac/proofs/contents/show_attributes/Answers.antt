use Rattle.std.proofs.Common.{sym, ◌∙◌, codes}
use Rattle.krb_show.specs.Tokens.{plain}
use Rattle.krb_show_pac.specs.Small.{attributes_info_of}
use Rattle.krb_show_pac.specs.Unread.{buffer_words}
use Rattle.krb_pac_contents.specs.Attributes.{attributes_of}
use Rattle.krb_show_pac.proofs.Readings.{read_shown}
use Rattle.krb_show_pac.proofs.contents.show_attributes.Goals as goal

pub returns-in-Ok-clause-ok : goal.returns-in-Ok-clause-ok
returns-in-Ok-clause-ok c =
    read_shown c.show.result (attributes_of c.args.octets.now) (attributes_info_of (plain (codes "PAC_ATTRIBUTES_INFO"))) buffer_words c.in-Ok.view _ _
    (sym c.new.ensures ∙ c.in-Ok.is) (rw c.new-in-Ok.ensures at c.show.ensures.ok)
