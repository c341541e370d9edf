use Rattle.std.proofs.Common.{sym, ◌∙◌, codes}
use Rattle.krb_show.specs.Tokens.{plain}
use Rattle.krb_show_pac.specs.Small.{upn_and_domain_of}
use Rattle.krb_show_pac.specs.Unread.{buffer_words}
use Rattle.krb_pac_contents.specs.Upn.{upn_dns_of}
use Rattle.krb_show_pac.proofs.Readings.{read_shown}
use Rattle.krb_show_pac.proofs.contents.show_upn.Goals as goal

pub returns-in-Ok-clause-ok : goal.returns-in-Ok-clause-ok
returns-in-Ok-clause-ok c =
    read_shown c.show.result (upn_dns_of c.args.octets.now) (upn_and_domain_of (plain (codes "UPN_DNS_INFO"))) buffer_words c.in-Ok.view _ _
    (sym c.new.ensures ∙ c.in-Ok.is) (rw c.new-in-Ok.ensures at c.show.ensures.ok)
