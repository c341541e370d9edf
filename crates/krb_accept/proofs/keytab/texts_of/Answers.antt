use Rattle.krb_accept.specs.Keytab.{is_text}
use Rattle.krb_accept.proofs.TextLists.{not_all}
use Rattle.krb_accept.proofs.keytab.texts_of.Goals as goal

pub returns-in_default : goal.returns-in_default
returns-in_default c =
    not_all is_text (λ x. x.now) c.args.components.now c.components.component-index _ c.components-test.true (rw c.in_default.is at c.in_ok-text.ensures)
