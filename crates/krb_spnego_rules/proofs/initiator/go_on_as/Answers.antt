use Rattle.std.proofs.Common.{None, inr, subst, sym}
use Rattle.std.specs.Option.{option_copied}
use Rattle.krb_spnego_rules.specs.Fields.{items_in}
use Rattle.krb_spnego_rules.specs.InitiatorSteps.{GoesOnAs, chosen}
use Rattle.krb_spnego_rules.specs.declared.words.Role.TheVariants.{Initiator}
use Rattle.krb_spnego_rules.proofs.Doing.{goes_on}
use Rattle.krb_spnego_rules.proofs.initiator.go_on_as.Goals as goal

pub returns-in_ok-name-in-Some : goal.returns-in_ok-name-in-Some
returns-in_ok-name-in-Some g c =
    let m = g.M.Mechanism.meaning in
    let message = c.args.message.now in
    let side = chosen c.args.established c.args.list c.args.mechanism c.in_ok-name-in-Some.name c.args.terms in
    subst (λ named. GoesOnAs m c.args.established c.args.list message c.args.mechanism c.args.terms (items_in named) c.go_on.result) (sym c.in-Some.is)
    (inr (
      c.in_ok-name-in-Some.name,
      (
        c.in_ok-name-in-Some.ensures,
        goes_on m Initiator c.chosen-side.result side None message.state (option_copied c.octets.result) (items_in message.token)
            (option_copied c.octets-in-Some.result) (items_in message.mic) c.go_on.result c.chosen-side.ensures c.octets.ensures c.octets-in-Some.ensures
            c.go_on.ensures,
      ),
    ))
