use Rattle.std.proofs.Common.{Bool, subst}
use Rattle.krb_show_messages.specs.Places.{places_behind_flags}
use Rattle.std.proofs.lemmas.Result.{on_ok_weaker}
use Rattle.krb_show_messages.proofs.gss_checksum.places.push_rest.Goals as goal

pub returns-then-delegates : goal.returns-then-delegates
returns-then-delegates c =
    on_ok_weaker c.push_delegation.result
    (λ x. (x.0, subst (λ (b : Bool). places_behind_flags b c.args.octets.now x.0) c.if-delegates.ensures x.1, x.2))
    c.push_delegation.ensures
