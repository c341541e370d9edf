use Rattle.krb_show.proofs.Placed.{none_placed, set_placed}
use Rattle.krb_show.proofs.places.give_place.Goals as goal

pub returns-in-Some : goal.returns-in-Some
returns-in-Some c =
    let h = c.in-Some.ensures.item in
    rw (c.set_place.ensures) (set_placed c.args.place c.args.index c.args.page.now.items c.in-Some.token.now h.3.0 (h.3.1 c.in-Some.token.now))

pub returns-in_default : goal.returns-in_default
returns-in_default c = none_placed c.args.place c.args.index c.args.page.now.items c.in_default.ensures.item.3
