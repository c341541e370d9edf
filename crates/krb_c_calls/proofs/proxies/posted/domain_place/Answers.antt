use Rattle.std.proofs.Common.{◌≡◌, length, take, drop, refl, sym, arith}
use Rattle.std.proofs.lemmas.List.{length-drop, length-take-le}
use Rattle.krb_c_calls.proofs.Domains.{domain_at, domain_there}
use Rattle.krb_c_calls.proofs.proxies.posted.domain_place.Goals as goal

pub returns-in-Some : goal.returns-in-Some
returns-in-Some c = λ v domain e there.
    let octets = c.args.octets.now in
    let place = c.in-Some.place in
    let size : length (take place.size (drop place.offset octets)) ≡ place.size =
    length-take-le place.size (drop place.offset octets) (omega (arith, c.in-Some.ensures.inside, length-drop place.offset octets)) in
    domain_at v domain octets place e there c.in-Some.ensures (sym size) refl

pub returns-in-None : goal.returns-in-None
returns-in-None c = λ v domain e there. absurd (domain_there v domain c.args.octets.now e there (λ start end. c.in-None.ensures start end))
