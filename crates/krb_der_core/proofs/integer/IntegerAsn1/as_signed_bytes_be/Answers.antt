use Rattle.std.proofs.Common.{◌≡◌, sym, ap, ◌∙◌, arith}
use Rattle.std.proofs.lemmas.Grind.{common_steps}
use Rattle.krb_der_core.specs.Integer.{shortest, octets_held}
use Rattle.krb_der_core.specs.IntegerLaws.{octets_below, shortest_of_number}
use Rattle.krb_der_core.proofs.integer.IntegerAsn1.as_signed_bytes_be.Goals as goal

pub returns : goal.returns
returns c =
    let s = c.self.inside in
    let octets = octets_held s.count s.few s.more.items in
    let held = rw c.deref.ensures.value at c.octets_held-octets.ensures in
    let known = rw held at c.known_octets.ensures in
    let same : c.octets_held-octets.result.now ≡ shortest c.args.self.now = held ∙ sym (shortest_of_number octets (octets_below octets known) c.self.invariant.short) ∙ ap shortest c.self.view_is in
    grind (arith, common_steps)
