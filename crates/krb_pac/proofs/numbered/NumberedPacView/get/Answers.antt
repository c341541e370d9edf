use Rattle.std.proofs.Common.{◌≡◌, sym, ap, ◌∙◌, length, arith}
use Rattle.std.proofs.lemmas.Option.{slice_get_past}
use Rattle.krb_pac.proofs.Numbering.{length_numbered, looked_up}
use Rattle.krb_pac.proofs.numbered.NumberedPacView.get.Goals as goal

pub returns-then-n-self : goal.returns-then-n-self
returns-then-n-self c =
    let long : c.self.inside.count ≡ length c.args.self.now = sym (length_numbered c.self.inside.octets.now c.self.inside.count) ∙ ap length c.self.view_is in
    sym (slice_get_past c.args.self.now c.args.n (omega arith))

pub returns : goal.returns
returns c =
    c.ok.ensures.value ∙ looked_up c.self.inside.octets.now c.args.n c.self.inside.count c.args.self.now c.buffer_at.result c.self.view_is c.if-n-self.false
    (c.self.invariant.1 c.args.n c.if-n-self.false) c.buffer_at.ensures.found c.buffer_at.ensures.rejected
