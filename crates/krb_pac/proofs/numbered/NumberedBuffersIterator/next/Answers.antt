use Rattle.std.proofs.Common.{◌≡◌, ◌∷◌, [], ◌+◌, ◌<◌, drop, length, sym, ap, ◌∙◌, arith, rules}
use Rattle.std.proofs.lemmas.Option.{slice_get_within}
use Rattle.krb_pac.proofs.Viewed.{first_left, none_left}
use Rattle.krb_pac.proofs.numbered.NumberedBuffersIterator.next.Goals as goal

pub returns-in_err-buffer-clause-steps : goal.returns-in_err-buffer-clause-steps
returns-in_err-buffer-clause-steps c =
    let none : c.args.self.now ≡ [] = sym c.self.view_is ∙ none_left c.self.inside.pac c.self.inside.place (sym c.in_err-buffer.was ∙ c.get.ensures) in
    rw c.from_residual.ensures (none, none)

pub overflow_add-self : goal.overflow_add-self
overflow_add-self c =
    let within : c.self.inside.place < length c.self.inside.pac = slice_get_within c.self.inside.pac c.self.inside.place c.in_ok-buffer.buffer (search rules) in
    omega (arith, c.self.invariant)

pub returns-clause-steps : goal.returns-clause-steps
returns-clause-steps c = sym c.self.view_is ∙ first_left c.self.inside.pac c.self.inside.place c.in_ok-buffer.buffer (sym c.in_ok-buffer.was ∙ c.get.ensures)

pub returns-clause-goes : goal.returns-clause-goes
returns-clause-goes c =
    let left : c.args.self.now ≡ c.in_ok-buffer.buffer ∷ drop (c.self.inside.place + 1) c.self.inside.pac = sym c.self.view_is ∙ first_left c.self.inside.pac c.self.inside.place c.in_ok-buffer.buffer (sym c.in_ok-buffer.was ∙ c.get.ensures) in
    let long = ap length left in
    record { on = λ _. (tt, tt, omega (arith, long)); keeps = tt; rests = λ _. tt }
