use Rattle.std.proofs.Common.{◌≡◌, ℕ, List, Option, Some, None, IfSome, IfOk, IfErr, Result, subst}
use Rattle.krb_pac.specs.Layout.{Buffer, PacIs}
use Rattle.krb_pac.specs.Rejected.{PacRejected, NamesOutside, RejectsUnlessError}
use Rattle.krb_pac.proofs.Entries.{outside_answers}
use Rattle.krb_pac.specs.declared.error.PacError.{PacError}
use Rattle.krb_pac.specs.declared.error.PacError.TheVariants as errors
use Rattle.krb_pac.proofs.pac.Pac.deserialize.Goals as goal

outside_known : (known : Option (List ℕ)) (items : List ℕ) (r : Result (List Buffer) PacError) → IfSome known (λ b. items ≡ b) → IfOk r (PacIs items) → IfErr r (PacRejected items)
    → IfSome known (λ b. NamesOutside b → RejectsUnlessError r errors.InvalidRange)
outside_known None items r e x y = tt
outside_known (Some b) items r e x y = λ z. outside_answers b r (subst (λ (w : List ℕ). IfOk r (PacIs w)) e x) (subst (λ (w : List ℕ). IfErr r (PacRejected w)) e y) z

pub returns-clause-range : goal.returns-clause-range
returns-clause-range g c =
    let items = c.in_ok-octets.octets.items in
    let r = c.from_octets.result in
    outside_known (g.R.Read.remaining c.args.reader) items r c.in_ok-octets.ensures.octets
    (subst (λ (w : List ℕ). IfOk r (PacIs w)) c.deref.ensures.value c.from_octets.ensures.found)
    (subst (λ (w : List ℕ). IfErr r (PacRejected w)) c.deref.ensures.value c.from_octets.ensures.rejected)
