use Rattle.std.proofs.Common.{◌≡◌, ℕ, List, ◌++◌, subst, MatchOption}
use Rattle.krb_accept.specs.Frame.{front_of}
use Rattle.krb_accept.proofs.Frames.{behind_front}
use Rattle.krb_accept.proofs.frame.message_in.Goals as goal

pub returns : goal.returns
returns c =
    let h = subst (λ (f : List ℕ). MatchOption c.behind.result ((rest : List ℕ) → c.in-Some.content.now ≡ f ++ rest → ⊥) (λ x. c.in-Some.content.now ≡ f ++ x.now))
    c.front_of.ensures c.behind.ensures in
    behind_front 96 (front_of c.args.inner) c.in-Some.content.now c.args.token.now c.behind.result c.in-Some.ensures h
