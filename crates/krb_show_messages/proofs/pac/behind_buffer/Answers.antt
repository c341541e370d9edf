use Rattle.std.proofs.Common.{◌≡◌, ◌≢◌, ℕ, List, [], ◌∷◌, ◌++◌, length, take, replicate, ap, subst, ◌∙◌, arith}
use Rattle.std.specs.Prelude.{MatchOption}
use Rattle.krb_show_messages.specs.Pac.{padding}
use Rattle.krb_show_messages.proofs.Plain.{two_pieces, zeros_taken}
use Rattle.krb_show_messages.proofs.pac.behind_buffer.Goals as goal

pub returns-in-Some : goal.returns-in-Some
returns-in-Some c =
    let size = length c.octets-size.result.now in
    let zeros : take {A = ℕ} (padding size) (0 ∷ 0 ∷ 0 ∷ 0 ∷ 0 ∷ 0 ∷ 0 ∷ 0 ∷ []) ≡ replicate (padding (length c.args.buffer.now.octets)) 0 =
    zeros_taken (padding size) (omega arith) ∙ ap (λ (l : List ℕ). replicate (padding (length l)) 0) c.octets-size.ensures.octets in
    two_pieces c.args.octets.now c.args.buffer.now.octets (replicate (padding (length c.args.buffer.now.octets)) 0) c.in-Some.rest.now c.behind-in-Some.result
    (c.in-Some.ensures ∙ ap (λ (l : List ℕ). l ++ c.in-Some.rest.now) c.octets.ensures.octets)
    (subst (λ (z : List ℕ). MatchOption c.behind-in-Some.result ((after : List ℕ) → c.in-Some.rest.now ≢ z ++ after) (λ x. c.in-Some.rest.now ≡ z ++ x.now)) zeros c.behind-in-Some.ensures)
