use Rattle.std.proofs.Common.{◌≡◌, List, ℕ, [], ◌∷◌, slice_index_or, length, ◌≤◌, refl, rules, drop, arith}
use Rattle.krb_gss_tokens.specs.Layout.{mic_id}
use Rattle.krb_gss_tokens.proofs.Slices.{mic_filler_begins}
use Rattle.krb_gss_tokens.proofs.mic_token.header_of.Goals as goal

pub returns-then-ne-2-clause-err : goal.returns-then-ne-2-clause-err
returns-then-ne-2-clause-err c =
    let xs : List ℕ = c.args.octets.now in
    let id : slice_index_or xs 0 0 ∷ slice_index_or xs 1 0 ∷ [] ≡ mic_id = search rules in
    let long : 8 ≤ length xs = omega arith in
    (search rules, refl, (slice_index_or xs 2 0, (drop 8 xs, mic_filler_begins xs long id)))
