use Rattle.std.proofs.Common.{rules, arith, ◌≡◌, ◌*◌, ℕ, length, ap, ◌∙◌, ◌/◌, ◌++◌, take, drop, List}
use Rattle.std.proofs.Math.Seq.{take-append_seam}
use Rattle.krb_crypto_block.specs.Fold.{fold}
use Rattle.krb_crypto_block.proofs.nfold.n_fold.Goals as goal

pub returns-clause-value : goal.returns-clause-value
returns-clause-value c =
    let out : List ℕ = c.n_fold_into.new.out in
    let count : c.in_ok-folded.folded.len ≡ length out = search rules in
    let whole : take c.in_ok-folded.folded.len (out ++ drop (length out) c.in_ok-folded.folded.items) ≡ out =
    ap (λ (k : ℕ). take k (out ++ drop (length out) c.in_ok-folded.folded.items)) count ∙ take-append_seam out (drop (length out) c.in_ok-folded.folded.items) in
    let given : length c.deref_mut.result.now ≡ c.args.n / 8 = search rules in
    let size : 8 * length c.deref_mut.result.now ≡ c.args.n = omega (arith, c.requires.whole, given) in
    whole ∙ c.n_fold_into.ensures ∙ ap (fold c.args.input.now) size
