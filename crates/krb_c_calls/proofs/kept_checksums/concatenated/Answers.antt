use Rattle.std.proofs.Common.{rules, ◌≡◌, length, ap, ◌∙◌, refl}
use Rattle.krb_c_calls.proofs.KeptSums.{two_parts}
use Rattle.krb_c_calls.proofs.kept_checksums.concatenated.Goals as goal

pub returns : goal.returns
returns c =
    let first : length c.args.first.now ≡ 16 = search rules in
    two_parts _ _ (ap length c.copy_from_slice.ensures.after ∙ first) ∙ rw (c.copy_from_slice.ensures.after, c.copy_from_slice-2.ensures.after) refl
