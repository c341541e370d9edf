use Rattle.std.proofs.Common.{rules, ◌≡◌, length, ap, ◌∙◌, refl}
use Rattle.krb_crypto_message.proofs.DesParts.{third_within, three_parts}
use Rattle.krb_crypto_message.proofs.des.parts.concatenated.Goals as goal

pub slice_bounds-parts-end-3 : goal.slice_bounds-parts-end-3
slice_bounds-parts-end-3 c =
    let first : length c.args.first.now ≡ 8 = search rules in
    let second : length c.args.second.now ≡ 8 = search rules in
    third_within _ _ _ (ap length c.copy_from_slice.ensures.after ∙ first) (ap length c.copy_from_slice-2.ensures.after ∙ second) refl

pub returns : goal.returns
returns c =
    let first : length c.args.first.now ≡ 8 = search rules in
    let second : length c.args.second.now ≡ 8 = search rules in
    three_parts _ _ _ _ (ap length c.copy_from_slice.ensures.after ∙ first) (ap length c.copy_from_slice-2.ensures.after ∙ second) refl
    ∙ rw (c.copy_from_slice.ensures.after, c.copy_from_slice-2.ensures.after, c.copy_from_slice-3.ensures.after) refl
