use Rattle.std.proofs.Common.{ap, sym, ◌∙◌}
use Rattle.krb_c_pages.specs.Decoding.{Decoding}
use Rattle.krb_c_pages.proofs.Told.{told_cipher}
use Rattle.krb_c_pages.proofs.decoded.decoding.tell_cipher.Goals as goal

pub returns : goal.returns
returns c =
    told_cipher _ _ _ c.args.decoding.now _ c.decoding.inside.preceding c.as_slice.result.now c.in_ok-outcome.outcome
    (sym (ap (λ (d : Decoding). d.preceding) c.decoding.view_is)) (sym (ap (λ (d : Decoding). d.keys) c.decoding.view_is) ∙ sym c.as_slice.ensures.value)
    c.in_ok-outcome.ensures c.in_ok-tell.ensures
