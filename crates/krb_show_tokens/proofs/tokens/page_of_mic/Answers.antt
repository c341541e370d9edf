use Rattle.std.proofs.Common.{refl}
use Rattle.std.proofs.lemmas.Result.{err_from_is_err_and}
use Rattle.krb_show_tokens.proofs.OneFrame.{mic_memory}
use Rattle.krb_show_tokens.proofs.tokens.page_of_mic.Goals as goal

pub returns-in_err-show : goal.returns-in_err-show
returns-in_err-show c =
    let p = err_from_is_err_and c.from_residual-in_err-show.result c.from_residual-in_err-show.ensures.1 in
    rw (p.1, p.2) (record { found = tt; reads = λ v k. refl; first_error = mic_memory c.args.octets.now _ c.in_ok-token.ensures.found })
