use Rattle.krb_c_calls.specs.Shown.{IsShown, RefusesShowing, secrets_of}
use Rattle.krb_c_calls.proofs.Answered.{answered}
use Rattle.krb_c_calls.proofs.items.shown.show.Goals as goal

pub returns : goal.returns
returns c =
    let right = rw c.secrets_of-secrets.ensures at c.shown.ensures in
    answered c.shown.result (λ made. made.items) (IsShown c.args.is_json (secrets_of c.args.shows_secrets) c.args.type_name.now c.args.octets.now)
    (RefusesShowing c.args.type_name.now c.args.octets.now) _ _ _ _ right c.hand_out.ensures
