use Rattle.std.proofs.Common.{◌++◌, ◌∙◌, ap, inl, inr, refl, Bool}
use Rattle.krb_show_negoex.specs.NegoexPlaces.{exchange_places}
use Rattle.std.proofs.lemmas.Result.{on_ok_weaker}
use Rattle.krb_show_negoex.proofs.places.push_exchange.Goals as goal

pub returns-in-Ok : goal.returns-in-Ok
returns-in-Ok c =
    on_ok_weaker c.push_exchange_fields.result (λ e. inl (
      c.in-Ok.message,
      c.in-Ok.ensures.found,
      c.unsaid_exchange-unsaid.result,
      c.unsaid_exchange-unsaid.ensures,
      e ∙ ap (λ (b : Bool). c.args.places.now.items ++ exchange_places c.args.base c.args.octets.now b) c.is_some.ensures,
    )) c.push_exchange_fields.ensures

pub returns-in-Err : goal.returns-in-Err
returns-in-Err c = inr (c.in-Err._error, c.in-Err.ensures.rejected, refl)
