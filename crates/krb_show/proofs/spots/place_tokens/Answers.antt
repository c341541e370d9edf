use Rattle.std.proofs.Common.{◌∙◌, arith, length, refl}
use Rattle.std.proofs.lemmas.Option.{slice_get_read}
use Rattle.krb_show.proofs.Placed.{step_spotted, take_where}
use Rattle.krb_show.proofs.spots.place_tokens.Goals as goal

pub places-preserved : goal.places-preserved
places-preserved g c =
    let h = c.in-Some-get.ensures.lookup in
    let page = c.places.page.items in
    let token = c.in-Some-get.token.now in
    let there = slice_get_read c.deref.result.now (length c.deref.result.now) c.places.index token refl h.3.0 h.1 in
    record {
      goes_on = step_spotted g.T.Tells.told c.args.base c.args.octets.now c.places.index c.in-Some.place.now c.in-Some.behind.now c.places.rest.now page
          c.place_where.new.page.items _ token c.in_ok-place.place c.in-Some.ensures.cases.0 (rw c.deref.ensures.value at there)
          c.in_ok-place.ensures c.place_where.ensures c.places.invariant.goes_on;
      kept = rw c.place_where.ensures
          (take_where c.in_ok-place.place c.args.start c.places.index page c.places.invariant.after ∙ c.places.invariant.kept);
      after = omega (arith, c.places.invariant.after);
    }
