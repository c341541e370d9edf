use Rattle.std.proofs.Common.{ℕ, List, ◌∙◌, ap, subst}
use Rattle.krb_c_accept.specs.Parts.{joined, places_behind}
use Rattle.krb_c_accept.specs.Told.{HasPlaces}
use Rattle.krb_c_accept.specs.declared.parts.Places.{Places}
use Rattle.krb_c_accept.proofs.answer.with_reply.Goals as goal

pub returns : goal.returns
returns c = record {
  parts = c.parts_of-parts.result;
  are_parts = c.parts_of-parts.ensures;
  octets_are = c.in_ok-places.ensures.appended ∙ ap (λ (before : List ℕ). joined before c.parts_of-parts.result) c.new-octets.ensures.items;
  places = subst (λ (places : Places). HasPlaces places c.told_record.result)
      (c.in_ok-places.ensures.places ∙ ap (λ (before : List ℕ). places_behind before c.parts_of-parts.result) c.new-octets.ensures.items)
      c.told_record.ensures.places;
  times = c.told_record.ensures.times;
  numbers = c.told_record.ensures.numbers;
  no_rule = c.told_record.ensures.no_rule;
}
