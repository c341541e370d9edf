use Rattle.std.proofs.Common.{take, sym, ◌∙◌, true}
use Rattle.std.proofs.lemmas.List.{take_more, append_assoc}
use Rattle.krb_show_text.specs.JsonWithPlaces.{json_token_with_place, json_tokens_with_places}
use Rattle.krb_show_text.proofs.Printable.{printable_append}
use Rattle.krb_show_text.proofs.PrintableJson.{first_behind, first_more}
use Rattle.krb_show_text.proofs.PrintablePlaces.{placed_json_more}
use Rattle.krb_show_text.proofs.json_with_places.push_tokens_with_places.Goals as goal

pub loop-token-preserved : goal.loop-token-preserved
loop-token-preserved c =
    rw (take_more c.args.page.now c.loop-token.token-index c.token-item.result c.loop-token-test.true, sym c.token-item.is) (
      c.in_ok-push_token_with_place.ensures.ok
          ∙ rw (c.loop-token.invariant.0, c.loop-token.invariant.2, placed_json_more true (take c.loop-token.token-index c.args.page.now) c.token-item.result)
          (append_assoc c.args.out.now.items (json_tokens_with_places true (take c.loop-token.token-index c.args.page.now))
          (json_token_with_place (first_behind true (take c.loop-token.token-index c.args.page.now)) c.token-item.result)),
      rw (placed_json_more true (take c.loop-token.token-index c.args.page.now) c.token-item.result)
          (printable_append (json_tokens_with_places true (take c.loop-token.token-index c.args.page.now))
          (json_token_with_place (first_behind true (take c.loop-token.token-index c.args.page.now)) c.token-item.result)
          c.loop-token.invariant.1 (rw (sym c.loop-token.invariant.2) c.in_ok-push_token_with_place.ensures.printable)),
      rw (c.begins-first.ensures, c.form.ensures) (sym (first_more true (take c.loop-token.token-index c.args.page.now) c.token-item.result)),
    )
