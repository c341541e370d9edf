use Rattle.std.proofs.Common.{take, sym, ◌∙◌, true}
use Rattle.std.proofs.lemmas.List.{take_more, append_assoc}
use Rattle.krb_show_text.specs.Json.{json_tokens, json_token}
use Rattle.krb_show_text.proofs.Printable.{printable_append}
use Rattle.krb_show_text.proofs.PrintableJson.{first_behind, json_more, first_more}
use Rattle.krb_show_text.proofs.json.push_tokens.Goals as goal

pub loop-token-preserved : goal.loop-token-preserved
loop-token-preserved c =
    rw (take_more c.args.page.now c.loop-token.token-index c.token-item.result c.loop-token-test.true, sym c.token-item.is) (
      c.in_ok-push_token.ensures.ok
          ∙ rw (c.loop-token.invariant.0, c.loop-token.invariant.2, json_more true (take c.loop-token.token-index c.args.page.now) c.token-item.result)
          (append_assoc c.args.out.now.items (json_tokens true (take c.loop-token.token-index c.args.page.now))
          (json_token (first_behind true (take c.loop-token.token-index c.args.page.now)) c.token-item.result)),
      rw (json_more true (take c.loop-token.token-index c.args.page.now) c.token-item.result)
          (printable_append (json_tokens true (take c.loop-token.token-index c.args.page.now))
          (json_token (first_behind true (take c.loop-token.token-index c.args.page.now)) c.token-item.result)
          c.loop-token.invariant.1 (rw (sym c.loop-token.invariant.2) c.in_ok-push_token.ensures.printable)),
      rw (c.begins-first.ensures, c.form.ensures) (sym (first_more true (take c.loop-token.token-index c.args.page.now) c.token-item.result)),
    )
