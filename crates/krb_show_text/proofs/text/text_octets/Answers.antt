use Rattle.std.proofs.Common.{take, arith, sym, ◌∙◌}
use Rattle.std.proofs.lemmas.List.{take_more, length-take}
use Rattle.krb_show_text.specs.Text.{page_lines, lines_of}
use Rattle.krb_show_text.proofs.Lines.{depth_behind, lines_more, text_more, depth_more, depth_small, are_lines_append}
use Rattle.krb_show_text.proofs.text.text_octets.Goals as goal

pub depth_after-depth-requires : goal.depth_after-depth-requires
depth_after-depth-requires c =
    omega (arith, c.loop-token.invariant.2, depth_small 0 (take c.loop-token.token-index c.args.page.now), length-take c.loop-token.token-index c.args.page.now, c.loop-token-test.true)

pub loop-token-preserved : goal.loop-token-preserved
loop-token-preserved c =
    rw (take_more c.args.page.now c.loop-token.token-index c.token-item.result c.loop-token-test.true, sym c.token-item.is) (
      c.in_ok-push_lines.ensures.ok
          ∙ rw (c.loop-token.invariant.0, c.loop-token.invariant.2) (sym (text_more (take c.loop-token.token-index c.args.page.now) c.token-item.result)),
      rw (lines_more 0 (take c.loop-token.token-index c.args.page.now) c.token-item.result)
          (are_lines_append (page_lines 0 (take c.loop-token.token-index c.args.page.now))
          (lines_of (depth_behind 0 (take c.loop-token.token-index c.args.page.now)) c.token-item.result.form c.token-item.result)
          c.loop-token.invariant.1 (rw (sym c.loop-token.invariant.2) c.in_ok-push_lines.ensures.printable)),
      rw (c.depth_after-depth.ensures, c.form.ensures, c.loop-token.invariant.2)
          (sym (depth_more 0 (take c.loop-token.token-index c.args.page.now) c.token-item.result)),
    )
