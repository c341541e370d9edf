use Rattle.krb_show.proofs.Walks.{walk_more}
use Rattle.krb_show.proofs.inserted.page_with.Goals as goal

pub tokens-preserved : goal.tokens-preserved
tokens-preserved g c = rw c.in_ok-push.ensures.items (walk_more _ _ _ _ _ _ _ _ _ c.tokens.invariant c.in_ok-insert.ensures.ok c.in_ok-insert.ensures.kept)
