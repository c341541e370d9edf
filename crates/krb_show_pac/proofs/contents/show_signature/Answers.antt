use Rattle.std.proofs.Common.{inl}
use Rattle.std.proofs.lemmas.Result.{on_ok_weaker}
use Rattle.krb_show_pac.proofs.contents.show_signature.Goals as goal

pub returns-in-Ok-clause-ok : goal.returns-in-Ok-clause-ok
returns-in-Ok-clause-ok c =
    on_ok_weaker c.show.result (λ shown. inl (c.in-Ok.ensures.ok.1, shown))
    (rw (c.new-in-Ok.ensures, c.in-Ok.ensures.ok.0) at c.show.ensures.ok)
