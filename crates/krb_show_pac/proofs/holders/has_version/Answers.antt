use Rattle.std.proofs.Common.{sym, ◌∙◌}
use Rattle.krb_show_pac.proofs.Names.{version_here, version_behind, version_none}
use Rattle.krb_show_pac.proofs.holders.has_version.Goals as goal

pub returns-then-starts_with : goal.returns-then-starts_with
returns-then-starts_with c =
    sym (c.loop-rest.invariant
    ∙ version_here c.loop-rest.rest.now (sym c.is_empty.ensures ∙ c.loop-rest-test.true)
    (sym c.starts_with.ensures.value ∙ c.if-starts_with.true))

pub loop-rest-preserved : goal.loop-rest-preserved
loop-rest-preserved c =
    rw c.split_at.ensures.back (c.loop-rest.invariant
    ∙ version_behind c.loop-rest.rest.now (sym c.is_empty.ensures ∙ c.loop-rest-test.true)
    (sym c.starts_with.ensures.value ∙ c.if-starts_with.false))

pub returns : goal.returns
returns c =
    sym (c.loop-rest.invariant ∙ version_none c.loop-rest.rest.now (sym c.is_empty.ensures ∙ c.loop-rest-test.false))
